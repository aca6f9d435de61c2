use Rattle.std.proofs.Common.{◌≡◌, ◌∙◌, ◌+◌, ◌≤◌, ℕ, cond, get_or, ap, arith}
use Rattle.plan_sgs.specs.Problem.{count}
use Rattle.plan_sgs.proofs.StartLemmas.{total_next}
use Rattle.plan_week.specs.declared.week.State.{State}
use Rattle.plan_week.specs.Weeks.{project_of, state_of, is_open}
use Rattle.plan_weekverdict.specs.Starts.{open_before, start_by}
use Rattle.plan_weekverdict.proofs.PinLemmas.{project_count}
use Rattle.plan_weekverdict.proofs.StartLemmas.{each_more, length_more, all_of, all_settled}
use Rattle.plan_weekverdict.proofs.starts.all_starts.Goals as goal

pub loop-place-preserved : goal.loop-place-preserved
loop-place-preserved c =
    let week = c.args.week.now in
    let given = c.args.given.now in
    let place : ℕ = c.loop-place.place in
    let here : c.start_by.result ≡ start_by week.today (get_or given (open_before week place) 0) (state_of week place) =
    c.start_by.ensures ∙ ap (λ (s : State). start_by week.today c.at.result s) c.state_of-state.ensures
    ∙ ap (λ (x : ℕ). start_by week.today x (state_of week place)) (c.at.ensures ∙ ap (λ (n : ℕ). get_or given n 0) c.loop-place.invariant.opened) in
    let counted : c.counted-next.result ≡ cond (is_open (state_of week place)) 1 0 =
    c.counted-next.ensures.value ∙ ap (λ (s : State). cond (is_open s) 1 0) c.state_of-state.ensures in
    record {
      whole = length_more c.loop-place.starts.items c.push.new.self.items c.start_by.result place c.loop-place.invariant.whole c.in_ok-push.ensures.items;
      opened = omega (arith, c.loop-place.invariant.opened, counted, total_next place (λ i. cond (is_open (state_of week i)) 1 0));
      few = omega (arith, c.loop-place.invariant.few, c.counted-next.ensures.small);
      each = each_more (λ i x. x ≡ start_by week.today (get_or given (open_before week i) 0) (state_of week i)) c.loop-place.starts.items c.push.new.self.items
          c.start_by.result 0 place c.loop-place.invariant.whole c.in_ok-push.ensures.items c.loop-place.invariant.each here;
    }

pub returns-clause-all : goal.returns-clause-all
returns-clause-all c =
    let week = c.args.week.now in
    let n : c.loop-place.place ≡ count (project_of week) =
    omega (arith, c.loop-place-test.false, c.len-place-end.ensures, c.loop-place.auto.place-end, project_count week) in
    all_of week c.args.given.now c.loop-place.starts.items c.loop-place.place n c.loop-place.invariant.whole c.loop-place.invariant.each

pub returns-clause-settled : goal.returns-clause-settled
returns-clause-settled c =
    let week = c.args.week.now in
    let n : c.loop-place.place ≡ count (project_of week) =
    omega (arith, c.loop-place-test.false, c.len-place-end.ensures, c.loop-place.auto.place-end, project_count week) in
    all_settled week c.args.given.now c.loop-place.starts.items
    (all_of week c.args.given.now c.loop-place.starts.items c.loop-place.place n c.loop-place.invariant.whole c.loop-place.invariant.each)
