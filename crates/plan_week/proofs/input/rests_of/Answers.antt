use Rattle.std.proofs.Common.{◌≡◌, ◌∙◌, ◌+◌, ℕ, List, get_or, ap}
use Rattle.plan_week.specs.declared.week.State.{State}
use Rattle.plan_week.specs.Weeks.{project_of, state_of, rest, rest_of}
use Rattle.plan_week.proofs.ListLemmas.{each_more, length_more}
use Rattle.plan_week.proofs.input.rests_of.Goals as goal

pub loop-place-preserved : goal.loop-place-preserved
unfolding project_of
loop-place-preserved c =
    let week = c.args.week.now in
    let place : ℕ = c.loop-place.place in
    let here : c.rest.result ≡ rest_of week place =
    c.rest.ensures ∙ ap (λ (s : State). rest (get_or c.deref-duration-items.result.now place 0) s) c.state_of.ensures
    ∙ ap (λ (xs : List ℕ). rest (get_or xs place 0) (state_of week place)) c.deref-duration-items.ensures.value in
    record {
      whole = length_more c.loop-place.rests.items c.push.new.self.items c.rest.result place c.loop-place.invariant.whole c.in_ok-push.ensures.items;
      each = each_more (λ i x. x ≡ rest_of week i) c.loop-place.rests.items c.push.new.self.items c.rest.result 0 place
          c.loop-place.invariant.whole c.in_ok-push.ensures.items c.loop-place.invariant.each here;
    }
