use Rattle.std.proofs.Common.{◌≡◌, ◌+◌, ◌∙◌, ℕ, List, Option, get_or, ap, subst, arith}
use Rattle.plan_week.specs.declared.week.State.{State}
use Rattle.plan_week.specs.Weeks.{project_of, state_of, rest, rest_of}
use Rattle.plan_week.specs.Inputs.{no_window}
use Rattle.plan_week.specs.Tardiness.{wish_of, date_or, latest_due, due_of, IsWindowBy}
use Rattle.plan_week.proofs.ListLemmas.{each_more, length_more}
use Rattle.plan_week.proofs.dues.limits_of.Goals as goal

pub loop-place-preserved : goal.loop-place-preserved
unfolding project_of
loop-place-preserved c =
    let week = c.args.week.now in
    let place : ℕ = c.loop-place.place in
    let late : ℕ = c.args.late in
    let due : c.date_or.result ≡ due_of week place =
    c.date_or.ensures ∙ ap (λ (w : Option ℕ). date_or c.latest_due-latest.result w) c.wish_of.ensures
    ∙ ap (λ (x : ℕ). date_or x (wish_of week place)) c.latest_due-latest.ensures in
    let lasts : c.rest-lasts.result ≡ rest_of week place =
    c.rest-lasts.ensures ∙ ap (λ (s : State). rest (get_or c.deref-duration-items.result.now place 0) s) c.state_of.ensures
    ∙ ap (λ (xs : List ℕ). rest (get_or xs place 0) (state_of week place)) c.deref-duration-items.ensures.value in
    let here : IsWindowBy place (rest_of week place) (due_of week place + late) c.window_by.result =
    subst (λ (x : ℕ). IsWindowBy place x (due_of week place + late) c.window_by.result) lasts
    (subst (λ (x : ℕ). IsWindowBy place c.rest-lasts.result (x + late) c.window_by.result) due c.window_by.ensures) in
    record {
      whole = length_more c.loop-place.limits.items c.push.new.self.items c.window_by.result place c.loop-place.invariant.whole c.in_ok-push.ensures.items;
      each = each_more (λ i w. IsWindowBy i (rest_of week i) (due_of week i + late) w) c.loop-place.limits.items c.push.new.self.items c.window_by.result no_window place
          c.loop-place.invariant.whole c.in_ok-push.ensures.items c.loop-place.invariant.each here;
    }
