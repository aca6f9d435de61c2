use Rattle.std.proofs.Common.{◌≡◌, ◌+◌, ℕ, subst}
use Rattle.plan_week.specs.declared.week.State.{State}
use Rattle.plan_week.specs.Weeks.{state_of}
use Rattle.plan_week.specs.Inputs.{IsWindowOf, no_window}
use Rattle.plan_week.proofs.ListLemmas.{each_more, length_more}
use Rattle.plan_week.proofs.input.windows_of.Goals as goal

pub loop-place-preserved : goal.loop-place-preserved
loop-place-preserved c =
    let week = c.args.week.now in
    let place : ℕ = c.loop-place.place in
    let here : IsWindowOf week.today place (state_of week place) c.window_of.result =
    subst (λ (s : State). IsWindowOf week.today place s c.window_of.result) c.state_of.ensures c.window_of.ensures in
    record {
      whole = length_more c.loop-place.windows.items c.push.new.self.items c.window_of.result place c.loop-place.invariant.whole c.in_ok-push.ensures.items;
      each = each_more (λ i w. IsWindowOf week.today i (state_of week i) w) c.loop-place.windows.items c.push.new.self.items c.window_of.result no_window place
          c.loop-place.invariant.whole c.in_ok-push.ensures.items c.loop-place.invariant.each here;
    }
