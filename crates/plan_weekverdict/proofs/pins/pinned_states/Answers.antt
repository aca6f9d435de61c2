use Rattle.std.proofs.Common.{◌≡◌, ◌∙◌, ◌+◌, ℕ, None, get_or, ap}
use Rattle.plan_week.specs.declared.week.State.{State}
use Rattle.plan_week.specs.declared.week.State.TheVariants.{Open}
use Rattle.plan_week.specs.Weeks.{state_of}
use Rattle.plan_weekverdict.specs.Pins.{pin}
use Rattle.plan_weekverdict.proofs.StartLemmas.{each_more, length_more}
use Rattle.plan_weekverdict.proofs.pins.pinned_states.Goals as goal

pub loop-place-preserved : goal.loop-place-preserved
loop-place-preserved c =
    let week = c.args.week.now in
    let starts = c.args.starts.now in
    let place : ℕ = c.loop-place.place in
    let here : c.pin.result ≡ pin (get_or starts place 0) (state_of week place) =
    c.pin.ensures ∙ ap (λ (s : State). pin c.at.result s) c.state_of.ensures ∙ ap (λ (x : ℕ). pin x (state_of week place)) c.at.ensures in
    record {
      whole = length_more c.loop-place.states.items c.push.new.self.items c.pin.result place c.loop-place.invariant.whole c.in_ok-push.ensures.items;
      each = each_more (λ i s. s ≡ pin (get_or starts i 0) (state_of week i)) c.loop-place.states.items c.push.new.self.items c.pin.result (Open 0 None) place
          c.loop-place.invariant.whole c.in_ok-push.ensures.items c.loop-place.invariant.each here;
    }
