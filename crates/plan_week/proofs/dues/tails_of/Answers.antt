use Rattle.std.proofs.Common.{◌≡◌, ◌-◌, ◌+◌, ◌∙◌, ℕ, Option, ap, arith}
use Rattle.plan_week.specs.Tardiness.{wish_of, date_or, latest_due, tail_of}
use Rattle.plan_week.proofs.ListLemmas.{each_more, length_more}
use Rattle.plan_week.proofs.dues.tails_of.Goals as goal

pub loop-place-preserved : goal.loop-place-preserved
loop-place-preserved c =
    let week = c.args.week.now in
    let place : ℕ = c.loop-place.place in
    let latest : ℕ = c.latest_due-latest.result in
    let due : c.date_or.result ≡ date_or (latest_due week) (wish_of week place) =
    c.date_or.ensures ∙ ap (λ (w : Option ℕ). date_or latest w) c.wish_of.ensures ∙ ap (λ (x : ℕ). date_or x (wish_of week place)) c.latest_due-latest.ensures in
    let here : c.saturating_sub.result ≡ tail_of week place = omega (arith, c.saturating_sub.ensures, due, c.latest_due-latest.ensures) in
    record {
      whole = length_more c.loop-place.tails.items c.push.new.self.items c.saturating_sub.result place c.loop-place.invariant.whole c.in_ok-push.ensures.items;
      each = each_more (λ i x. x ≡ tail_of week i) c.loop-place.tails.items c.push.new.self.items c.saturating_sub.result 0 place
          c.loop-place.invariant.whole c.in_ok-push.ensures.items c.loop-place.invariant.each here;
    }
