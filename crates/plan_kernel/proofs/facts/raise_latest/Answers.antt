use Rattle.std.proofs.Common.{◌≡◌, ◌+◌, ◌-◌, ◌∙◌, ℕ, List, min, length, get_or, ap, arith}
use Rattle.plan_kernel.specs.declared.literal.TheConstants.{LIMIT}
use Rattle.plan_kernel.specs.Literals.{at}
use Rattle.plan_kernel.proofs.FactLemmas.{latest_holds, latest_more, latest_all, latest_risen, cost_holds}
use Rattle.plan_kernel.proofs.facts.raise_latest.Goals as goal

pub loop-place-preserved : goal.loop-place-preserved
loop-place-preserved c =
    let input = c.args.input.now in
    let place : ℕ = c.loop-place.place in
    let items = c.deref-duration-items.ensures.value in
    let before = c.loop-place.invariant in
    let tail = c.at-tail.ensures ∙ ap (λ (xs : List ℕ). at xs place) c.deref.ensures.value in
    let value : c.saturating_add-reach.result ≡ min (LIMIT - c.args.upper + 1 + at input.durations.items place + at input.tails.items place) 4294967295 =
    omega (arith, c.saturating_add-reach.ensures, c.saturating_add-end.ensures, tail, ap (λ (xs : List ℕ). get_or xs place 0) items) in
    record {
      facts = latest_holds input c.args.upper place c.saturating_add-reach.result c.loop-place.facts.items c.raise.new.facts.items
          c.requires.limit (omega (arith, c.loop-place-test.true, ap length items)) before.facts (omega (arith, value)) c.raise.ensures.most;
      latest = latest_more input c.args.upper place c.saturating_add-reach.result c.loop-place.facts.items c.raise.new.facts.items value c.raise.ensures.size
          before.latest c.raise.ensures.risen c.raise.ensures.others;
      size = c.raise.ensures.size ∙ before.size;
    }

pub returns-clause-latest : goal.returns-clause-latest
returns-clause-latest c =
    let count : ℕ = length c.args.input.now.durations.items in
    latest_risen c.args.input.now c.args.upper count c.loop-place.facts.items c.raise-2.new.facts.items c.raise-2.ensures.size c.raise-2.ensures.others
    (latest_all c.args.input.now c.args.upper c.loop-place.facts.items c.loop-place.place count
    (omega (arith, c.loop-place-test.false, ap length c.deref-duration-items.ensures.value)) c.loop-place.invariant.latest)

pub returns-clause-facts : goal.returns-clause-facts
returns-clause-facts c =
    cost_holds c.args.input.now c.args.upper (length c.as_slice.result.now) (LIMIT - c.args.upper + 1) c.loop-place.facts.items c.raise-2.new.facts.items c.requires.limit
    (ap length c.as_slice.ensures.value) c.loop-place.invariant.facts (omega arith) c.raise-2.ensures.most
