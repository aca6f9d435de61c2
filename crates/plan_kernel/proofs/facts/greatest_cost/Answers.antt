use Rattle.std.proofs.Common.{◌≡◌, ◌∙◌, ℕ, ◌+◌, ◌*◌, ◌≤◌, ◌⊎◌, inl, inr, List, length, get_or, min, max, ap, arith}
use Rattle.std.proofs.lemmas.Bool.{cases_lt}
use Rattle.plan_kernel.specs.Literals.{at}
use Rattle.plan_kernel.proofs.FactLemmas.{end_reached, end_more, cost_reached}
use Rattle.plan_kernel.proofs.facts.greatest_cost.Goals as goal

pub loop-place-preserved : goal.loop-place-preserved
loop-place-preserved c =
    let input = c.args.input.now in
    let place : ℕ = c.loop-place.place in
    let items = c.deref-duration-items.ensures.value in
    let here = ap (λ (xs : List ℕ). get_or xs place 0) items in
    let tail = c.at-tail.ensures ∙ ap (λ (xs : List ℕ). at xs place) c.deref.ensures.value in
    let sum : c.saturating_add-reach.result ≡ min (at c.args.facts.now (2 * place) + at input.durations.items place + at input.tails.items place) 4294967295 =
    omega (arith, c.saturating_add-reach.ensures, c.saturating_add-end.ensures, c.at.ensures, here, tail) in
    let top : c.max-greatest.result ≡ max c.loop-place.greatest c.saturating_add-reach.result = grind (arith, c.max-greatest.ensures) in
    let less : (c.max-greatest.result ≤ c.loop-place.greatest)
    ⊎ (c.max-greatest.result ≤ at c.args.facts.now (2 * place) + at input.durations.items place + at input.tails.items place) =
    elim (cases_lt c.loop-place.greatest c.saturating_add-reach.result) [
      | inl more ↦ inr (omega (arith, top, more, sum))
      | inr most ↦ inl (omega (arith, top, most))
    ] in
    record {
      reached = end_reached input c.args.upper place c.loop-place.greatest c.max-greatest.result c.args.facts.now
          (omega (arith, c.loop-place-test.true, ap length items)) c.requires.facts c.loop-place.invariant.reached less;
      value = end_more (λ (i : ℕ). at c.args.facts.now (2 * i) + at input.durations.items i + at input.tails.items i) place c.loop-place.greatest
          c.saturating_add-reach.result c.max-greatest.result 4294967295
          c.loop-place.invariant.value sum top;
    }

pub returns-clause-reached : goal.returns-clause-reached
returns-clause-reached c =
    let top : c.max.result ≡ max c.loop-place.greatest c.at-2.result = grind (arith, c.max.ensures) in
    cost_reached c.args.input.now c.args.upper (length c.as_slice.result.now) c.loop-place.greatest c.at-2.result c.max.result c.args.facts.now
    (ap length c.as_slice.ensures.value) c.requires.facts c.loop-place.invariant.reached c.at-2.ensures top
