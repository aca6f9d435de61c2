use Rattle.std.proofs.Common.{ℕ, ◌≡◌, ◌+◌, ◌-◌, inl, inr, sym, subst, arith}
use Rattle.std.proofs.lemmas.Bool.{cases_lt}
use Rattle.plan_sgs.specs.Verdicts.{HasShift}
use Rattle.plan_shop.specs.Shop.{problem_of}
use Rattle.plan_shop.proofs.ShopBasics.{count_is}
use Rattle.plan_shop.proofs.checks.shifts.first_shift.Goals as goal

pub returns-then-can_shift : goal.returns-then-can_shift
returns-then-can_shift c =
    let x = c.loop-x.x in
    let same : x + 1 - 1 ≡ x = omega arith in (
      omega arith,
      record {
        feasible = c.requires.feasible;
        shift = subst (λ (i : ℕ). HasShift (problem_of c.args.shop.now) c.args.starts.now i) (sym same) (c.can_shift.ensures.0 c.if-can_shift.true);
        first = λ h has. elim (cases_lt h x) [
          | inl before ↦ absurd (c.loop-x.invariant h before has)
          | inr after ↦ omega (arith, after, same)
        ];
      },
    )

pub returns : goal.returns
returns c = record {
  feasible = c.requires.feasible;
  no_shift = λ other j inside shift feasible.
      c.loop-x.invariant j (omega (
        arith,
        inside,
        c.loop-x-test.false,
        c.count-x-end.ensures.value,
        count_is
            c.args.shop.now,
      )) (record { other = other; inside = inside; shift = shift; feasible = feasible });
}
