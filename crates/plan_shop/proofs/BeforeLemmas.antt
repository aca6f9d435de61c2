-- The test whether the greater of two bounds is below a limit.
use Rattle.std.proofs.Common.{◌≡◌, ℕ, max, inl, inr, true, false, sym, ◌∙◌, arith}
use Rattle.std.specs.Prelude.{nat_lt}
use Rattle.std.proofs.lemmas.Bool.{cases_Bool, lt-ltb, le-ltb, ltb-true, ltb-false}

pub none-before : (a : ℕ) → false ≡ nat_lt a 0
none-before a = sym (le-ltb a 0 (omega arith))

pub max-late : (a b limit : ℕ) → false ≡ nat_lt a limit → false ≡ nat_lt (max a b) limit
max-late a b limit late = sym (le-ltb (max a b) limit (omega (arith, ltb-false a limit (sym late))))

pub max-before : (a b limit : ℕ) → true ≡ nat_lt a limit → nat_lt b limit ≡ nat_lt (max a b) limit
max-before a b limit before = elim (cases_Bool (nat_lt b limit)) [
  | inl yes_ ↦ yes_ ∙ sym (lt-ltb (max a b) limit (omega (arith, ltb-true a limit (sym before), ltb-true b limit yes_)))
  | inr no_ ↦ no_ ∙ sym (le-ltb (max a b) limit (omega (arith, ltb-false b limit no_)))
]
