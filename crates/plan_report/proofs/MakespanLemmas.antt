-- The greatest of some numbers.
use Rattle.std.proofs.Common.{ℕ, suc, max, ◌≡◌, ◌+◌, nat_cmp, ap, arith}
use Rattle.std.specs.Ordering.{ord_max}
use Rattle.plan_sgs.specs.Problem.{greatest_below}

-- the greatest of one number more
pub greatest_more : (n : ℕ) (f : ℕ → ℕ) → greatest_below (n + 1) f ≡ max (greatest_below n f) (f n)
greatest_more n f = let next : n + 1 ≡ suc n = omega arith in ap (λ (k : ℕ). greatest_below k f) next

-- the greater of two numbers
pub greater_is : (a b new : ℕ) → new ≡ ord_max nat_cmp a b → new ≡ max a b
greater_is a b new is = grind (arith, is)
