-- Sums of times along a job.
use Rattle.std.proofs.Common.{◌≡◌, ℕ, zero, suc, ◌+◌, get_or, Some, ap, arith}
use Rattle.std.specs.List.{slice_get}
use Rattle.std.proofs.lemmas.Option.{get_or_from_slice_get}
use Rattle.plan_orlib.specs.declared.steps.Step.{Step}
use Rattle.plan_shop.specs.Shop.{JobShop, idle, time_of, times_from}

-- one more at the end
pub times_from-more : (s : JobShop) (n x : ℕ) → times_from s x (suc n) ≡ times_from s x n + time_of s (x + n)
times_from-more s zero x = let is : x + 0 ≡ x = omega arith in omega (arith, ap (time_of s) is)
times_from-more s (suc n) x =
    let is : suc x + n ≡ x + suc n = omega arith in
    omega (arith, times_from-more s n (suc x), ap (time_of s) is)

-- a step that is read
pub step-is : (s : JobShop) (x : ℕ) (w : Step) → slice_get s.steps x ≡ Some w → get_or s.steps x idle ≡ w
step-is s x w here = get_or_from_slice_get s.steps x w idle here
