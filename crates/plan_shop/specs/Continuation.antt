-- Starts that continue a partial schedule (docs/definitions.md, "Job shops").
use Rattle.std.specs.Prelude.{◌≡◌, ℕ, ◌≤◌, ◌<◌, List, [], ◌∷◌}
use Rattle.plan_shop.specs.Shop.{JobShop, count_steps, time_of, machine_of, job_of, place_of}
use Rattle.plan_shop.specs.Words.{Placed, steps_done, machine_free}

-- the starts agree with those of the placed steps
abbrev pub Agrees : (ℕ → ℕ) → List Placed → Type 0
Agrees starts [] = Unit {0}
Agrees starts (p ∷ xs) = (starts p.step ≡ p.start) × Agrees starts xs

-- the starts agree with those of the placed steps, and each unplaced step of positive time starts
-- when its machine is free or later
pub record Continues (s : JobShop) (starts : ℕ → ℕ) (xs : List Placed) : Type 0 where
  pub placed : Agrees starts xs
  pub unplaced : (x : ℕ) → x < count_steps s → steps_done xs (job_of s x) ≤ place_of s x
      → 0 < time_of s x → machine_free s xs (machine_of s x) ≤ starts x
