-- The letters of a word, one after another.
use Rattle.std.proofs.Common.{ℕ, zero, suc, ◌<◌, List, [], ◌∷◌, take, get_or, length, Contains, arith}
use Rattle.plan_shop.specs.Shop.{JobShop}
use Rattle.plan_shop.specs.Words.{Placed, place, placed_by, job_of_letter, letters_after, Follows}

-- each letter of a word may follow those before it
pub letter_follows : (s : JobShop) (xs : List Placed) (w : List ℕ) (k : ℕ) → Follows s xs w → k < length w → Contains (letters_after s (placed_by s xs (take k w))) (get_or w k 0)
letter_follows s xs [] k follows less = absurd (omega (arith, less))
letter_follows s xs (a ∷ w) zero follows less = follows.0
letter_follows s xs (a ∷ w) (suc k) follows less = letter_follows s (place s xs (job_of_letter a)) w k follows.1 (omega (arith, less))
