-- The parts of a line, one after another.
use Rattle.std.proofs.Common.{◌≡◌, ◌++◌, List, [], ◌∷◌, ℕ, refl, sym, ◌∙◌, append_assoc}

-- parts put together from the right
abbrev pub from_right : List ℕ → List (List ℕ) → List ℕ
from_right a [] = a
from_right a (b ∷ more) = a ++ from_right b more

-- the same from the left
abbrev pub from_left : List ℕ → List (List ℕ) → List ℕ
from_left a [] = a
from_left a (b ∷ more) = from_left (a ++ b) more

behind : (a b : List ℕ) (more : List (List ℕ)) → a ++ from_right b more ≡ from_left (a ++ b) more
behind a b [] = refl
behind a b (c ∷ more) = sym (append_assoc a b (from_right c more)) ∙ behind (a ++ b) c more

-- either way gives the same
pub turned : (a : List ℕ) (more : List (List ℕ)) → from_right a more ≡ from_left a more
turned a [] = refl
turned a (b ∷ more) = behind a b more
