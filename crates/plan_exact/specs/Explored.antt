-- States of a running search. Only the contracts of its steps cite them.
use Rattle.std.specs.Prelude.{◌≡◌, ℕ, zero, suc, ◌-◌, Bool, true, cond, not, ◌||◌, nat_le, nat_eq, List, [], ◌∷◌, ◌++◌, length, fold, Some, None}
use Rattle.plan_exact.specs.Words.{WordTree}
use Rattle.plan_exact.specs.Visited.{Found, better}
use Rattle.plan_exact.specs.Answers.{Outcome}
use Rattle.plan_exact.specs.declared.exploration.Progress.{Progress}

-- the number of words that may still be visited, the best result so far, and whether a word was
-- skipped because the budget was used up
pub record Standing : Type 0 where
  pub left : ℕ
  pub found : Found
  pub cut : Bool

-- the budget is used up, so a word is skipped
abbrev pub stuck : Standing → Standing
stuck s = record { left = 0; found = s.found; cut = true }

-- the state after one more word, if the budget allows it
abbrev pub after_word : WordTree → Standing → List ℕ → Standing
after_word t s w =
    cond (nat_eq s.left 0) (stuck s) (record { left = s.left - 1; found = better t s.found w; cut = s.cut })

-- the state after a search of the words that begin with u and have at most n more letters
abbrev pub explored : WordTree → ℕ → List ℕ → Standing → Standing
explored t zero u s = after_word t s u
explored t (suc n) u s =
    cond (nat_eq s.left 0 || nat_le s.found.value (t.bound u)) (after_word t s u) (fold (λ p a.
    explored t n (u ++ a ∷ []) p) (after_word t s u) (t.letters u))

-- the answer of a search that ends in a state
abbrev pub outcome_so_far : Standing → Outcome
outcome_so_far s = record { optimal = not s.cut; found = s.found }

-- the state of a search by its data
abbrev pub standing_of : Progress → Standing
standing_of p =
    record {
      left = p.left;
      found = record { value = p.value; word = cond p.found (Some p.word.items) None };
      cut = p.cut;
    }

-- the state after a search of the words that begin with u
abbrev pub explored_from : WordTree → List ℕ → Standing → Standing
explored_from t u s = explored t (t.depth - length u) u s

-- the state after a search of the words that begin with the child of u by a letter
abbrev pub child_explored : WordTree → List ℕ → Standing → ℕ → Standing
child_explored t u s a = explored_from t (u ++ a ∷ []) s

-- the state after a search of the children of u by the letters of a list
abbrev pub children_explored : WordTree → List ℕ → Standing → List ℕ → Standing
children_explored t u s letters = fold (child_explored t u) s letters

-- the lists of the current path stay the same
pub record KeepsLists (old new : Progress) : Type 0 where
  pub path : new.path.items ≡ old.path.items
  pub letters : new.letters.items ≡ old.letters.items
