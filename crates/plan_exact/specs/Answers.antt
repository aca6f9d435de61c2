-- Answers of a search within a budget (docs/definitions.md, "Search").
use Rattle.std.specs.Prelude.{ℕ, Bool, true, false, nat_le, if◌then◌else◌, List, length, take, Option, Some, None}
use Rattle.std.specs.Global.{Global}
use Rattle.std.specs.declared.vec.Vec.{Vec}
use Rattle.plan_exact.specs.Words.{WordTree, words}
use Rattle.plan_exact.specs.Visited.{Found, best, initial_found, visited_words}
use Rattle.plan_exact.specs.declared.answer.Answer.{Answer}
use Rattle.plan_exact.specs.declared.answer.Kind.{Kind}
use Rattle.plan_exact.specs.declared.answer.Kind.TheVariants.{Optimal, Budget}

-- the result of a search, and whether its value is known to be the least
pub record Outcome : Type 0 where
  pub optimal : Bool
  pub found : Found

-- the least of all if the budget suffices for the visited words, else the least of as many visited
-- words as the budget allows
unfoldable pub outcome : WordTree → ℕ → ℕ → Outcome
outcome t initial budget =
    if nat_le (length (visited_words t initial)) budget
    then record { optimal = true; found = best t (initial_found initial) (words t) }
    else record { optimal = false; found = best t (initial_found initial) (take budget (visited_words t initial)) }

-- a word as its letters
abbrev pub letters_of : Option (Vec ℕ Global) → Option (List ℕ)
letters_of None = None
letters_of (Some word) = Some word.items

abbrev pub is_optimal : Kind → Bool
is_optimal Optimal = true
is_optimal Budget = false

-- an answer as contracts see it
abbrev pub outcome_of : Answer → Outcome
outcome_of a =
    record { optimal = is_optimal a.kind; found = record { value = a.value; word = letters_of a.word } }
