-- A tree of words over the letters 1, 2 and 3 that two tables describe, for the tests.
use Rattle.std.specs.Prelude.{ℕ, ◌+◌, ◌*◌, ◌%◌, max, Bool, ◌&&◌, nat_lt, List, [], ◌∷◌, length, slice_index, filter, fold}
use Rattle.plan_exact.specs.Words.{WordTree}

-- the place of a word in the tables, and the greatest floor of its prefixes
pub record Reached : Type 0 where
  pub place : ℕ
  pub bound : ℕ

-- the words of at most three letters have the places below 40, each its own
abbrev pub next_place : ℕ → ℕ → ℕ
next_place place a = (place * 3 + a) % 40

abbrev pub after_letter : List ℕ → Reached → ℕ → Reached
after_letter floors r a = record { place = next_place r.place a; bound = max r.bound (slice_index floors (next_place r.place a)) }

abbrev pub reached : List ℕ → List ℕ → Reached
reached floors w = fold (after_letter floors) (record { place = 0; bound = slice_index floors 0 }) w

-- a letter may follow a word of at most two letters if the table has a floor for the longer word
abbrev pub may_follow : List ℕ → List ℕ → ℕ → Bool
may_follow floors w a = nat_lt (length w) 3 && nat_lt 0 (slice_index floors (next_place (reached floors w).place a))

-- a word is full if the table has an end for it; its makespan is at least the floors of its
-- prefixes
abbrev pub table_tree : List ℕ → List ℕ → WordTree
table_tree floors ends = record {
  letters = λ w. filter (may_follow floors w) (1 ∷ 2 ∷ 3 ∷ []);
  bound = λ w. (reached floors w).bound;
  full = λ w. nat_lt 0 (slice_index ends (reached floors w).place);
  makespan = λ w. max (reached floors w).bound (slice_index ends (reached floors w).place);
  depth = 3;
}
