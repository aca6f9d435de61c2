-- A text that is cut at its first line feed, and a line that is cut at its comment.
use Rattle.std.proofs.Common.{cond, ◌≡◌, ◌<◌, ◌≤◌, ◌+◌, ◌-◌, ℕ, Bool, true, false, List, [], ◌∷◌, Some, None, length, take, drop, refl, sym, ap, ◌∙◌, subst, arith}
use Rattle.std.proofs.lemmas.Option.{cond_some}
use Rattle.std.proofs.lemmas.Bool.{ltb-true, ltb-false}
use Rattle.std.proofs.lemmas.List.{take_rest, take_all}
use Rattle.std.proofs.lemmas.List.Splits.{slice_split_first, slice_split_none}
use Rattle.std.proofs.lemmas.List.Sums.{fails_before_first}
use Rattle.std.specs.List.{position, position_or_len}
use Rattle.plan_holidays.specs.HolidayText.{is_line_feed, is_hash, lines, before_comment}

none_of : (b : Bool) (n : ℕ) → cond b (Some n) None ≡ None → b ≡ false
none_of true n e = cc
none_of false n e = refl

position-short : (p : ℕ → Bool) (xs : List ℕ) (i : ℕ) → position p xs ≡ Some i → (position_or_len p xs ≡ i) × (position_or_len p xs < length xs)
position-short p xs i e = let h = cond_some _ _ i e in (h.1, ltb-true _ _ h.0)

position-long : (p : ℕ → Bool) (xs : List ℕ) → position p xs ≡ None → length xs ≤ position_or_len p xs
position-long p xs e = ltb-false _ _ (none_of _ _ e)

-- the first line ends at the first line feed
pub lines-Some : (text : List ℕ) (i : ℕ) → position is_line_feed text ≡ Some i
    → lines text ≡ take i text ∷ lines (take (length text - (i + 1)) (drop (i + 1) text))
lines-Some text i e =
    let at = position-short is_line_feed text i e in
    let P : ℕ → Type 0 = λ n. lines text ≡ take n text ∷ lines (drop (n + 1) text) in
    subst P at.0 (slice_split_first is_line_feed text 0 at.1) ∙ ap (λ rest. take i text ∷ lines rest) (sym (take_rest text (i + 1)))

-- a text without a line feed is one line
pub lines-None : (text : List ℕ) → position is_line_feed text ≡ None → lines text ≡ text ∷ []
lines-None text e =
    let long = position-long is_line_feed text e in
    slice_split_none is_line_feed text (λ k d l. fails_before_first is_line_feed text k d (omega (arith, l, long)))

pub ruleset line_cuts = (lines-Some, lines-None)

-- a line that has a comment
pub comment-Some : (line : List ℕ) (n : ℕ) → position is_hash line ≡ Some n → take n line ≡ before_comment line
comment-Some line n found = ap (λ k. take k line) (sym (position-short is_hash line n found).0)

-- a line that has none
pub comment-None : (line : List ℕ) → position is_hash line ≡ None → line ≡ before_comment line
comment-None line none = sym (take_all (position_or_len is_hash line) line (position-long is_hash line none))

pub ruleset comment_cuts = (comment-Some, comment-None)
