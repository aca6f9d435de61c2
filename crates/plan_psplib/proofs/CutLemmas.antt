-- A text that is cut at its first line feed, or at its first blank.
use Rattle.std.proofs.Common.{◌≡◌, ◌<◌, ◌≤◌, ◌+◌, ◌-◌, ℕ, zero, suc, Bool, true, false, List, [], ◌∷◌, Some, None, length, take, drop, get_or, filter, refl, sym, ap, ◌∙◌, subst, arith, add-one, cond}
use Rattle.std.proofs.lemmas.Option.{cond_some}
use Rattle.std.proofs.lemmas.Bool.{ltb-true, ltb-false}
use Rattle.std.proofs.lemmas.List.{take_rest, length-take-le}
use Rattle.std.proofs.Math.Seq.{drop-cons}
use Rattle.std.proofs.lemmas.List.Splits.{slice_split_first, slice_split_none, slice_split-cons_yes, length-slice_split}
use Rattle.std.proofs.lemmas.List.Sums.{fails_before_first, passes_at_first}
use Rattle.std.specs.List.{slice_split, position, position_or_len}
use Rattle.plan_psplib.specs.Lines.{is_line_feed, is_blank, is_nonempty, without_empty_end, raw_lines, trim_start, words}

none_of : (b : Bool) (n : ℕ) → cond b (Some n) None ≡ None → b ≡ false
none_of true n e = cc
none_of false n e = refl

module _ (p : ℕ → Bool) where
  position-short : (xs : List ℕ) (i : ℕ) → position p xs ≡ Some i → (position_or_len p xs ≡ i) × (position_or_len p xs < length xs)
  position-short xs i e = let h = cond_some _ _ i e in (h.1, ltb-true _ _ h.0)

  pub position-long : (xs : List ℕ) → position p xs ≡ None → length xs ≤ position_or_len p xs
  position-long xs e = ltb-false _ _ (none_of _ _ e)

  -- the first piece ends at the first element that passes
  pub slice_split-Some : (xs : List ℕ) (i : ℕ) → position p xs ≡ Some i → slice_split p xs ≡ take i xs ∷ slice_split p (drop (i + 1) xs)
  slice_split-Some xs i e =
      let at = position-short xs i e in
      let P : ℕ → Type 0 = λ n. slice_split p xs ≡ take n xs ∷ slice_split p (drop (n + 1) xs) in
      subst P at.0 (slice_split_first p xs 0 at.1)

  -- if no element passes, there is one piece
  pub slice_split-None : (xs : List ℕ) → position p xs ≡ None → slice_split p xs ≡ xs ∷ []
  slice_split-None xs e =
      let long = position-long xs e in
      slice_split_none p xs (λ k d l. fails_before_first p xs k d (omega (arith, l, long)))

  some_piece : (xs : List ℕ) → 0 < length (slice_split p xs)
  some_piece xs = let n = length-slice_split p xs in omega (arith, n)

without_empty_end-cons : (piece : List ℕ) (pieces : List (List ℕ)) → 0 < length pieces → without_empty_end (piece ∷ pieces) ≡ piece ∷ without_empty_end pieces
without_empty_end-cons piece [] l = absurd (omega (arith, l))
without_empty_end-cons piece (next ∷ pieces) l = refl

-- the first line ends at the first line feed
pub raw_lines-Some : (text : List ℕ) (i : ℕ) → position is_line_feed text ≡ Some i → raw_lines text ≡ take i text ∷ raw_lines (take (length text - (i + 1)) (drop (i + 1) text))
raw_lines-Some text i e =
    ap without_empty_end (slice_split-Some is_line_feed text i e)
    ∙ without_empty_end-cons (take i text) (slice_split is_line_feed (drop (i + 1) text)) (some_piece is_line_feed (drop (i + 1) text))
    ∙ ap (λ rest. take i text ∷ raw_lines rest) (sym (take_rest text (i + 1)))

one_line : (text : List ℕ) → 0 < length text → without_empty_end (text ∷ []) ≡ text ∷ []
one_line [] l = absurd (omega (arith, l))
one_line (byte ∷ text) l = refl

-- a text without a line feed is one line
pub raw_lines-None : (text : List ℕ) → 0 < length text → position is_line_feed text ≡ None → raw_lines text ≡ text ∷ []
raw_lines-None text l e = ap without_empty_end (slice_split-None is_line_feed text e) ∙ one_line text l

kept_piece : (piece : List ℕ) (pieces : List (List ℕ)) → 0 < length piece → filter is_nonempty (piece ∷ pieces) ≡ piece ∷ filter is_nonempty pieces
kept_piece [] pieces l = absurd (omega (arith, l))
kept_piece (byte ∷ piece) pieces l = refl

-- the words after a blank
pub words-blank : (byte : ℕ) (text : List ℕ) → is_blank byte ≡ true → words (byte ∷ text) ≡ words text
words-blank byte text e = ap (filter is_nonempty) (slice_split-cons_yes is_blank byte text e)

-- blanks in front of the first word don't matter
pub words-trim_start : (text : List ℕ) → words (trim_start text) ≡ words text
words-trim_start [] = refl
words-trim_start (byte ∷ text) = by_byte (words-trim_start text) (is_blank byte) refl
  where
    by_byte : words (trim_start text) ≡ words text → (b : Bool) → is_blank byte ≡ b → words (cond b (trim_start text) (byte ∷ text)) ≡ words (byte ∷ text)
    by_byte rest true e = rest ∙ sym (words-blank byte text e)
    by_byte rest false e = refl

pub trim_start-trim_start : (text : List ℕ) → trim_start (trim_start text) ≡ trim_start text
trim_start-trim_start [] = refl
trim_start-trim_start (byte ∷ text) = by_byte (trim_start-trim_start text) (is_blank byte) refl
  where
    by_byte : trim_start (trim_start text) ≡ trim_start text → (b : Bool) → is_blank byte ≡ b → trim_start (cond b (trim_start text) (byte ∷ text)) ≡ cond b (trim_start text) (byte ∷ text)
    by_byte rest true e = rest
    by_byte rest false e = ap (λ b. cond b (trim_start text) (byte ∷ text)) e

pub no_words : (text : List ℕ) → length text ≡ 0 → words text ≡ []
no_words [] e = refl
no_words (byte ∷ text) e = absurd (omega (arith, e))

-- a line of blanks has no words
pub words-blanks : (text : List ℕ) → length (trim_start text) ≡ 0 → words text ≡ []
words-blanks text e = sym (words-trim_start text) ∙ no_words (trim_start text) e

length-trim_start : (text : List ℕ) → length (trim_start text) ≤ length text
length-trim_start [] = omega arith
length-trim_start (byte ∷ text) = by_byte (length-trim_start text) (is_blank byte)
  where
    by_byte : length (trim_start text) ≤ length text → (b : Bool) → length (cond b (trim_start text) (byte ∷ text)) ≤ length (byte ∷ text)
    by_byte rest true = omega (arith, rest)
    by_byte rest false = omega arith

-- a text that is trimmed begins with no blank
first_kept : (byte : ℕ) (text : List ℕ) → trim_start (byte ∷ text) ≡ byte ∷ text → is_blank byte ≡ false
first_kept byte text = by_byte (is_blank byte)
  where
    by_byte : (b : Bool) → cond b (trim_start text) (byte ∷ text) ≡ byte ∷ text → b ≡ false
    by_byte true e = let n = ap length e in let m = length-trim_start text in absurd (omega (arith, n, m))
    by_byte false e = refl

-- the first blank of a trimmed text is after its first byte
after_first_byte : (text : List ℕ) (i : ℕ) → trim_start text ≡ text → position is_blank text ≡ Some i → 0 < i
after_first_byte text zero t e =
    let at = position-short is_blank text 0 e in
    let blank : is_blank (get_or text 0 0) ≡ true = let P : ℕ → Type 0 = λ n. is_blank (get_or text n 0) ≡ true in subst P at.0 (passes_at_first is_blank text 0 at.1) in
    absurd (differ text t blank)
  where
    differ : (text : List ℕ) → trim_start text ≡ text → is_blank (get_or text 0 0) ≡ true → ⊥
    differ [] t e = let f : false ≡ true = e in cc
    differ (byte ∷ text) t e = let f : false ≡ true = sym (first_kept byte text t) ∙ e in cc
after_first_byte text (suc i) t e = omega arith

-- the first word ends at the first blank
pub words-Some : (text : List ℕ) (i : ℕ) → trim_start text ≡ text → position is_blank text ≡ Some i → words text ≡ take i text ∷ words (drop i text)
words-Some text i t e =
    let at = position-short is_blank text i e in
    let short : i < length text = omega (arith, at.0, at.1) in
    let blank : is_blank (get_or text i 0) ≡ true = let P : ℕ → Type 0 = λ n. is_blank (get_or text n 0) ≡ true in subst P at.0 (passes_at_first is_blank text 0 at.1) in
    let some : 0 < length (take i text) = let n = length-take-le i text (omega (arith, short)) in let m = after_first_byte text i t e in omega (arith, n, m) in
    let behind : words (drop i text) ≡ words (drop (i + 1) text) = ap words (drop-cons text i 0 short)
    ∙ words-blank (get_or text i 0) (drop (suc i) text) blank
    ∙ ap (λ n. words (drop n text)) (sym (add-one i)) in
    ap (filter is_nonempty) (slice_split-Some is_blank text i e)
    ∙ kept_piece (take i text) (slice_split is_blank (drop (i + 1) text)) some
    ∙ ap (λ ws. take i text ∷ ws) (sym behind)

-- a text without a blank is one word
pub words-None : (text : List ℕ) → 0 < length text → position is_blank text ≡ None → words text ≡ text ∷ []
words-None text l e = ap (filter is_nonempty) (slice_split-None is_blank text e) ∙ kept_piece text [] l

pub ruleset line_cuts = (raw_lines-Some, raw_lines-None)

pub ruleset word_cuts = (words-Some, words-None)

pub ruleset word_starts = (words-trim_start, words-blanks, trim_start-trim_start)
