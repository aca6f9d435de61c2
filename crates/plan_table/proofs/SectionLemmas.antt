-- The kept lines of a text, its sections, and its keys.
use Rattle.std.proofs.Common.{◌≡◌, ℕ, ◌+◌, ◌&&◌, Bool, true, false, List, [], ◌∷◌, ◌++◌, Option, Some, map, filter, drop, refl, ap, ◌∙◌, append-nil, cond}
use Rattle.std.specs.Prelude.{not}
use Rattle.std.specs.List.{list_all, flat_map}
use Rattle.std.proofs.lemmas.Bool.{and_parts, not-true}
use Rattle.std.proofs.lemmas.List.{map-append}
use Rattle.plan_psplib.specs.Lines.{NumberedLine, trim, words, numbered_from}
use Rattle.plan_psplib.specs.Numbers.{number}
use Rattle.plan_psplib.specs.Streams.{LineWord, words_at, words_of}
use Rattle.plan_psplib.specs.Sections.{is_kept, begins_with, is_title, before_title, section, section_from, key_line}

-- the kept ones of lines, of which the first has the number n
abbrev pub kept_from : ℕ → List (List ℕ) → List NumberedLine
kept_from n ls = filter (λ line. is_kept line.text) (numbered_from n ls)

-- a line as it is kept
abbrev pub kept_at : ℕ → List ℕ → NumberedLine
kept_at n l = record { number = n; text = trim l }

-- no line begins with a front
abbrev pub none_begins : List ℕ → List (List ℕ) → Bool
none_begins front ls = list_all (λ l. not (begins_with (trim l) front)) ls

-- no line is a title
abbrev pub no_titles : List (List ℕ) → Bool
no_titles ls = list_all (λ l. not (is_title (trim l))) ls

-- ---- sections

-- the section of a title stands behind lines that don't begin with it
pub section_past : (title : List ℕ) (ls rest : List (List ℕ)) (n : ℕ) → none_begins title ls ≡ true →
    (m : ℕ) × (section title (kept_from n (ls ++ rest)) ≡ section title (kept_from m rest))
section_past title [] rest n none = (n, refl)
section_past title (l ∷ ls) rest n none =
    let parts = and_parts (not (begins_with (trim l) title)) (none_begins title ls) none in
    let further = section_past title ls rest (n + 1) parts.1 in
    (further.0, by_kept (is_kept (trim l)) ∙ further.1)
  where
    by_kept : (b : Bool) → section title (cond b (kept_at n l ∷ kept_from (n + 1) (ls ++ rest)) (kept_from (n + 1) (ls ++ rest))) ≡ section title (kept_from (n + 1) (ls ++ rest))
    by_kept true = ap (λ b. cond b (Some (section_from n (kept_from (n + 1) (ls ++ rest)))) (section title (kept_from (n + 1) (ls ++ rest))))
        (not-true (begins_with (trim l) title) (and_parts (not (begins_with (trim l) title)) (none_begins title ls) none).0)
    by_kept false = refl

-- a title line
pub section_at : (title l : List ℕ) (rest : List (List ℕ)) (n : ℕ) → is_kept (trim l) ≡ true → begins_with (trim l) title ≡ true →
    section title (kept_from n (l ∷ rest)) ≡ Some (section_from n (kept_from (n + 1) rest))
section_at title l rest n kept begins =
    ap (λ b. section title (cond b (kept_at n l ∷ kept_from (n + 1) rest) (kept_from (n + 1) rest))) kept
    ∙ ap (λ b. cond b (Some (section_from n (kept_from (n + 1) rest))) (section title (kept_from (n + 1) rest))) begins

-- lines that are no titles stand before the next title
before_title_past : (ls rest : List (List ℕ)) (n : ℕ) → no_titles ls ≡ true →
    (m : ℕ) × (before_title (kept_from n (ls ++ rest)) ≡ kept_from n ls ++ before_title (kept_from m rest))
before_title_past [] rest n none = (n, refl)
before_title_past (l ∷ ls) rest n none =
    let parts = and_parts (not (is_title (trim l))) (no_titles ls) none in
    let further = before_title_past ls rest (n + 1) parts.1 in
    (further.0, by_kept further.0 further.1 (is_kept (trim l)))
  where
    by_kept : (m : ℕ) → before_title (kept_from (n + 1) (ls ++ rest)) ≡ kept_from (n + 1) ls ++ before_title (kept_from m rest) → (b : Bool) →
        before_title (cond b (kept_at n l ∷ kept_from (n + 1) (ls ++ rest)) (kept_from (n + 1) (ls ++ rest)))
        ≡ cond b (kept_at n l ∷ kept_from (n + 1) ls) (kept_from (n + 1) ls) ++ before_title (kept_from m rest)
    by_kept m further true = ap (λ b. cond b [] (kept_at n l ∷ before_title (kept_from (n + 1) (ls ++ rest))))
        (not-true (is_title (trim l)) (and_parts (not (is_title (trim l))) (no_titles ls) none).0)
        ∙ ap (λ kept. kept_at n l ∷ kept) further
    by_kept m further false = further

-- what stands before a title line
before_title_at : (l : List ℕ) (rest : List (List ℕ)) (n : ℕ) → is_kept (trim l) ≡ true → is_title (trim l) ≡ true → before_title (kept_from n (l ∷ rest)) ≡ []
before_title_at l rest n kept title =
    ap (λ b. before_title (cond b (kept_at n l ∷ kept_from (n + 1) rest) (kept_from (n + 1) rest))) kept
    ∙ ap (λ b. cond b [] (kept_at n l ∷ before_title (kept_from (n + 1) rest))) title

-- the words of a section are those of its lines, but for the first one, which has the heads of the
-- columns
pub section_words : (h t : List ℕ) (body rest : List (List ℕ)) (n : ℕ) →
    is_kept (trim h) ≡ true → is_title (trim h) ≡ false → no_titles body ≡ true → is_kept (trim t) ≡ true → is_title (trim t) ≡ true →
    words_of (drop 1 (before_title (kept_from n (h ∷ (body ++ t ∷ rest))))) ≡ words_of (kept_from (n + 1) body)
section_words h t body rest n kept_h no_h none kept_t is_t =
    let past = before_title_past body (t ∷ rest) (n + 1) none in
    ap (λ b. words_of (drop 1 (before_title (cond b (kept_at n h ∷ kept_from (n + 1) (body ++ t ∷ rest)) (kept_from (n + 1) (body ++ t ∷ rest)))))) kept_h
    ∙ ap (λ b. words_of (drop 1 (cond b [] (kept_at n h ∷ before_title (kept_from (n + 1) (body ++ t ∷ rest)))))) no_h
    ∙ ap words_of (past.1 ∙ ap (λ kept. kept_from (n + 1) body ++ kept) (before_title_at t rest past.0 kept_t is_t) ∙ append-nil (kept_from (n + 1) body))

-- ---- numbers

-- the numbers that a line gives
abbrev pub numbers_in : List ℕ → List (Option ℕ)
numbers_in l = cond (is_kept (trim l)) (map number (words (trim l))) []

pub words_at_number : (n : ℕ) (ws : List (List ℕ)) → map (λ (word : LineWord). number word.text) (words_at n ws) ≡ map number ws
words_at_number n [] = refl
words_at_number n (w ∷ ws) = ap (λ os. number w ∷ os) (words_at_number n ws)

-- the numbers of the words of lines are those that the lines give
pub words_numbers : (n : ℕ) (ls : List (List ℕ)) → map (λ (word : LineWord). number word.text) (words_of (kept_from n ls)) ≡ flat_map numbers_in ls
words_numbers n [] = refl
words_numbers n (l ∷ ls) = by_kept (words_numbers (n + 1) ls) (is_kept (trim l))
  where
    by_kept : map (λ (word : LineWord). number word.text) (words_of (kept_from (n + 1) ls)) ≡ flat_map numbers_in ls → (b : Bool) → map (λ (word : LineWord). number word.text) (words_of (cond b (kept_at n l ∷ kept_from (n + 1) ls) (kept_from (n + 1) ls)))
        ≡ cond b (map number (words (trim l))) [] ++ flat_map numbers_in ls
    by_kept further true =
        map-append (λ (word : LineWord). number word.text) (words_at n (words (trim l))) (words_of (kept_from (n + 1) ls))
        ∙ ap (λ os. os ++ map (λ (word : LineWord). number word.text) (words_of (kept_from (n + 1) ls))) (words_at_number n (words (trim l)))
        ∙ ap (λ os. map number (words (trim l)) ++ os) further
    by_kept further false = further

-- ---- keys

-- no line is a title or begins with a key
abbrev pub no_keys : List ℕ → List (List ℕ) → Bool
no_keys key ls = list_all (λ l. not (is_title (trim l)) && not (begins_with (trim l) key)) ls

-- the line of a key stands behind lines that don't begin with it
pub key_at : (key : List ℕ) (ls : List (List ℕ)) (l : List ℕ) (rest : List (List ℕ)) (n : ℕ) → no_keys key ls ≡ true →
    is_kept (trim l) ≡ true → is_title (trim l) ≡ false → begins_with (trim l) key ≡ true →
    (m : ℕ) × (key_line key (before_title (kept_from n (ls ++ l ∷ rest))) ≡ Some (kept_at m l))
key_at key [] l rest n none kept title begins = (
  n,
  ap (λ b. key_line key (before_title (cond b (kept_at n l ∷ kept_from (n + 1) rest) (kept_from (n + 1) rest)))) kept
      ∙ ap (λ b. key_line key (cond b [] (kept_at n l ∷ before_title (kept_from (n + 1) rest)))) title
      ∙ ap (λ b. cond b (Some (kept_at n l)) (key_line key (before_title (kept_from (n + 1) rest)))) begins,
)
key_at key (x ∷ ls) l rest n none kept title begins =
    let parts = and_parts (not (is_title (trim x)) && not (begins_with (trim x) key)) (no_keys key ls) none in
    let both = and_parts (not (is_title (trim x))) (not (begins_with (trim x) key)) parts.0 in
    let further = key_at key ls l rest (n + 1) parts.1 kept title begins in
    (further.0, by_kept both.0 both.1 (is_kept (trim x)) ∙ further.1)
  where
    by_kept : not (is_title (trim x)) ≡ true → not (begins_with (trim x) key) ≡ true → (b : Bool) →
        key_line key (before_title (cond b (kept_at n x ∷ kept_from (n + 1) (ls ++ l ∷ rest)) (kept_from (n + 1) (ls ++ l ∷ rest))))
        ≡ key_line key (before_title (kept_from (n + 1) (ls ++ l ∷ rest)))
    by_kept no_title no_key true =
        ap (λ b. key_line key (cond b [] (kept_at n x ∷ before_title (kept_from (n + 1) (ls ++ l ∷ rest))))) (not-true (is_title (trim x)) no_title)
        ∙ ap (λ b. cond b (Some (kept_at n x)) (key_line key (before_title (kept_from (n + 1) (ls ++ l ∷ rest))))) (not-true (begins_with (trim x) key) no_key)
    by_kept no_title no_key false = refl
