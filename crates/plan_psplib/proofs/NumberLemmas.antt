-- Numbers by the digits at the front of a text.
use Rattle.std.proofs.Common.{◌≡◌, ◌<◌, ◌≤◌, ◌||◌, ◌&&◌, ◌⊎◌, ◌+◌, inl, inr, ℕ, zero, suc, Bool, true, false, List, [], ◌∷◌, ◌++◌, Ok, Option, Some, None, nat_eq, length, take, drop, get_or, sym, ap, ◌∙◌, subst, arith, cond}
use Rattle.std.proofs.lemmas.Bool.{lt-ltb, le-ltb, leb-true, ne_eqb, cases_lt, cases_Bool, false≢true, false_from_ne_true}
use Rattle.std.proofs.lemmas.List.{length-take-le, take_all, length-drop, get_or-take}
use Rattle.std.proofs.lemmas.List.Folds.{list_all_at}
use Rattle.std.proofs.lemmas.List.Sums.{position_or_len_is}
use Rattle.std.specs.List.{position_or_len, list_all}
use Rattle.std.specs.Prelude.{nat_lt, nat_le}
use Rattle.plan_psplib.specs.Lines.{is_blank, trim_start, words}
use Rattle.plan_psplib.specs.Streams.{LineWord, words_at}
use Rattle.plan_psplib.specs.Tokens.{number_at, as_number, number_of_words}
use Rattle.plan_psplib.specs.Numbers.{is_digit, is_number, decimal, number, BeginsWithNumber}
use Rattle.plan_psplib.proofs.CutLemmas.{words-Some, words-None, words-blank, no_words, words-trim_start, trim_start-trim_start}
use Rattle.plan_psplib.proofs.GoesLemmas.{both_true, true_both, between_true, true_between}

neither : (a b : Bool) → a ≡ false → b ≡ false → (a || b) ≡ false
neither a b p q = ap (λ c. c || b) p ∙ q

-- a digit is no blank
digit_kept : (byte : ℕ) → is_digit byte ≡ true → is_blank byte ≡ false
digit_kept byte is =
    let least : 48 ≤ byte = leb-true 48 byte (both_true (nat_le 48 byte) (nat_le byte 57) is).0 in
    let other : (n : ℕ) → n < 48 → nat_eq byte n ≡ false = λ n l. ne_eqb byte n (λ e. omega (arith, e, l, least)) in
    neither _ _ (neither _ _ (neither _ _ (neither _ _ (neither _ _ (other 9 (omega arith)) (other 11 (omega arith))) (other 12 (omega arith))) (other 13 (omega arith))) (other 26 (omega arith))) (other 32 (omega arith))

-- each byte of a front of digits is a digit
digit_at : (n : ℕ) (text : List ℕ) (k : ℕ) → list_all is_digit (take n text) ≡ true → k < n → n ≤ length text → is_digit (get_or text k 0) ≡ true
digit_at n text k all below within = by_case (cases_Bool (is_digit (get_or (take n text) k 0))) where
  by_case : (is_digit (get_or (take n text) k 0) ≡ true) ⊎ (is_digit (get_or (take n text) k 0) ≡ false) → is_digit (get_or text k 0) ≡ true
  by_case (inl is) = ap is_digit (sym (get_or-take n text k 0 below)) ∙ is
  by_case (inr is) = let size = length-take-le n text within in
      absurd (false≢true (sym (list_all_at is_digit (take n text) k 0 (omega (arith, size, below)) is) ∙ all))

-- the first digits of a text are a number
first_number : (text : List ℕ) (n value : ℕ) → 0 < n → n ≤ 9 → n ≤ length text → list_all is_digit (take n text) ≡ true
    → value ≡ decimal (take n text) → number (take n text) ≡ Some value
first_number text n value some short within all reads =
    let size : length (take n text) ≡ n = length-take-le n text within in
    let few : (nat_le 1 (length (take n text)) && nat_le (length (take n text)) 9) ≡ true = true_between 1 9 (length (take n text)) (omega (arith, size, some)) (omega (arith, size, short)) in
    ap (λ b. cond b (Some (decimal (take n text))) None) (true_both _ _ few all) ∙ ap (λ (m : ℕ). Some m) (sym reads)

-- a word of one to nine digits is a number
pub number_some : (word : List ℕ) (n value : ℕ) → 0 < n → n ≤ 9 → n ≤ length word → length word ≤ n
    → list_all is_digit (take n word) ≡ true → value ≡ decimal (take n word) → Some value ≡ number word
number_some word n value some short within whole all reads =
    sym (ap number (sym (take_all n word whole)) ∙ first_number word n value some short within all reads)

-- a word that is empty, or goes on behind its first digits, is no number
pub number_none : (word : List ℕ) (n : ℕ) → n ≤ 9 → (n < 9 → n < length word → is_digit (get_or word n 0) ≡ false)
    → (n ≡ 0) ⊎ (n < length word) → None ≡ number word
number_none word n short stops on = sym (ap (λ b. cond b (Some (decimal word)) None) (false_from_ne_true (is_number word) never))
  where
    never : is_number word ≡ true → ⊥
    never is =
        let parts = both_true (nat_le 1 (length word) && nat_le (length word) 9) (list_all is_digit word) is in
        let sizes = between_true 1 9 (length word) parts.0 in
        let less : n < length word = elim on [ inl none ↦ omega (arith, none, sizes.0) | inr more ↦ more ] in
        let other = stops (omega (arith, less, sizes.1)) less in
        false≢true (sym (list_all_at is_digit word n 0 less other) ∙ parts.1)

abbrev index_in : List ℕ → ℕ → Option ℕ
index_in text n = cond (nat_lt n (length text)) (Some n) None

module _ (text : List ℕ) (n : ℕ) (trimmed : trim_start text ≡ text) (some : 0 < n) (within : n ≤ length text) (all : list_all is_digit (take n text) ≡ true) (ends : n < length text → is_blank (get_or text n 0) ≡ true) where
  at : position_or_len is_blank text ≡ n
  at = position_or_len_is is_blank text n 0 within (λ k l. digit_kept (get_or text k 0) (digit_at n text k all l within)) ends

  -- the first word ends behind the digits
  digits_cut : words text ≡ take n text ∷ words (drop n text)
  digits_cut = by_case (cases_lt n (length text)) where
    by_case : (n < length text) ⊎ (length text ≤ n) → words text ≡ take n text ∷ words (drop n text)
    by_case (inl l) = words-Some text n trimmed (ap (index_in text) at ∙ ap (λ b. cond b (Some n) None) (lt-ltb n (length text) l))
    by_case (inr l) =
        let size = length-drop n text in
        let one : words text ≡ text ∷ [] = words-None text (omega (arith, some, within)) (ap (index_in text) at ∙ ap (λ b. cond b (Some n) None) (le-ltb n (length text) l)) in
        let front : take n text ≡ text = take_all n text l in
        let behind : words (drop n text) ≡ [] = no_words (drop n text) (omega (arith, size, l)) in
        one ∙ ap (λ (w : List ℕ). w ∷ []) (sym front) ∙ ap (λ (ws : List (List ℕ)). take n text ∷ ws) (sym behind)

words_behind : (text : List ℕ) (n : ℕ) → n < length text → is_blank (get_or text n 0) ≡ true → words (drop (suc n) text) ≡ words (drop n text)
words_behind [] n within blank = absurd (omega arith)
words_behind (byte ∷ text) zero within blank = sym (words-blank byte text blank)
words_behind (byte ∷ text) (suc n) within blank = words_behind text n (omega arith) blank

-- the words behind a blank are those from the blank on
pub words_behind_blank : (text : List ℕ) (n : ℕ) → n < length text → is_blank (get_or text n 0) ≡ true → words (drop (n + 1) text) ≡ words (drop n text)
words_behind_blank text n within blank =
    let next : suc n ≡ n + 1 = omega arith in
    subst (λ (m : ℕ). words (drop m text) ≡ words (drop n text)) next (words_behind text n within blank)

-- the words of a text begin with the number of its first digits
pub digits_first : (rest text : List ℕ) (n value : ℕ) → text ≡ trim_start rest → 0 < n → n ≤ 9 → n ≤ length text → list_all is_digit (take n text) ≡ true → value ≡ decimal (take n text) → (n < length text → is_blank (get_or text n 0) ≡ true) → BeginsWithNumber (words rest) value (words (drop n text))
digits_first rest text n value is some short within all reads ends =
    let trimmed : trim_start text ≡ text = ap trim_start is ∙ trim_start-trim_start rest ∙ sym is in (
      take n text,
      sym (words-trim_start rest) ∙ ap words (sym is) ∙ digits_cut text n trimmed some within all ends,
      first_number text n value some short within all reads,
    )

-- a number at the front of a line is the next number of the stream
pub number_of_line : (last line n : ℕ) (old new : List (List ℕ)) (more : List LineWord) → BeginsWithNumber old n new → number_at (record { last = last; words = words_at line old ++ more }) ≡ Ok (record { value = n; line = line }, record { last = line; words = words_at line new ++ more })
unfolding number_at
number_of_line last line n old new more first =
    ap (λ (ws : List (List ℕ)). number_of_words last (words_at line ws ++ more)) first.1
    ∙ ap (λ o. as_number (record { line = line; text = first.0 }) o (record { last = line; words = words_at line new ++ more })) first.2
