-- Lines: how a text is cut into them, and what a line is without the blanks at its ends.
use Rattle.std.proofs.Common.{◌≡◌, ℕ, zero, suc, ◌-◌, ◌<◌, Bool, true, false, List, [], ◌∷◌, ◌++◌, length, filter, replicate, refl, sym, ap, ◌∙◌, subst, append_assoc, append-nil, arith, cond}
use Rattle.std.specs.Prelude.{nat_le, not, All}
use Rattle.std.specs.List.{list_all, slice_split}
use Rattle.std.specs.Fmt.{decimal}
use Rattle.std.proofs.lemmas.Bool.{leb-true, eqb-true, and_parts, and_from, not-true}
use Rattle.std.proofs.lemmas.List.{length-append}
use Rattle.std.proofs.lemmas.Fmt.{decimal_nonempty}
use Rattle.std.proofs.lemmas.List.Elements.{All-weaker}
use Rattle.std.proofs.lemmas.List.Sums.{AllPass-from_list_all}
use Rattle.std.proofs.lemmas.List.Folds.{list_all-append}
use Rattle.std.proofs.lemmas.List.Splits.{slice_split_at, slice_split_none, slice_split-cons_yes, length-slice_split}
use Rattle.plan_psplib.specs.Lines.{is_line_feed, is_blank, is_nonempty, without_empty_end, raw_lines, trim_start, before_trimmed, trim_end, words}
use Rattle.plan_table.specs.Columns.{number_column}
use Rattle.plan_table.proofs.DigitLemmas.{decimal_first, decimal_passes}

-- a byte that is no control character
abbrev pub is_plain : ℕ → Bool
is_plain byte = nat_le 32 byte

-- a text without control characters
abbrev pub IsPlain : List ℕ → Type 0
IsPlain text = list_all is_plain text ≡ true

pub plain_append : (a b : List ℕ) → IsPlain a → IsPlain b → IsPlain (a ++ b)
plain_append a b p q = list_all-append is_plain a b ∙ and_from (list_all is_plain a) (list_all is_plain b) p q

pub plain_decimal : (n : ℕ) → n < 1000000000 → IsPlain (decimal n)
plain_decimal n small = decimal_passes is_plain refl n small

pub plain_blanks : (g : ℕ) → IsPlain (replicate g 32)
plain_blanks zero = refl
plain_blanks (suc g) = plain_blanks g

pub plain_column : (places n : ℕ) → n < 1000000000 → IsPlain (number_column places n)
unfolding number_column
plain_column places n small =
    let gap = places - length (decimal n) in
    plain_append (replicate gap 32) (decimal n) (plain_blanks gap) (plain_decimal n small)

-- ---- a text as lines

none_below : (p : ℕ → Bool) → ((b : ℕ) → is_plain b ≡ true → p b ≡ false) → (line : List ℕ) → IsPlain line → All (λ b. p b ≡ false) line
none_below p f line plain = All-weaker (λ b. is_plain b ≡ true) (λ b. p b ≡ false) f line (AllPass-from_list_all is_plain line plain)

plain_no_feed : (b : ℕ) → is_plain b ≡ true → is_line_feed b ≡ false
plain_no_feed b plain = by_test (is_line_feed b) refl
  where
    by_test : (t : Bool) → is_line_feed b ≡ t → t ≡ false
    by_test true is = absurd (let low = leb-true 32 b plain in let ten : b ≡ 10 = eqb-true b 10 is in omega (arith, low, ten))
    by_test false is = refl

without_empty_end-some : (line : List ℕ) (pieces : List (List ℕ)) → 0 < length pieces → without_empty_end (line ∷ pieces) ≡ line ∷ without_empty_end pieces
without_empty_end-some line [] some = absurd (omega (arith, some))
without_empty_end-some line (next ∷ pieces) some = refl

-- a line and its end
pub raw_line : (line rest : List ℕ) → IsPlain line → raw_lines (line ++ 10 ∷ rest) ≡ line ∷ raw_lines rest
raw_line line rest plain =
    let some : 0 < length (slice_split is_line_feed rest) = let n = length-slice_split is_line_feed rest in omega (arith, n) in
    ap without_empty_end (slice_split_at is_line_feed line 10 rest (none_below is_line_feed plain_no_feed line plain) refl)
    ∙ without_empty_end-some line (slice_split is_line_feed rest) some

-- ---- words

-- a text that is empty or begins with a space
abbrev pub StartsBlank : List ℕ → Type 0
StartsBlank [] = Unit {0}
StartsBlank (b ∷ bs) = b ≡ 32

-- a byte of a word
abbrev pub is_inside : ℕ → Bool
is_inside b = not (is_blank b)

-- a text without blanks
abbrev pub IsWord : List ℕ → Type 0
IsWord text = list_all is_inside text ≡ true

pub word_decimal : (n : ℕ) → n < 1000000000 → IsWord (decimal n)
word_decimal n small = decimal_passes is_inside refl n small

no_blanks : (text : List ℕ) → IsWord text → All (λ b. is_blank b ≡ false) text
no_blanks text word = All-weaker (λ b. is_inside b ≡ true) (λ b. is_blank b ≡ false) (λ b e. not-true (is_blank b) e) text (AllPass-from_list_all is_inside text word)

-- a blank before a text
pub words-blank : (byte : ℕ) (text : List ℕ) → is_blank byte ≡ true → words (byte ∷ text) ≡ words text
words-blank byte text e = ap (filter is_nonempty) (slice_split-cons_yes is_blank byte text e)

-- spaces before a text
pub words-spaces : (g : ℕ) (text : List ℕ) → words (replicate g 32 ++ text) ≡ words text
words-spaces zero text = refl
words-spaces (suc g) text = words-blank 32 (replicate g 32 ++ text) refl ∙ words-spaces g text

-- a word, and then a blank or the end
pub word_then : (c : ℕ) (cs rest : List ℕ) → IsWord (c ∷ cs) → StartsBlank rest → words ((c ∷ cs) ++ rest) ≡ (c ∷ cs) ∷ words rest
word_then c cs [] word starts =
    ap words (append-nil (c ∷ cs)) ∙ ap (filter is_nonempty) (slice_split_none is_blank (c ∷ cs) (no_blanks (c ∷ cs) word))
word_then c cs (b ∷ bs) word starts =
    let blank : is_blank b ≡ true = ap is_blank starts in
    ap (filter is_nonempty) (slice_split_at is_blank (c ∷ cs) b bs (no_blanks (c ∷ cs) word) blank)
    ∙ ap (λ ws. (c ∷ cs) ∷ ws) (sym (words-blank b bs blank))

-- a number, and then a blank or the end
pub words-decimal : (n : ℕ) (rest : List ℕ) → n < 1000000000 → StartsBlank rest → words (decimal n ++ rest) ≡ decimal n ∷ words rest
words-decimal n rest small starts =
    let d = decimal_first n small in
    let P : List ℕ → Type 0 = λ text. words (text ++ rest) ≡ text ∷ words rest in
    subst P (sym d.is) (word_then d.first d.others rest (subst IsWord d.is (word_decimal n small)) starts)

pub words-column : (places n : ℕ) (rest : List ℕ) → n < 1000000000 → StartsBlank rest → words (number_column places n ++ rest) ≡ decimal n ∷ words rest
unfolding number_column
words-column places n rest small starts =
    let gap = places - length (decimal n) in
    ap words (append_assoc (replicate gap 32) (decimal n) rest) ∙ words-spaces gap (decimal n ++ rest) ∙ words-decimal n rest small starts

-- ---- trimming

trim_start-spaces : (g : ℕ) (text : List ℕ) → trim_start (replicate g 32 ++ text) ≡ trim_start text
trim_start-spaces zero text = refl
trim_start-spaces (suc g) text = trim_start-spaces g text

inside_first : (c : ℕ) (cs : List ℕ) → IsWord (c ∷ cs) → is_blank c ≡ false
inside_first c cs word = not-true (is_blank c) (and_parts (is_inside c) (list_all is_inside cs) word).0

pub trim_start-word : (c : ℕ) (cs rest : List ℕ) → IsWord (c ∷ cs) → trim_start ((c ∷ cs) ++ rest) ≡ (c ∷ cs) ++ rest
trim_start-word c cs rest word = ap (λ b. cond b (trim_start (cs ++ rest)) (c ∷ cs ++ rest)) (inside_first c cs word)

pub trim_start-column : (places n : ℕ) (rest : List ℕ) → n < 1000000000 → trim_start (number_column places n ++ rest) ≡ decimal n ++ rest
unfolding number_column
trim_start-column places n rest small =
    let gap = places - length (decimal n) in
    let d = decimal_first n small in
    let P : List ℕ → Type 0 = λ text. trim_start (text ++ rest) ≡ text ++ rest in
    ap trim_start (append_assoc (replicate gap 32) (decimal n) rest) ∙ trim_start-spaces gap (decimal n ++ rest)
    ∙ subst P (sym d.is) (trim_start-word d.first d.others rest (subst IsWord d.is (word_decimal n small)))

-- a text that ends with another byte than a blank
pub record IsSolid (text : List ℕ) : Type 0 where
  pub some : 0 < length text
  pub end : trim_end text ≡ text

before_some : (b : ℕ) (text : List ℕ) → 0 < length text → before_trimmed b text ≡ b ∷ text
before_some b [] some = absurd (omega (arith, some))
before_some b (c ∷ cs) some = refl

-- what is before a solid text
pub trim_end-before : (a b : List ℕ) → IsSolid b → trim_end (a ++ b) ≡ a ++ b
trim_end-before [] b solid = solid.end
trim_end-before (x ∷ a) b solid =
    let size : 0 < length (a ++ b) = let n = length-append a b in let some = solid.some in omega (arith, n, some) in
    ap (before_trimmed x) (trim_end-before a b solid) ∙ before_some x (a ++ b) size

pub solid_before : (a b : List ℕ) → IsSolid b → IsSolid (a ++ b)
solid_before a b solid = record {
  some = let n = length-append a b in let some = solid.some in omega (arith, n, some);
  end = trim_end-before a b solid;
}

trim_end-word : (text : List ℕ) → IsWord text → trim_end text ≡ text
trim_end-word [] word = refl
trim_end-word (c ∷ []) word = ap (λ b. cond b [] (c ∷ [])) (inside_first c [] word)
trim_end-word (c ∷ d ∷ ds) word =
    ap (before_trimmed c) (trim_end-word (d ∷ ds) (and_parts (is_inside c) (list_all is_inside (d ∷ ds)) word).1)

pub solid_word : (text : List ℕ) → 0 < length text → IsWord text → IsSolid text
solid_word text some word = record { some = some; end = trim_end-word text word }

pub solid_decimal : (n : ℕ) → n < 1000000000 → IsSolid (decimal n)
solid_decimal n small = record { some = decimal_nonempty n (omega (arith, small)); end = trim_end-word (decimal n) (word_decimal n small) }

pub solid_column : (places n : ℕ) → n < 1000000000 → IsSolid (number_column places n)
unfolding number_column
solid_column places n small = solid_before (replicate (places - length (decimal n)) 32) (decimal n) (solid_decimal n small)
