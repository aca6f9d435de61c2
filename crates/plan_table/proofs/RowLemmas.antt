-- Rows: lines of numbers, and what is read in them.
use Rattle.std.proofs.Common.{◌≡◌, ℕ, ◌+◌, ◌<◌, ◌&&◌, ◌||◌, Bool, true, false, List, [], ◌∷◌, ◌++◌, Some, map, refl, sym, ap, ◌∙◌, subst, append-nil, ◌⊎◌, inl, inr}
use Rattle.std.specs.Prelude.{not, nat_eq}
use Rattle.std.specs.List.{list_all, AllByRecursion}
use Rattle.std.specs.Fmt.{decimal}
use Rattle.std.proofs.lemmas.Bool.{and_parts, not-true}
use Rattle.plan_psplib.specs.Lines.{trim_end, trim, words}
use Rattle.plan_psplib.specs.Numbers.{is_digit, number}
use Rattle.plan_psplib.specs.Sections.{is_rule_byte, is_kept, is_title}
use Rattle.plan_table.specs.Numbered.{numbered}
use Rattle.plan_table.specs.Columns.{number_column, spaced}
use Rattle.plan_table.proofs.DigitLemmas.{decimal_first, decimal_digits, digit_passes, number-decimal}
use Rattle.plan_table.proofs.LineLemmas.{IsPlain, plain_append, plain_column, StartsBlank, words-blank, words-decimal, words-column, trim_start-column, IsSolid, solid_before, solid_decimal, solid_column}

-- the texts of numbers behind other numbers
pub record IsTail (text : List ℕ) (numbers : List ℕ) : Type 0 where
  pub starts : StartsBlank text
  pub end : (text ≡ []) ⊎ IsSolid text
  pub reads : map number (words text) ≡ map Some numbers
  pub plain : IsPlain text

pub no_tail : IsTail [] []
no_tail = record { starts = tt; end = inl refl; reads = refl; plain = refl }

-- what is before a tail
solid_with : (a text : List ℕ) → IsSolid a → (text ≡ []) ⊎ IsSolid text → IsSolid (a ++ text)
solid_with a text solid (inl none) = subst IsSolid (sym (append-nil a) ∙ ap (λ t. a ++ t) (sym none)) solid
solid_with a text solid (inr end) = solid_before a text end

-- a number more
pub tail_more : (places n : ℕ) (text : List ℕ) (numbers : List ℕ) → n < 1000000000 → IsTail text numbers → IsTail (spaced places n ++ text) (n ∷ numbers)
tail_more places n text numbers small tail = record {
  starts = refl;
  end = inr (solid_with (spaced places n) text (solid_before (32 ∷ []) (number_column places n) (solid_column places n small)) tail.end);
  reads = ap (map number) (words-blank 32 (number_column places n ++ text) refl ∙ words-column places n text small tail.starts)
      ∙ ap (λ o. o ∷ map number (words text)) (number-decimal n small) ∙ ap (λ os. Some n ∷ os) tail.reads;
  plain = plain_append (number_column places n) text (plain_column places n small) tail.plain;
}

-- numbers in columns
pub tail_columns : (places : ℕ → ℕ) (k : ℕ) (ns : List ℕ) → AllByRecursion (λ n. n < 1000000000) ns → IsTail (numbered (λ i n. spaced (places i) n) k ns) ns
tail_columns places k [] small = no_tail
tail_columns places k (n ∷ ns) small =
    tail_more (places k) n (numbered (λ i n. spaced (places i) n) (k + 1) ns) ns small.0 (tail_columns places (k + 1) ns small.1)

-- a line of numbers
pub record IsRow (line : List ℕ) (numbers : List ℕ) : Type 0 where
  pub kept : is_kept (trim line) ≡ true
  pub title : is_title (trim line) ≡ false
  pub reads : map number (words (trim line)) ≡ map Some numbers
  pub plain : IsPlain line
  -- it begins with a digit
  pub begins : (c : ℕ) × (cs : List ℕ) × (trim line ≡ c ∷ cs) × (is_digit c ≡ true)

digit_kept : (c : ℕ) (cs : List ℕ) → is_digit c ≡ true → is_kept (c ∷ cs) ≡ true
digit_kept c cs digit =
    ap (λ b. not (b && list_all is_rule_byte cs)) (not-true (is_rule_byte c) (digit_passes (λ b. not (is_rule_byte b)) refl c digit))

no_title : (x y p q r s : Bool) → x ≡ false → y ≡ false → (x && p || x && q || y && r || y && s) ≡ false
no_title x y p q r s first second =
    ap (λ b. b && p || b && q || y && r || y && s) first ∙ ap (λ b. b && r || b && s) second

digit_title : (c : ℕ) (cs : List ℕ) → is_digit c ≡ true → is_title (c ∷ cs) ≡ false
digit_title c cs digit =
    no_title (nat_eq 80 c) (nat_eq 82 c) _ _ _ _
    (not-true (nat_eq 80 c) (digit_passes (λ b. not (nat_eq 80 b)) refl c digit))
    (not-true (nat_eq 82 c) (digit_passes (λ b. not (nat_eq 82 b)) refl c digit))

-- a number in its column before a tail
pub row_is : (places n : ℕ) (text : List ℕ) (numbers : List ℕ) → n < 1000000000 → IsTail text numbers → IsRow (number_column places n ++ text) (n ∷ numbers)
row_is places n text numbers small tail =
    let line = number_column places n ++ text in
    let d = decimal_first n small in
    let trimmed : trim line ≡ decimal n ++ text =
    ap trim_end (trim_start-column places n text small) ∙ (solid_with (decimal n) text (solid_decimal n small) tail.end).end in
    let begins : trim line ≡ d.first ∷ (d.others ++ text) = trimmed ∙ ap (λ t. t ++ text) d.is in
    let digit : is_digit d.first ≡ true =
    (and_parts (is_digit d.first) (list_all is_digit d.others) (ap (list_all is_digit) (sym d.is) ∙ decimal_digits n small)).0 in
    record {
      kept = ap is_kept begins ∙ digit_kept d.first (d.others ++ text) digit;
      title = ap is_title begins ∙ digit_title d.first (d.others ++ text) digit;
      reads = ap (λ t. map number (words t)) trimmed ∙ ap (map number) (words-decimal n text small tail.starts)
          ∙ ap (λ o. o ∷ map number (words text)) (number-decimal n small) ∙ ap (λ os. Some n ∷ os) tail.reads;
      plain = plain_append (number_column places n) text (plain_column places n small) tail.plain;
      begins = (d.first, d.others ++ text, begins, digit);
    }

-- a space before a row
pub blank_row : (line numbers : List ℕ) → IsRow line numbers → IsRow (32 ∷ line) numbers
blank_row line numbers row = record { kept = row.kept; title = row.title; reads = row.reads; plain = row.plain; begins = row.begins }
