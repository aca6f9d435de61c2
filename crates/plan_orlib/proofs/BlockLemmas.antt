-- Lines of a block, by a layout.
use Rattle.std.proofs.Common.{◌≡◌, ℕ, ◌||◌, Bool, true, false, List, [], ◌∷◌, Option, Some, None, refl, ap}
use Rattle.plan_psplib.specs.Lines.{NumberedLine}
use Rattle.plan_psplib.specs.Noted.{noted_or}
use Rattle.plan_psplib.specs.Streams.{rows, before_end}

-- if all lines count and none is an end, all are rows
pub all_rows : (all : List NumberedLine) → rows (λ _. true) (λ _. false) all ≡ all
all_rows [] = refl
all_rows (line ∷ others) = ap (λ xs. line ∷ xs) (all_rows others)

-- the rows before lines of two kinds are the rows before the one kind, among those before the other
pub rows_before_both : (p q : List ℕ → Bool) (all : List NumberedLine) → rows (λ _. true) (λ text. p text || q text) all ≡ before_end p (before_end q all)
rows_before_both p q [] = refl
rows_before_both p q (line ∷ others) = by_tests (p line.text) (q line.text) refl refl (rows_before_both p q others)
  where
    by_tests : (a b : Bool) → p line.text ≡ a → q line.text ≡ b →
        rows (λ _. true) (λ text. p text || q text) others ≡ before_end p (before_end q others) →
        rows (λ _. true) (λ text. p text || q text) (line ∷ others) ≡ before_end p
        (before_end q (line ∷ others))
    by_tests true true e f same = rw (e, f) refl
    by_tests true false e f same = rw (e, f, e) refl
    by_tests false true e f same = rw (e, f) refl
    by_tests false false e f same = rw (e, f, e) (ap (λ xs. line ∷ xs) same)

-- if no value is left, the note is final
pub note_stands : {A : Type 0} (note : Option A) → noted_or note None ≡ note
note_stands (Some first) = refl
note_stands None = refl
