-- `{n:>8}` writes the number in its column.
use Rattle.std.proofs.Common.{◌≡◌, ℕ, zero, suc, ◌+◌, ◌-◌, ◌^◌, false, List, [], ◌∷◌, ◌++◌, length, replicate, refl, sym, ◌∙◌, ap, arith}
use Rattle.std.specs.List.{repeat}
use Rattle.std.specs.Char.{encode_utf8}
use Rattle.std.specs.Fmt.{decimal, padded_integral, format_spec, char_count, styled_decimal}
use Rattle.std.proofs.lemmas.List.{append-nil}
use mathlib.Core.List.{append_assoc}
use Rattle.plan_gantt.specs.Column.{number_column, lines_from}

repeat_one : (n x : ℕ) → repeat n (x ∷ []) ≡ replicate n x
repeat_one zero x = refl
repeat_one (suc n) x = ap (λ xs. x ∷ xs) (repeat_one n x)

styled_column : (places n : ℕ) → padded_integral (format_spec 32 3 0 places (2 ^ 64 - 1)) false [] (decimal n) ≡ number_column places n
unfolding padded_integral char_count number_column encode_utf8
styled_column places n =
    let gap : places - length (decimal n) - 0 - 0 ≡ places - length (decimal n) = omega arith in
    let none : (m : ℕ) → m - m ≡ 0 = λ m. omega arith in
    simp (gap, none, repeat_one, append-nil)

-- in 4 characters
pub styled_first : (n : ℕ) → styled_decimal (format_spec 32 3 0 4 (2 ^ 64 - 1)) n ≡ number_column 4 n
styled_first n = styled_column 4 n

-- in 8 characters
pub styled_further : (n : ℕ) → styled_decimal (format_spec 32 3 0 8 (2 ^ 64 - 1)) n ≡ number_column 8 n
styled_further n = styled_column 8 n

one_more : (line : ℕ → List ℕ) (first n : ℕ) → lines_from line first (suc n) ≡ lines_from line first n ++ line (first + n)
one_more line first zero =
    let e : first ≡ first + 0 = omega arith in
    append-nil (line first) ∙ ap line e
one_more line first (suc n) =
    let e : first + 1 + n ≡ first + suc n = omega arith in
    ap (λ rest. line first ++ rest) (one_more line (first + 1) n ∙ ap (λ k. lines_from line (first + 1) n ++ line k) e)
    ∙ sym (append_assoc (line first) (lines_from line (first + 1) n) (line (first + suc n)))

-- one more line
pub lines_more : (line : ℕ → List ℕ) (first n : ℕ) → lines_from line first (n + 1) ≡ lines_from line first n ++ line (first + n)
lines_more line first n =
    let e : n + 1 ≡ suc n = omega arith in
    ap (λ k. lines_from line first k) e ∙ one_more line first n

-- a table whose lines are numbered from 1, with the next line
pub next_line : (heading : List ℕ) (line : ℕ → List ℕ) (k : ℕ) (old new : List ℕ) → old ≡ heading ++ lines_from line 1 k → new ≡ old ++ line (k + 1) → new ≡ heading ++ lines_from line 1 (k + 1)
next_line heading line k old new before step =
    let place : k + 1 ≡ 1 + k = omega arith in
    step ∙ ap (λ bytes. bytes ++ line (k + 1)) before
    ∙ append_assoc heading (lines_from line 1 k) (line (k + 1))
    ∙ ap (λ rest. heading ++ rest) (ap (λ j. lines_from line 1 k ++ line j) place ∙ sym (lines_more line 1 k))
