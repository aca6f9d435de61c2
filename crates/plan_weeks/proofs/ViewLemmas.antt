-- Rows and numbers of late activities, one activity more.
use Rattle.std.proofs.Common.{◌≡◌, ℕ, zero, suc, ◌+◌, ◌≤◌, ◌<◌, ◌++◌, Bool, List, [], ◌∷◌, Vec, length, map, refl, sym, ap, ◌∙◌, arith}
use Rattle.std.specs.Prelude.{cond, filter, nat_lt}
use Rattle.std.specs.List.{range_with_len}
use Rattle.std.specs.declared.alloc.Global.{Global}
use Rattle.std.proofs.lemmas.Bool.{lt-ltb}
use Rattle.std.proofs.lemmas.List.{length-append, map-append}
use Rattle.std.proofs.lemmas.List.FromFn.{filter_of_map_range_with_len_more, map-range_with_len_more}
use Rattle.plan_formats.specs.Cells.{Cell}
use Rattle.plan_formats.specs.Tables.{cells_of, rows_of}
use Rattle.plan_formats.specs.declared.cell.Cell as declared

-- the rows with one more
pub rows_more : (f : ℕ → List Cell) (k : ℕ) (before after : List (Vec declared.Cell Global)) (row : Vec declared.Cell Global)
    → rows_of before ≡ map f (range_with_len 0 k) → after ≡ before ++ row ∷ [] → cells_of row.items ≡ f k
    → rows_of after ≡ map f (range_with_len 0 (k + 1))
rows_more f k before after row so_far pushed is =
    ap rows_of pushed ∙ map-append (λ (r : Vec declared.Cell Global). cells_of r.items) before (row ∷ [])
    ∙ ap (λ (xs : List (List Cell)). xs ++ cells_of row.items ∷ []) so_far
    ∙ ap (λ (x : List Cell). map f (range_with_len 0 k) ++ x ∷ []) is
    ∙ sym (map-range_with_len_more f 0 k k (omega arith))

-- a number above 0 counts
one : (x : ℕ) → 0 < x → length (cond (nat_lt 0 x) (x ∷ []) []) ≡ 1
one x late = ap (λ (b : Bool). length (cond b (x ∷ []) [])) (lt-ltb 0 x late)

-- no other number does
none : (x : ℕ) → x ≤ 0 → length (cond (nat_lt 0 x) (x ∷ []) []) ≡ 0
none zero early = refl
none (suc x) early = absurd (omega (arith, early))

-- those above 0 of the first k + 1 numbers
count_more : (f : ℕ → ℕ) (k : ℕ) → length (filter (nat_lt 0) (map f (range_with_len 0 (k + 1))))
    ≡ length (filter (nat_lt 0) (map f (range_with_len 0 k))) + length (cond (nat_lt 0 (f k)) (f k ∷ []) [])
count_more f k =
    ap length (filter_of_map_range_with_len_more (nat_lt 0) f 0 k k (omega arith))
    ∙ length-append (filter (nat_lt 0) (map f (range_with_len 0 k))) (cond (nat_lt 0 (f k)) (f k ∷ []) [])

-- one more is late
pub late_more : (f : ℕ → ℕ) (k n : ℕ) → n ≡ length (filter (nat_lt 0) (map f (range_with_len 0 k))) → 0 < f k
    → n + 1 ≡ length (filter (nat_lt 0) (map f (range_with_len 0 (k + 1))))
late_more f k n so_far late = omega (arith, so_far, count_more f k, one (f k) late)

-- one more isn't late
pub late_same : (f : ℕ → ℕ) (k n : ℕ) → n ≡ length (filter (nat_lt 0) (map f (range_with_len 0 k))) → f k ≤ 0
    → n ≡ length (filter (nat_lt 0) (map f (range_with_len 0 (k + 1))))
late_same f k n so_far early = omega (arith, so_far, count_more f k, none (f k) early)
