-- The rows of a table or a chart, one after another.
use Rattle.std.proofs.Common.{◌≡◌, ℕ, zero, suc, ◌+◌, ◌-◌, ◌<◌, ◌≤◌, List, [], ◌∷◌, ◌++◌, Vec, map, fold, append_assoc, sym, ap, ◌∙◌, arith}
use Rattle.std.specs.List.{range_with_len, flat_map}
use Rattle.std.proofs.lemmas.List.{append-nil, map-append}
use Rattle.std.proofs.lemmas.List.Concat.{flat_map-append}
use Rattle.std.proofs.lemmas.List.Sums.{fold-append}
use Rattle.std.specs.Global.{Global}
use Rattle.plan_formats.specs.Cells.{Cell}
use Rattle.plan_formats.specs.Tables.{cells_of, rows_of}
use Rattle.plan_formats.specs.declared.cell.Cell as declared
use Rattle.plan_views.specs.Rows.{rows_from}

one_more : {Y : Type 0} (f : ℕ → Y) (first n : ℕ) → map f (range_with_len first (suc n)) ≡ map f (range_with_len first n) ++ f (first + n) ∷ []
one_more f first zero =
    let e : first ≡ first + 0 = omega arith in
    ap (λ k. f k ∷ []) e
one_more f first (suc n) =
    let e : first + 1 + n ≡ first + suc n = omega arith in
    ap (λ rest. f first ∷ rest) (one_more f (first + 1) n ∙ ap (λ k. map f (range_with_len (first + 1) n) ++ f k ∷ []) e)

-- the items so far with the next one
next_item : {X Y : Type 0} (g : X → Y) (f : ℕ → Y) (first k : ℕ) (old new : List X) (v : X)
    → map g old ≡ map f (range_with_len first k) → g v ≡ f (first + k) → new ≡ old ++ v ∷ []
    → map g new ≡ map f (range_with_len first (k + 1))
next_item g f first k old new v so_far is step =
    let e : k + 1 ≡ suc k = omega arith in
    ap (map g) step ∙ map-append g old (v ∷ [])
    ∙ ap (λ items. items ++ g v ∷ []) so_far
    ∙ ap (λ item. map f (range_with_len first k) ++ item ∷ []) is
    ∙ sym (ap (λ n. map f (range_with_len first n)) e ∙ one_more f first k)

-- items numbered from 1
pub next_item_from_one : {X Y : Type 0} (g : X → Y) (f : ℕ → Y) (k : ℕ) (old new : List X) (v : X)
    → map g old ≡ map f (range_with_len 1 k) → g v ≡ f (k + 1) → new ≡ old ++ v ∷ []
    → map g new ≡ map f (range_with_len 1 (k + 1))
next_item_from_one g f k old new v so_far is step =
    let place : k + 1 ≡ 1 + k = omega arith in
    next_item g f 1 k old new v so_far (is ∙ ap f place) step

-- items numbered from 0
pub next_item_from_zero : {X Y : Type 0} (g : X → Y) (f : ℕ → Y) (k : ℕ) (old new : List X) (v : X)
    → map g old ≡ map f (range_with_len 0 k) → g v ≡ f k → new ≡ old ++ v ∷ []
    → map g new ≡ map f (range_with_len 0 (k + 1))
next_item_from_zero g f k old new v so_far is step =
    let place : k ≡ 0 + k = omega arith in
    next_item g f 0 k old new v so_far (is ∙ ap f place) step

-- the items so far with the next one, and those that are left up to the last number
pub items_go_on : {X Y : Type 0} (g : X → Y) (f : ℕ → Y) (j n : ℕ) (old new : List X) (v : X) (all : List Y) → j < n
    → map g old ++ map f (range_with_len j (n - j)) ≡ all → g v ≡ f j → new ≡ old ++ v ∷ []
    → map g new ++ map f (range_with_len (j + 1) (n - (j + 1))) ≡ all
items_go_on g f j n old new v all below left is step =
    let more : n - j ≡ suc (n - (j + 1)) = omega (arith, below) in
    let rest = map f (range_with_len (j + 1) (n - (j + 1))) in
    ap (λ items. map g items ++ rest) step ∙ ap (λ items. items ++ rest) (map-append g old (v ∷ []))
    ∙ append_assoc (map g old) (g v ∷ []) rest ∙ ap (λ item. map g old ++ item ∷ rest) is
    ∙ sym (ap (λ k. map g old ++ map f (range_with_len j k)) more) ∙ left

-- no item is left
pub items_end : {X Y : Type 0} (g : X → Y) (f : ℕ → Y) (j n : ℕ) (items : List X) (all : List Y) → n ≤ j
    → map g items ++ map f (range_with_len j (n - j)) ≡ all → map g items ≡ all
items_end g f j n items all past left =
    let none : n - j ≡ 0 = omega (arith, past) in
    sym (append-nil (map g items)) ∙ sym (ap (λ k. map g items ++ map f (range_with_len j k)) none) ∙ left

range_more : (first n : ℕ) → range_with_len first (suc n) ≡ range_with_len first n ++ (first + n) ∷ []
range_more first zero =
    let e : first ≡ first + 0 = omega arith in
    ap (λ k. k ∷ []) e
range_more first (suc n) =
    let e : first + 1 + n ≡ first + suc n = omega arith in
    ap (λ rest. first ∷ rest) (range_more (first + 1) n ∙ ap (λ k. range_with_len (first + 1) n ++ k ∷ []) e)

-- a fold over the numbers from 0 with the next one
pub next_fold : {X : Type 0} (f : X → ℕ → X) (start : X) (k : ℕ) (old new : X) → old ≡ fold f start (range_with_len 0 k) → new ≡ f old k → new ≡ fold f start (range_with_len 0 (k + 1))
next_fold f start k old new so_far step =
    let e : k + 1 ≡ suc k = omega arith in
    let place : 0 + k ≡ k = omega arith in
    step ∙ ap (λ t. f t k) so_far
    ∙ sym (ap (λ n. fold f start (range_with_len 0 n)) e
    ∙ ap (fold f start) (range_more 0 k ∙ ap (λ n. range_with_len 0 k ++ n ∷ []) place)
    ∙ fold-append f start (range_with_len 0 k) (k ∷ []))

-- rows numbered from 1
pub next_from_one : (row : ℕ → List Cell) (k : ℕ) (old new : List (Vec declared.Cell Global)) (v : Vec declared.Cell Global)
    → rows_of old ≡ rows_from row 1 k → cells_of v.items ≡ row (k + 1) → new ≡ old ++ v ∷ []
    → rows_of new ≡ rows_from row 1 (k + 1)
next_from_one row k old new v so_far is step =
    next_item_from_one (λ (r : Vec declared.Cell Global). cells_of r.items) row k old new v so_far is step

-- rows numbered from 0
pub next_from_zero : (row : ℕ → List Cell) (k : ℕ) (old new : List (Vec declared.Cell Global)) (v : Vec declared.Cell Global)
    → rows_of old ≡ rows_from row 0 k → cells_of v.items ≡ row k → new ≡ old ++ v ∷ []
    → rows_of new ≡ rows_from row 0 (k + 1)
next_from_zero row k old new v so_far is step =
    next_item_from_zero (λ (r : Vec declared.Cell Global). cells_of r.items) row k old new v so_far is step

-- the items of lists one after another, with those of the next one
pub next_flat : {X Y : Type 0} (g : X → Y) (f : ℕ → List Y) (k : ℕ) (old new : List X) (more : List Y)
    → map g old ≡ flat_map f (range_with_len 0 k) → more ≡ f k → map g new ≡ map g old ++ more
    → map g new ≡ flat_map f (range_with_len 0 (k + 1))
next_flat g f k old new more so_far is step =
    let e : k + 1 ≡ suc k = omega arith in
    let place : 0 + k ≡ k = omega arith in
    step ∙ ap (λ items. items ++ more) so_far
    ∙ ap (λ items. flat_map f (range_with_len 0 k) ++ items) (is ∙ sym (append-nil (f k)))
    ∙ sym (ap (λ n. flat_map f (range_with_len 0 n)) e
    ∙ ap (flat_map f) (range_more 0 k ∙ ap (λ n. range_with_len 0 k ++ n ∷ []) place)
    ∙ flat_map-append f (range_with_len 0 k) (k ∷ []))
