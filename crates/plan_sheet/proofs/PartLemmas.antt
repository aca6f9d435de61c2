-- Lists of resources that are written entry by entry.
use Rattle.std.proofs.Common.{◌≡◌, ℕ, ◌+◌, List, [], ◌∷◌, ◌++◌, Some, None, map, flat_map, sym, ap, ◌∙◌}
use Rattle.std.specs.List.{range_with_len, slice_get}
use Rattle.std.specs.Option.{option_map}
use Rattle.std.proofs.lemmas.List.{flat_map_more, map-append}
use Rattle.std.proofs.lemmas.Option.{slice_get-map}
use Rattle.plan_sheet.specs.Parts.{row_or_empty}
use Rattle.plan_sheet.proofs.NumberedLemmas.{next_item, range_more}

-- the entries of one more number
pub next_entries : {X : Type 0} (f : ℕ → List X) (k : ℕ) (old new : List X) → old ≡ flat_map f (range_with_len 0 k) →
    new ≡ old ++ f k → new ≡ flat_map f (range_with_len 0 (k + 1))
next_entries f k old new so_far step =
    step ∙ ap (λ xs. xs ++ f k) so_far ∙ flat_map_more f [] (range_with_len 0 k) k
    ∙ ap (λ ns. flat_map f ns) (sym (range_more k))

-- one more element, as its value
pub next_value : {X Y : Type 0} (g : X → Y) (f : ℕ → Y) (first k j : ℕ) (old new : List X) (x : X) → first + k ≡ j →
    map g old ≡ map f (range_with_len first k) → new ≡ old ++ x ∷ [] → g x ≡ f j → map g new ≡ map f (range_with_len first (k + 1))
next_value g f first k j old new x place so_far step is =
    next_item f first k j (map g old) (map g new) (g x) place so_far (ap (map g) step ∙ map-append g old (x ∷ [])) is

-- the row at an index, by the values of rows
pub row_there : {X : Type 0} (g : X → List ℕ) (rows : List X) (k : ℕ) (row : X) → slice_get rows k ≡ Some row →
    row_or_empty (slice_get (map g rows) k) ≡ g row
row_there g rows k row is = ap row_or_empty (slice_get-map g rows k ∙ ap (option_map g) is)

-- there is no row at an index
pub row_absent : {X : Type 0} (g : X → List ℕ) (rows : List X) (k : ℕ) → slice_get rows k ≡ None →
    row_or_empty (slice_get (map g rows) k) ≡ []
row_absent g rows k is = ap row_or_empty (slice_get-map g rows k ∙ ap (option_map g) is)
