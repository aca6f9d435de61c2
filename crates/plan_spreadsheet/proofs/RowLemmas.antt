-- Rows that are the same.
use Rattle.std.proofs.Common.{◌≡◌, ◌≤◌, ℕ, ◌-◌, arith, length, take, Bool, true, false, List, [], ◌∷◌, Ok, map, drop, refl, sym, ap, ◌∙◌, subst}
use Rattle.std.specs.Prelude.{◌==◌, ◌&&◌}
use Rattle.std.specs.Str.{bytes_eq}
use Rattle.std.proofs.lemmas.Bool.{and_parts}
use Rattle.std.proofs.lemmas.Bool.Decides.{Decides-eqb}
use Rattle.std.proofs.lemmas.List.{drop-map, drop_all, length-drop, take_all}
use Rattle.std.proofs.lemmas.Slice.Eq.{bytes_eq-Decides}
use Rattle.plan_table.specs.declared.header.Head as declared
use Rattle.plan_table.specs.Header.{head_of}
use Rattle.plan_table.specs.Csv.{Row}
use Rattle.plan_table.specs.Listing.{rows_read}
use Rattle.plan_spreadsheet.specs.Rows.{Spells, filled, same_cells, same_row, same_rows}

abbrev IsYes : Bool → Type 0
IsYes true = Unit {0}
IsYes false = ⊥

not_both : {A : Type 0} → false ≡ true → A
not_both h = absurd (subst IsYes (sym h) tt)

-- cells that are the same
pub cells_same : (xs ys : List (List ℕ)) → same_cells xs ys ≡ true → xs ≡ ys
unfolding same_cells
cells_same [] [] h = refl
cells_same [] (y ∷ ys) h = not_both h
cells_same (x ∷ xs) [] h = not_both h
cells_same (x ∷ xs) (y ∷ ys) h =
    let both = and_parts (bytes_eq x y) (same_cells xs ys) h in
    ap (λ a. a ∷ xs) ((bytes_eq-Decides x y).0 both.0) ∙ ap (λ b. y ∷ b) (cells_same xs ys both.1)

abbrev row : ℕ → List (List ℕ) → Row
row line cells = record { line = line; cells = cells }

row_same : (x y : Row) → same_row x y ≡ true → x ≡ y
row_same x y h =
    let both = and_parts (x.line == y.line) (same_cells x.cells y.cells) h in
    ap (λ a. row a x.cells) ((Decides-eqb x.line y.line).0 both.0) ∙ ap (row y.line) (cells_same x.cells y.cells both.1)

-- rows that are the same
pub rows_same : (xs ys : List Row) → same_rows xs ys ≡ true → xs ≡ ys
unfolding same_rows
rows_same [] [] h = refl
rows_same [] (y ∷ ys) h = not_both h
rows_same (x ∷ xs) [] h = not_both h
rows_same (x ∷ xs) (y ∷ ys) h =
    let both = and_parts (same_row x y) (same_rows xs ys) h in
    ap (λ a. a ∷ xs) (row_same x y both.0) ∙ ap (λ b. y ∷ b) (rows_same xs ys both.1)

-- a text that is read as rows
pub spelt : (text : List ℕ) (found before rows : List Row) → rows_read text ≡ Ok found → before ≡ filled found
    → same_rows before rows ≡ true → Spells text rows
spelt text found before rows is filled same = (found, is, sym filled ∙ rows_same before rows same)

-- a slice from a place to the end
pub rest_of : {A : Type 0} (n : ℕ) (xs : List A) → take (length xs - n) (drop n xs) ≡ drop n xs
rest_of n xs = take_all (length xs - n) (drop n xs) (omega (arith, length-drop n xs))

-- the columns behind some
pub heads_dropped : (k : ℕ) (heads : List declared.Head) → map head_of (drop k heads) ≡ drop k (map head_of heads)
heads_dropped k heads = sym (drop-map head_of k heads)

-- behind the last column there is none
pub no_heads : (k : ℕ) (heads : List declared.Head) → length heads ≤ k → drop k (map head_of heads) ≡ []
no_heads k heads past = drop-map head_of k heads ∙ ap (map head_of) (drop_all k heads past)
