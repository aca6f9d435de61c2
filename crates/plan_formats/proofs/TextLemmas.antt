-- Behind the last cell of a row the text has nothing more of it.
use Rattle.std.proofs.Common.{ℕ, ◌≡◌, ◌≤◌, List, [], ◌∷◌, ◌++◌, length, drop, refl, ap, ◌∙◌}
use Rattle.std.proofs.lemmas.List.{append-nil, drop_all}
use Rattle.plan_formats.specs.Cells.{Cell}
use Rattle.plan_formats.specs.Columns.{Column}
use Rattle.plan_formats.specs.Tables.{cells_of}
use Rattle.plan_formats.specs.TableText.{base_of, label_from}
use Rattle.plan_formats.specs.declared.cell.Cell as declared

no_base : (columns : List Column) → base_of columns [] ≡ []
no_base [] = refl
no_base (c ∷ columns) = refl

no_label : (found : Cell) (columns : List Column) → label_from found columns [] ≡ found
no_label found [] = refl
no_label found (c ∷ columns) = refl

-- no character is left
pub base_done : (text : List ℕ) (columns : List Column) (cells : List declared.Cell) (i : ℕ) → length cells ≤ i → text ++ base_of columns (cells_of (drop i cells)) ≡ text
base_done text columns cells i past = rw (drop_all i cells past) (ap (λ rest. text ++ rest) (no_base columns) ∙ append-nil text)

-- no label is left
pub label_done : (found : Cell) (columns : List Column) (cells : List declared.Cell) (i : ℕ) → length cells ≤ i → label_from found columns (cells_of (drop i cells)) ≡ found
label_done found columns cells i past = rw (drop_all i cells past) (no_label found columns)
