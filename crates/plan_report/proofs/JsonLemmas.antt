-- The table of a JSON document, by the names and the values that the program keeps.
use Rattle.std.proofs.Common.{ℕ, ◌≡◌, List, [], ◌∷◌, ◌++◌, Result, Ok, Err, if◌then◌else◌, map, flat_map, codes, refl, sym, ◌∙◌, ap}
use Rattle.std.proofs.lemmas.List.{append_assoc}
use Rattle.std.proofs.lemmas.List.Folds.{flat_map-map}
use Rattle.std.specs.Result.{OnOk, is_ok}
use Rattle.std.specs.Borrow.{Bor}
use Rattle.serde_json.specs.Data.{Data}
use Rattle.serde_json.specs.View.{view, items_view}
use Rattle.serde_json.specs.declared.value.Value.{Value}
use Rattle.plan_report.specs.JsonTable.{cell_text, number_at, row_text, head_text, id_row_text, id_rows_text, rows_text}

-- the line of a row
pub row_text_of_names : (columns : List (Bor (List ℕ))) (row : Data) → row_text (map (λ name. name.now) columns) row
    ≡ flat_map (λ column. cell_text (number_at row column.now)) columns ++ codes "\n"
unfolding row_text
row_text_of_names columns row =
    ap (λ (text : List ℕ). text ++ codes "\n") (flat_map-map (λ column. cell_text (number_at row column)) (λ (name : Bor (List ℕ)). name.now) columns)

-- the line with the names of the columns
pub head_text_of_names : (columns : List (Bor (List ℕ))) → head_text (map (λ name. name.now) columns)
    ≡ flat_map (λ column. column.now ++ codes ",") columns ++ codes "\n"
unfolding head_text
head_text_of_names columns =
    ap (λ (text : List ℕ). text ++ codes "\n") (flat_map-map (λ (column : List ℕ). column ++ codes ",") (λ (name : Bor (List ℕ)). name.now) columns)

-- the lines of rows
pub rows_text_of_values : (columns : List (List ℕ)) (rows : List Value) → rows_text columns (items_view rows)
    ≡ flat_map (λ row. row_text columns (view row)) rows
rows_text_of_values columns [] = refl
rows_text_of_values columns (row ∷ rows) = ap (λ (text : List ℕ). row_text columns (view row) ++ text) (rows_text_of_values columns rows)

-- the lines of rows behind their ids
pub id_rows_text_of_values : (rows : List Value) → id_rows_text (items_view rows) ≡ flat_map (λ row. id_row_text (view row)) rows
id_rows_text_of_values [] = refl
id_rows_text_of_values (row ∷ rows) = ap (λ (text : List ℕ). id_row_text (view row) ++ text) (id_rows_text_of_values rows)

-- a text with one more part, as the text with both parts behind it
pub written_behind : {T E : Type 0} (r : Result T E) (new before old first next whole : List ℕ)
    → new ≡ (if is_ok r then before ++ next else before) → before ≡ old ++ first → whole ≡ first ++ next → OnOk r (new ≡ old ++ whole)
written_behind (Ok u) new before old first next whole bytes so_far parts =
    bytes ∙ ap (λ (text : List ℕ). text ++ next) so_far ∙ append_assoc old first next ∙ ap (λ (text : List ℕ). old ++ text) (sym parts)
written_behind (Err u) new before old first next whole bytes so_far parts = tt
