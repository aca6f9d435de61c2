-- Lists in JSON, by the rows in their order (docs/definitions.md, "Desks").
use Rattle.std.specs.Prelude.{ℕ, zero, suc, List, [], ◌++◌, map, codes, string_bytes}
use Rattle.plan_rows.specs.declared.rows.CodeRow.{CodeRow}
use Rattle.plan_rows.specs.declared.rows.PlanEntry.{PlanEntry}
use Rattle.plan_rows.specs.World.{Text}
use Rattle.plan_desk.specs.JsonTexts.{code_text, plan_text, separated}

abbrev pub text_of_code : CodeRow → Text
text_of_code row = code_text (string_bytes row.code) row.kind row.capacity

abbrev pub text_of_entry : PlanEntry → Text
text_of_entry row = plan_text row.n row.kind

-- the text before an element of a list, by the number of elements before it
abbrev pub comma_before : ℕ → Text
comma_before zero = []
comma_before (suc n) = codes ","

abbrev pub texts_of_codes : List CodeRow → Text
texts_of_codes rows = separated (map text_of_code rows)

abbrev pub texts_of_entries : List PlanEntry → Text
texts_of_entries rows = separated (map text_of_entry rows)

abbrev pub list_of_codes : List CodeRow → Text
list_of_codes rows = codes "{\"capacities\":[" ++ texts_of_codes rows ++ codes "]}"

abbrev pub list_of_plans : List PlanEntry → Text
list_of_plans rows = codes "{\"plans\":[" ++ texts_of_entries rows ++ codes "]}"
