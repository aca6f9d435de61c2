-- A text of records reads as these records.
use Rattle.std.proofs.Common.{ℕ, ◌≡◌, ◌≤◌, List, [], ◌∷◌, ◌++◌, length, drop, refl, ap, sym, ◌∙◌, subst, Result, Ok, Err, IfOk}
use Rattle.std.proofs.lemmas.List.{append-nil, drop_all}
use Rattle.csv.specs.Machine.{next_record}
use Rattle.csv.specs.Reading.{Reached, default_config}
use Rattle.csv.specs.declared.parser.State.TheVariants as state
use Rattle.csv.proofs.RoundTrip.{read-write}
use Rattle.plan_formats.specs.Columns.{Column}
use Rattle.plan_formats.specs.Tables.{cells_of}
use Rattle.plan_formats.specs.CsvText.{csv_text_of, row_record, ReadsAs, HaveFields}
use Rattle.plan_formats.specs.declared.cell.Cell as declared

reached_each : (records : List (List (List ℕ))) → HaveFields records → Reached default_config state.StartRecord (csv_text_of records) records state.StartRecord []
unfolding Reached
reached_each [] some = (refl, refl)
reached_each ([] ∷ records) some = absurd some
reached_each ((x ∷ xs) ∷ records) some = ((x ∷ xs, state.StartRecord, csv_text_of records), read-write (x ∷ xs) (csv_text_of records), refl, reached_each records some)

pub reads_as : (records : List (List (List ℕ))) → HaveFields records → ReadsAs (csv_text_of records) records
unfolding next_record
reads_as records some = (state.StartRecord, [], reached_each records some, refl)

-- a text that is that of records reads as them
pub reads_if : {T E : Type 0} (items : T → List ℕ) (r : Result T E) (records : List (List (List ℕ))) → IfOk r (λ text. items text ≡ csv_text_of records)
    → IfOk r (λ text. HaveFields records → ReadsAs (items text) records)
reads_if items (Ok bytes) records same = λ some. subst (λ (xs : List ℕ). ReadsAs xs records) (sym same) (reads_as records some)
reads_if items (Err e) records same = tt

no_fields : (columns : List Column) → row_record columns [] ≡ []
no_fields [] = refl
no_fields (c ∷ columns) = refl

-- no field is left
pub fields_done : (fields : List (List ℕ)) (columns : List Column) (cells : List declared.Cell) (i : ℕ) → length cells ≤ i → fields ++ row_record columns (cells_of (drop i cells)) ≡ fields
fields_done fields columns cells i past = rw (drop_all i cells past) (ap (λ rest. fields ++ rest) (no_fields columns) ∙ append-nil fields)
