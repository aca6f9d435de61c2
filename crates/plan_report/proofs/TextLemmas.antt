-- Texts of starts: what they say, and the result of reading them.
use Rattle.std.proofs.Common.{◌≡◌, ℕ, ◌≤◌, Bool, List, [], ◌∷◌, Option, Some, None, Result, Ok, Err, Vec, length, refl, sym, ◌∙◌, ap, subst}
use Rattle.std.specs.Prelude.{All, IfOk, IfErr, MatchResult}
use Rattle.std.specs.Global.{Global}
use Rattle.serde_json.specs.Data.{Data}
use Rattle.plan_psplib.specs.declared.text.fault.Fault.{Fault}
use Rattle.plan_psplib.specs.declared.text.fault.FileCode.TheVariants as code
use Rattle.plan_psplib.specs.declared.text.fault.ReadError.{ReadError}
use Rattle.plan_psplib.specs.declared.text.fault.ReadError.TheVariants as errors
use Rattle.plan_psplib.specs.Plain.{plain}
use Rattle.plan_psplib.specs.Tokens.{Fails, Gives, check}
use Rattle.plan_psplib.proofs.GoesLemmas.{then_ok, same_ok, ok_bind, check_ok, ok_check}
use Rattle.plan_gantt.specs.Limits.{latest_start}
use Rattle.plan_report.specs.IdRows.{has_ids, rows_at}
use Rattle.plan_report.specs.Sheet.{Row, Sheet, begins_with_makespan}
use Rattle.plan_report.specs.JsonTable.{table_by, table_in, table_with, value_in}
use Rattle.plan_report.specs.StartsText.{IsTableEnd, SaysTable, SaysJson, SaysBy, SaysStarts, behind_result, form_of, json_starts, rows_by, starts_by, starts_in, table_end, table_starts, without_mark}
use Rattle.plan_report.specs.declared.starts.Form.{Form}
use Rattle.plan_report.specs.declared.starts.Form.TheVariants as forms
use Rattle.plan_report.proofs.NumberLemmas.{numbers_said, numbers_read}
use Rattle.plan_report.proofs.IdLemmas.{IsWhole, rows_early, rows_show, rows_whole, show_rows}

-- ---- the end of a table

end_is : (rows : List Row) (u : Unit {0}) → table_end rows ≡ Ok u → IsTableEnd rows
unfolding table_end
end_is [] u e = tt
end_is (row ∷ []) u e =
    then_ok (check (begins_with_makespan row.cells) code.Count row.line) _ u e (λ v last e. check_ok (begins_with_makespan row.cells) code.Count row.line v last)
end_is (row ∷ next ∷ rows) u e =
    then_ok (check (begins_with_makespan row.cells) code.Count row.line) _ u e (λ v last e. absurd (cc))

is_end : (rows : List Row) → IsTableEnd rows → table_end rows ≡ Ok tt
unfolding table_end
is_end [] is = refl
is_end (row ∷ []) is =
    ok_bind (check (begins_with_makespan row.cells) code.Count row.line) _ tt tt (ok_check (begins_with_makespan row.cells) code.Count row.line is) refl
is_end (row ∷ next ∷ rows) is = absurd is

-- ---- the four forms

table_said : (form : Form) (sheet : Sheet) (text starts : List ℕ) → table_starts form sheet text ≡ Ok starts → SaysTable form sheet text starts
unfolding table_starts
table_said form sheet text starts e =
    let rows = behind_result (rows_by form text) in
    then_ok (rows_at form sheet rows) _ starts e (λ x read e.
    then_ok (table_end x.1) _ starts e (λ u ended e.
    let said : SaysTable form sheet text x.0 = record {
      rest = x.1;
      shown = rows_show form sheet rows x read;
      ended = end_is x.1 u ended;
    } in
    subst (SaysTable form sheet text) (same_ok x.0 starts e) said))

table_read : (form : Form) (sheet : Sheet) (text starts : List ℕ) → SaysTable form sheet text starts → table_starts form sheet text ≡ Ok starts
unfolding table_starts
table_read form sheet text starts says =
    let rows = behind_result (rows_by form text) in
    ok_bind (rows_at form sheet rows) _ (starts, says.rest) starts (show_rows form sheet rows starts says.rest says.shown)
    (ok_bind (table_end says.rest) _ tt starts (is_end says.rest says.ended) refl)

-- the value behind the table of a JSON document
value_behind : (ids : Bool) (columns : List (List ℕ)) (o : Option Data) (table : List ℕ) → table_by ids columns o ≡ Ok table
    → (value : Data) × (o ≡ Some value) × (table_with ids columns value ≡ table)
value_behind ids columns None table e = absurd (cc)
value_behind ids columns (Some value) table e = (value, refl, same_ok (table_with ids columns value) table e)

json_said : (sheet : Sheet) (text starts : List ℕ) → json_starts sheet text ≡ Ok starts → SaysJson sheet text starts
unfolding json_starts table_in
json_said sheet text starts e =
    then_ok (table_by (has_ids sheet) sheet.columns (value_in (without_mark text))) _ starts e (λ table found e.
    let behind = value_behind (has_ids sheet) sheet.columns (value_in (without_mark text)) table found in
    record {
      value = behind.0;
      json = behind.1;
      said = subst (λ (t : List ℕ). SaysTable forms.Json sheet t starts) (sym behind.2) (table_said forms.Json sheet table starts e);
    })

json_read : (sheet : Sheet) (text starts : List ℕ) → SaysJson sheet text starts → json_starts sheet text ≡ Ok starts
unfolding json_starts table_in
json_read sheet text starts says =
    ok_bind (table_by (has_ids sheet) sheet.columns (value_in (without_mark text))) _ (table_with (has_ids sheet) sheet.columns says.value) starts
    (ap (table_by (has_ids sheet) sheet.columns) says.json) (table_read forms.Json sheet (table_with (has_ids sheet) sheet.columns says.value) starts says.said)

by_said : (f : Form) (sheet : Sheet) (text starts : List ℕ) → starts_by f sheet text ≡ Ok starts → SaysBy f sheet text starts
by_said forms.Numbers sheet text starts e = numbers_said (length sheet.entries) (without_mark text) starts e
by_said forms.Table sheet text starts e = table_said forms.Table sheet text starts e
by_said forms.Csv sheet text starts e = table_said forms.Csv sheet text starts e
by_said forms.Json sheet text starts e = json_said sheet text starts e

by_read : (f : Form) (sheet : Sheet) (text starts : List ℕ) → SaysBy f sheet text starts → starts_by f sheet text ≡ Ok starts
by_read forms.Numbers sheet text starts says = numbers_read (length sheet.entries) (without_mark text) starts says
by_read forms.Table sheet text starts says = table_read forms.Table sheet text starts says
by_read forms.Csv sheet text starts says = table_read forms.Csv sheet text starts says
by_read forms.Json sheet text starts says = json_read sheet text starts says

-- the starts that are read are those in the text
pub starts_said : (sheet : Sheet) (text starts : List ℕ) → starts_in sheet text ≡ Ok starts → SaysStarts sheet text starts
unfolding starts_in
starts_said sheet text starts e =
    then_ok (plain text) _ starts e (λ u good e.
    record { readable = good; said = by_said (form_of sheet text) sheet text starts e })

-- the starts in a text are read
pub starts_read : (sheet : Sheet) (text starts : List ℕ) → SaysStarts sheet text starts → starts_in sheet text ≡ Ok starts
unfolding starts_in
starts_read sheet text starts says = ok_bind (plain text) _ tt starts says.readable (by_read (form_of sheet text) sheet text starts says.said)

-- a text says only one list of starts
pub starts_once : (sheet : Sheet) (text a b : List ℕ) → SaysStarts sheet text a → SaysStarts sheet text b → a ≡ b
starts_once sheet text a b says also = same_ok a b (sym (starts_read sheet text a says) ∙ starts_read sheet text b also)

-- starts that a text says are read, so that only memory can run out
pub only_memory : (sheet : Sheet) (text starts : List ℕ) (e : ReadError) → SaysStarts sheet text starts → Fails e (starts_in sheet text) → e ≡ errors.Memory
only_memory sheet text starts errors.Memory says fails = refl
only_memory sheet text starts (errors.Fault f) says fails = absurd (not_both starts f (sym (starts_read sheet text starts says) ∙ fails))
  where
    not_both : (xs : List ℕ) (f : Fault) → Path (Result (List ℕ) Fault) (Ok xs) (Err f) → ⊥
    not_both xs f e = absurd (cc)

table_whole : (form : Form) (sheet : Sheet) (text starts : List ℕ) → IsWhole sheet → SaysTable form sheet text starts → length starts ≡ length sheet.entries
table_whole form sheet text starts is says = rows_whole form sheet (behind_result (rows_by form text)) starts says.rest is says.shown

table_early : (form : Form) (sheet : Sheet) (text starts : List ℕ) → SaysTable form sheet text starts → All (λ t. t ≤ latest_start) starts
table_early form sheet text starts says = rows_early form sheet (behind_result (rows_by form text)) starts says.rest says.shown

by_whole : (f : Form) (sheet : Sheet) (text starts : List ℕ) → IsWhole sheet → SaysBy f sheet text starts → length starts ≡ length sheet.entries
by_whole forms.Numbers sheet text starts is says = says.whole
by_whole forms.Table sheet text starts is says = table_whole forms.Table sheet text starts is says
by_whole forms.Csv sheet text starts is says = table_whole forms.Csv sheet text starts is says
by_whole forms.Json sheet text starts is says = table_whole forms.Json sheet (table_with (has_ids sheet) sheet.columns says.value) starts is says.said

by_early : (f : Form) (sheet : Sheet) (text starts : List ℕ) → SaysBy f sheet text starts → All (λ t. t ≤ latest_start) starts
by_early forms.Numbers sheet text starts says = says.in_time
by_early forms.Table sheet text starts says = table_early forms.Table sheet text starts says
by_early forms.Csv sheet text starts says = table_early forms.Csv sheet text starts says
by_early forms.Json sheet text starts says = table_early forms.Json sheet (table_with (has_ids sheet) sheet.columns says.value) starts says.said

-- one start for each entry
pub says_whole : (sheet : Sheet) (text starts : List ℕ) → IsWhole sheet → SaysStarts sheet text starts → length starts ≡ length sheet.entries
says_whole sheet text starts is says = by_whole (form_of sheet text) sheet text starts is says.said

-- none after the latest start
pub says_early : (sheet : Sheet) (text starts : List ℕ) → SaysStarts sheet text starts → All (λ t. t ≤ latest_start) starts
says_early sheet text starts says = by_early (form_of sheet text) sheet text starts says.said

-- ---- what a reader of a text promises, by its exact result

pub said_of : (r : Result (Vec ℕ Global) ReadError) (sheet : Sheet) (text : List ℕ) → Gives (λ v. v.items) r (starts_in sheet text) → IfOk r (λ v. SaysStarts sheet text v.items)
said_of (Ok v) sheet text exact = starts_said sheet text v.items exact
said_of (Err e) sheet text exact = tt

pub only_of : (r : Result (Vec ℕ Global) ReadError) (sheet : Sheet) (text : List ℕ) → Gives (λ v. v.items) r (starts_in sheet text)
    → (starts : List ℕ) → SaysStarts sheet text starts → MatchResult r (λ read. read.items ≡ starts) (λ e. e ≡ errors.Memory)
only_of (Ok v) sheet text exact starts says = starts_once sheet text v.items starts (starts_said sheet text v.items exact) says
only_of (Err e) sheet text exact starts says = only_memory sheet text starts e says exact

pub refused_of : (r : Result (Vec ℕ Global) ReadError) (sheet : Sheet) (text : List ℕ) → Gives (λ v. v.items) r (starts_in sheet text) → IfErr r (λ e. Fails e (starts_in sheet text))
refused_of (Ok v) sheet text exact = tt
refused_of (Err e) sheet text exact = exact

pub whole_of : (r : Result (Vec ℕ Global) ReadError) (sheet : Sheet) (text : List ℕ) → IsWhole sheet → Gives (λ v. v.items) r (starts_in sheet text) → IfOk r (λ v. length v.items ≡ length sheet.entries)
whole_of (Ok v) sheet text is exact = says_whole sheet text v.items is (starts_said sheet text v.items exact)
whole_of (Err e) sheet text is exact = tt

pub early_of : (r : Result (Vec ℕ Global) ReadError) (sheet : Sheet) (text : List ℕ) → Gives (λ v. v.items) r (starts_in sheet text) → IfOk r (λ v. All (λ t. t ≤ latest_start) v.items)
early_of (Ok v) sheet text exact = says_early sheet text v.items (starts_said sheet text v.items exact)
early_of (Err e) sheet text exact = tt
