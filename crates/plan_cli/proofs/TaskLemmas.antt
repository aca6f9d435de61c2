-- The text or line of a task for the first bytes of a file is that for the whole file.
use Rattle.std.proofs.Common.{◌≡◌, ◌⊎◌, inl, inr, ℕ, ◌+◌, ◌≤◌, ◌<◌, Bool, false, List, [], Option, Some, None, Result, Ok, Err, Vec, is_some, length, take, map, refl, sym, ap, ◌∙◌, subst, arith}
use Rattle.std.specs.Global.{Global}
use Rattle.std.specs.Option.{option_map_or}
use Rattle.std.specs.Prelude.{IsNone}
use Rattle.std.proofs.lemmas.Bool.{lt-leb, cases_lt, true≢false}
use Rattle.std.proofs.lemmas.List.{length-take, take_all, take-take}
use Rattle.plan_psplib.specs.Plain.{longest_text}
use Rattle.plan_orlib.specs.Shop as docs
use Rattle.plan_orlib.specs.Says.{Says as ShopSays}
use Rattle.plan_formats.specs.declared.format.Format.{Format}
use Rattle.plan_documents.specs.Documents.{IsOfSubject}
use Rattle.plan_cli.specs.Scheduled.{TellsNoRuleOf, TellsNotMade}
use Rattle.plan_cli.specs.Tables.{IsTableBy}
use Rattle.plan_cli.specs.ChartRun.{IsChartFrom}
use Rattle.plan_cli.specs.DaysRun.{IsDaysFrom, TellsNoDaysFrom}
use Rattle.plan_cli.specs.SlackRun.{IsSlackOf, TellsNoSlack}
use Rattle.plan_cli.specs.CompareRun.{IsCompared, TellsNotCompared}
use Rattle.plan_cli.specs.ListComparisons.{AreListsCompared, TellsNoLists}
use Rattle.plan_cli.specs.CheckRun.{TellsVerdictOn, TellsBadStarts}
use Rattle.plan_cli.specs.BestRun.{IsBestOf, TellsNoBestOf}
use Rattle.plan_cli.specs.SolveRun.{IsSolvedBy, TellsNoSolution}
use Rattle.plan_cli.specs.ListRun.{IsTimedList, RefusesShort, RefusesTimedList}
use Rattle.plan_cli.specs.declared.calendars.Dates.{Dates}
use Rattle.plan_cli.specs.declared.origins.Origin.{Origin}
use Rattle.plan_spreadsheet.specs.declared.options.Options.{Options}
use Rattle.plan_documents.specs.declared.documents.Plan.{Plan}
use Rattle.plan_documents.specs.declared.documents.Subject.{Subject}
use Rattle.plan_documents.specs.declared.documents.Subject.TheVariants as subject
use Rattle.plan_encoding.specs.Workbooks.{workbook}
use Rattle.plan_spreadsheet.specs.PlainLists.{Stays, text_of}
use Rattle.plan_spreadsheet.specs.declared.list.PlainList.{PlainList}
use Rattle.plan_table.specs.Entries.{filled_from}
use Rattle.plan_table.specs.declared.fault.TableCode.TheVariants as table_code
use Rattle.plan_table.specs.declared.fault.ReadError.{ReadError}
use Rattle.plan_table.specs.declared.fault.ReadError.TheVariants as errors
use Rattle.plan_table.specs.Kinds.{IsKind, IsPlanFile, kind_of_header, header_cells, header_kind}
use Rattle.plan_table.specs.declared.kinds.ListKind.{ListKind}
use Rattle.plan_table.specs.declared.kinds.ListKind.TheVariants as kinds
use Rattle.plan_table.specs.Listing.{rows_read, table_in, table_read_with}
use Rattle.plan_table.specs.Overrides.{Override, override_of}
use Rattle.plan_table.specs.ShopReading.{shop_in, shop_table_read}
use Rattle.plan_table.specs.Reading as reads
use Rattle.plan_table.specs.Refused.{IsRefusedWith, IsUnsoundWith}
use Rattle.plan_documents.specs.ImportRun.{IsImportOf, TellsNoImport, TellsNoSoundImport, IsShopImportOf, TellsNoShopImport, IsImportBy, TellsNoImportBy}
use Rattle.plan_documents.specs.ImportRun.{IsImportIn, TellsNoImportIn, IsImport, TellsUnimported, IsShopImport, TellsNoShop}
use Rattle.plan_documents.specs.Spreadsheets.{IsListOf, IsLong, IsPlainIf, OfList, RefusesOfList, TellsBook, TellsNoList, TellsNoListIf, is_short}
use Rattle.plan_cli.specs.Tasks.{IsTextOf, IsLineOf, ShowsTask}
use Rattle.plan_cli.specs.declared.tasks.Rows.{Rows}
use Rattle.plan_cli.specs.declared.tasks.Rows.TheVariants as rows
use Rattle.plan_cli.specs.declared.tasks.Task.{Task}
use Rattle.plan_cli.specs.declared.tasks.Task.TheVariants as task
use Rattle.plan_cli.specs.TaskViews.{IsViewOf}
use Rattle.plan_cli.specs.Views.{View, plain_text}
use Rattle.plan_cli.proofs.ViewTextLemmas.{view_text}
use Rattle.plan_cli.proofs.RunLemmas.{HoldsByFront, of_subject_front, refuses_subject_front, of_ids_front, refuses_ids_front, names_front, not_plain_front}
use Rattle.plan_cli.proofs.RunLemmas.{proof_front, no_proof_front, table_front, line_front, project_short, plain_short, whole_front}

-- a plan file isn't too long
plan_short : (text : List ℕ) → IsPlanFile text → length text ≤ longest_text
plan_short text (inl (p, says)) = project_short text p says
plan_short text (inr (readable, some)) = plain_short text readable

-- the front of a plan file is the file
plan_front : (file : List ℕ) → IsPlanFile file → IsPlanFile (take (longest_text + 1) file)
plan_front file is =
    let short = plan_short file is in
    subst IsPlanFile (sym (take_all (longest_text + 1) file (omega (arith, short)))) is

front_plan : (file : List ℕ) → IsPlanFile (take (longest_text + 1) file) → IsPlanFile file
front_plan file is = subst IsPlanFile (whole_front file (plan_short (take (longest_text + 1) file) is)) is

-- the header in the front of a file is that of the file
header_front : (file : List ℕ) → header_kind (take (longest_text + 1) file) ≡ header_kind file
header_front file = ap (λ (text : List ℕ). kind_of_header (header_cells text)) (take-take longest_text (longest_text + 1) file (omega arith))

-- the front of a file is a list of the kind that the file is
pub kind_front : (file : List ℕ) (kind : Option ListKind) → IsKind (take (longest_text + 1) file) kind → IsKind file kind
kind_front file None (inl none) = inl (sym (header_front file) ∙ none)
kind_front file None (inr is) = inr (front_plan file is)
kind_front file (Some kind) (header, no_plan) = (sym (header_front file) ∙ header, λ is. no_plan (plan_front file is))

-- ---- the plain list of a file

-- a plain list that stays is the file
no_text : (o : Option (Vec ℕ Global)) (file : List ℕ) → is_some o ≡ false → option_map_or (λ text. text.items) o file ≡ file
no_text None file none = refl
no_text (Some text) file some = absurd (true≢false some)

stays : (p : PlainList) (file : List ℕ) → Stays p → text_of p file ≡ file
stays p file is = no_text p.text file is.0

-- the front of a longer file is longer than the longest text
front_long : (file : List ℕ) → longest_text < length file → longest_text < length (take (longest_text + 1) file)
front_long file long = let m = length-take (longest_text + 1) file in omega (arith, m, long)

-- a longer file isn't short
not_short : (file : List ℕ) → longest_text < length file → is_short file ≡ false
not_short file long = lt-leb (length file) longest_text long

-- the first bytes of the front of a file are those of the file
front_bytes : (file : List ℕ) → take longest_text (take (longest_text + 1) file) ≡ take longest_text file
front_bytes file = take-take longest_text (longest_text + 1) file (omega arith)

-- if the front of a longer file stays, then the file stays
long_front : (file : List ℕ) (p : PlainList) → IsLong (take (longest_text + 1) file) p → IsLong file p
long_front file p (none, is) = (subst (λ (bytes : List ℕ). IsNone (workbook bytes)) (front_bytes file) none, is)

-- the plain list of a longer file is the file
stays_list : (given : List Override) (file list : List ℕ) → longest_text < length file → IsListOf given file list → list ≡ file
stays_list given file list long (p, plain, same) =
    let is : IsLong file p = subst (λ (b : Bool). IsPlainIf b given file p) (not_short file long) plain in
    same ∙ stays p file is.1

-- the plain list of the front of a longer file is the front
long_list : (given : List Override) (file list : List ℕ) → longest_text < length file → IsListOf given (take (longest_text + 1) file) list
    → (list ≡ take (longest_text + 1) file) × IsListOf given file file
long_list given file list long (p, plain, same) =
    let front = take (longest_text + 1) file in
    let is : IsLong front p = subst (λ (b : Bool). IsPlainIf b given front p) (not_short front (front_long file long)) plain in
    let whole : IsLong file p = long_front file p is in (
      same ∙ stays p front is.1,
      (p, subst (λ (b : Bool). IsPlainIf b given file p) (sym (not_short file long)) whole, sym (stays p file whole.1)),
    )

-- a fact about the plain list of the front of a file is one about that of the file
pub list_front : (given : List Override) (Holds : List ℕ → Type 0) (file list : List ℕ) → IsListOf given (take (longest_text + 1) file) list
    → (Holds (take (longest_text + 1) file) → Holds file) → Holds list → OfList given file Holds
list_front given Holds file list is whole holds = by_length (cases_lt longest_text (length file))
  where
    by_length : (longest_text < length file) ⊎ (length file ≤ longest_text) → OfList given file Holds
    by_length (inr short) =
        (list, subst (λ (bytes : List ℕ). IsListOf given bytes list) (take_all (longest_text + 1) file (omega (arith, short))) is, holds)
    by_length (inl long) =
        let stay = long_list given file list long is in
        (file, stay.1, whole (subst Holds stay.0 holds))

-- the workbook that the front of a longer file begins like is that of the file
book_front : (file line : List ℕ) → TellsBook (take (longest_text + 1) file) line → TellsBook file line
book_front file line (book, some, tells) = (book, ap workbook (sym (front_bytes file)) ∙ some, tells)

-- the line that refuses the front of a file as a list is that for the file
no_list_front : (given : List Override) → HoldsByFront (TellsNoList given)
no_list_front given file line tells = by_length (cases_lt longest_text (length file))
  where
    by_length : (longest_text < length file) ⊎ (length file ≤ longest_text) → TellsNoList given file line
    by_length (inr short) = subst (λ (bytes : List ℕ). TellsNoList given bytes line) (take_all (longest_text + 1) file (omega (arith, short))) tells
    by_length (inl long) =
        let front = take (longest_text + 1) file in
        let book : TellsBook front line = subst (λ (b : Bool). TellsNoListIf b given front line) (not_short front (front_long file long)) tells in
        subst (λ (b : Bool). TellsNoListIf b given file line) (sym (not_short file long)) (book_front file line book)

-- a text for the plain list of the front of a file is one for that of the file
of_list_front : (given : List Override) (IsText : List ℕ → List ℕ → Type 0) → HoldsByFront IsText
    → HoldsByFront (λ file text. OfList given file (λ list. IsText list text))
of_list_front given IsText texts file text (list, is, holds) = list_front given (λ l. IsText l text) file list is (texts file text) holds

-- the line that refuses the plain list of the front of a file is that for the file
pub refuses_list_front : (given : List Override) (IsLine : List ℕ → List ℕ → Type 0) → HoldsByFront IsLine
    → HoldsByFront (RefusesOfList given IsLine)
refuses_list_front given IsLine lines file line (inl tells) = inl (no_list_front given file line tells)
refuses_list_front given IsLine lines file line (inr is) = inr (of_list_front given IsLine lines file line is)

-- the records of a text that is too long
long_rows : (text : List ℕ) → longest_text < length text → rows_read text ≡ reads.fault table_code.TooLong 0 []
unfolding rows_read
long_rows text long = rw (lt-leb (length text) longest_text long)

-- the records in the front of a file are those in the file
front_rows : (file : List ℕ) → rows_read (take (longest_text + 1) file) ≡ rows_read file
front_rows file = by_length (cases_lt longest_text (length file))
  where
    by_length : (longest_text < length file) ⊎ (length file ≤ longest_text)
        → rows_read (take (longest_text + 1) file) ≡ rows_read file
    by_length (inr short) = ap rows_read (take_all (longest_text + 1) file (omega (arith, short)))
    by_length (inl long) =
        let m = length-take (longest_text + 1) file in
        long_rows (take (longest_text + 1) file) (omega (arith, m, long)) ∙ sym (long_rows file long)

-- the table in the front of a file is that in the file
front_table : (given : List Override) (file : List ℕ) → table_read_with given (take (longest_text + 1) file) ≡ table_read_with given file
front_table given file =
    ap (λ rows. reads.◌>>=◌ rows (λ found. table_in given (filled_from found))) (front_rows file)

-- the list of orders in the front of a file is that in the file
front_orders : (file : List ℕ) → shop_table_read (take (longest_text + 1) file) ≡ shop_table_read file
front_orders file =
    ap (λ rows. reads.◌>>=◌ rows (λ found. shop_in (filled_from found))) (front_rows file)

-- a result that is fine
abbrev pub IsRead : {A : Type 0} → Result A reads.Fault → Type 0
IsRead (Ok t) = Unit {0}
IsRead (Err e) = ⊥

-- records that were read aren't too long
rows_short : (text : List ℕ) → IsRead (rows_read text) → length text ≤ longest_text
rows_short text read = by_length (cases_lt longest_text (length text))
  where
    by_length : (longest_text < length text) ⊎ (length text ≤ longest_text) → length text ≤ longest_text
    by_length (inr short) = short
    by_length (inl long) = absurd (subst IsRead (long_rows text long) read)

-- if something was read from a result, then the result is fine
was_read : {A B : Type 0} (r : Result A reads.Fault) (next : A → Result B reads.Fault) (t : B) → reads.◌>>=◌ r next ≡ Ok t → IsRead r
was_read (Ok x) next t e = tt
was_read (Err f) next t e = subst IsRead (sym e) tt

pub import_front : (given : List Override) → HoldsByFront (IsImportOf given)
import_front given file text (t, read, shown) = (t, sym (front_table given file) ∙ read, shown)

-- a table of which the front is refused is refused
refused_front : (given : List Override) (file : List ℕ) (e : ReadError) → IsRefusedWith given (take (longest_text + 1) file) e → IsRefusedWith given file e
refused_front given file errors.Memory r = tt
refused_front given file (errors.Fault f) (inl read) = inl (sym (front_table given file) ∙ read)
refused_front given file (errors.Fault f) (inr (t, read, cycle)) = inr (t, sym (front_table given file) ∙ read, cycle)

pub no_import_front : (given : List Override) → HoldsByFront (TellsNoImport given)
no_import_front given file line (inl (first, refused, tells)) = inl (first, refused_front given file (errors.Fault first) refused, tells)
no_import_front given file line (inr (t, read, tells)) = inr (t, sym (front_table given file) ∙ read, tells)

unsound_front : (file : List ℕ) (e : ReadError) → IsUnsoundWith [] (take (longest_text + 1) file) e → IsUnsoundWith [] file e
unsound_front file errors.Memory r = tt
unsound_front file (errors.Fault f) (inl read) = inl (sym (front_table [] file) ∙ read)
unsound_front file (errors.Fault f) (inr (t, read, cycle)) = inr (t, sym (front_table [] file) ∙ read, cycle)

pub no_sound_import_front : HoldsByFront TellsNoSoundImport
no_sound_import_front file line (inl (first, refused, tells)) = inl (first, unsound_front file (errors.Fault first) refused, tells)
no_sound_import_front file line (inr (t, read, tells)) = inr (t, sym (front_table [] file) ∙ read, tells)

pub shop_import_front : HoldsByFront IsShopImportOf
shop_import_front file text (t, read, shown) = (t, sym (front_orders file) ∙ read, shown)

pub no_shop_import_front : HoldsByFront TellsNoShopImport
no_shop_import_front file line (inl (first, refused, tells)) = inl (first, sym (front_orders file) ∙ refused, tells)
no_shop_import_front file line (inr (t, read, tells)) = inr (t, sym (front_orders file) ∙ read, tells)

import_by_front : (given : List Override) (kind : Option ListKind) → HoldsByFront (IsImportBy kind given)
import_by_front given None file text made = import_front given file text made
import_by_front given (Some kinds.Activities) file text made = import_front given file text made
import_by_front given (Some kinds.Orders) file text (none, made) = (none, shop_import_front file text made)

no_import_by_front : (given : List Override) (kind : Option ListKind) → HoldsByFront (TellsNoImportBy kind given)
no_import_by_front given None file line tells = no_import_front given file line tells
no_import_by_front given (Some kinds.Activities) file line tells = no_import_front given file line tells
no_import_by_front given (Some kinds.Orders) file line (inl tells) = inl (no_shop_import_front file line tells)
no_import_by_front given (Some kinds.Orders) file line (inr tells) = inr tells

import_in_front : (given : List Override) → HoldsByFront (IsImportIn given)
import_in_front given file text (kind, is, made) = (kind, kind_front file kind is, import_by_front given kind file text made)

no_import_in_front : (given : List Override) → HoldsByFront (TellsNoImportIn given)
no_import_in_front given file line (kind, is, tells) = (kind, kind_front file kind is, no_import_by_front given kind file line tells)

-- the file that `plan import` makes of the front of a file is that of the file
imported_front : (given : List Override) → HoldsByFront (IsImport given)
imported_front given = of_list_front given (IsImportIn given) (import_in_front given)

unimported_front : (given : List Override) → HoldsByFront (TellsUnimported given)
unimported_front given = refuses_list_front given (TellsNoImportIn given) (no_import_in_front given)

shop_front : HoldsByFront IsShopImport
shop_front = of_list_front [] IsShopImportOf shop_import_front

no_shop_front : HoldsByFront TellsNoShop
no_shop_front = refuses_list_front [] TellsNoShopImport no_shop_import_front

-- the list with its times in the front of a file is that of the file
timed_front : (from : Origin) (dates : Option Dates) (of : Subject) (o : Option Options) → HoldsByFront (IsTimedList from dates of o)
timed_front from dates of o file text is = subst (λ (bytes : List ℕ). IsTimedList from dates of o bytes text) (whole_front file is.short) is

untimed_front : (from : Origin) (dates : Option Dates) (of : Subject) (o : Option Options) → HoldsByFront (RefusesTimedList from dates of o)
untimed_front from dates of o file line (inl tells) = inl tells
untimed_front from dates of o file line (inr is) =
    inr (subst (λ (bytes : List ℕ). (length bytes ≤ longest_text) × RefusesShort from dates of o bytes line) (whole_front file is.0) is)

-- the text of a task for the front of a file is that for the file
task_front : (task : Task) → HoldsByFront (IsTextOf task)
task_front task.Dates = table_front
task_front (task.Schedule rule subject) = of_subject_front subject (IsTableBy rule.now)
task_front (task.Chart from subject) = of_subject_front subject (IsChartFrom from)
task_front (task.Days from dates style subject) = of_subject_front subject (IsDaysFrom from dates style)
task_front task.Names = names_front
task_front (task.Check starts subject) = of_subject_front subject (TellsVerdictOn starts.now)
task_front (task.Slack starts given) = of_ids_front given.now (λ ids. IsSlackOf ids starts.now)
task_front (task.Compare starts subject) = of_subject_front subject (IsCompared starts.a.now starts.b.now)
task_front (task.CompareLists old starts subject) = of_subject_front subject (AreListsCompared subject old.now starts.a.now starts.b.now)
task_front (task.Best budget subject) = of_subject_front subject (IsBestOf budget.now)
task_front (task.Prove nodes instance) = proof_front nodes.now instance.now
task_front (task.Solve conflicts subject) = of_subject_front subject IsSolvedBy
task_front (task.Import given) = imported_front (map override_of given.now)
task_front task.ImportShop = shop_front
task_front (task.List from dates subject options) = timed_front from dates subject options

pub task_line_front : (task : Task) → HoldsByFront (IsLineOf task)
task_line_front task.Dates = line_front
task_line_front (task.Schedule rule subject) = refuses_subject_front subject (TellsNoRuleOf rule.now)
task_line_front (task.Chart from subject) = refuses_subject_front subject (TellsNotMade from)
task_line_front (task.Days from dates style subject) = refuses_subject_front subject (TellsNoDaysFrom from dates style)
task_line_front task.Names = not_plain_front
task_line_front (task.Check starts subject) = refuses_subject_front subject (TellsBadStarts starts.now)
task_line_front (task.Slack starts given) = refuses_ids_front given.now (λ ids. TellsNoSlack ids starts.now)
task_line_front (task.Compare starts subject) = refuses_subject_front subject (TellsNotCompared starts.a.now starts.b.now)
task_line_front (task.CompareLists old starts subject) = refuses_subject_front subject (TellsNoLists subject old.now starts.a.now starts.b.now)
task_line_front (task.Best budget subject) = refuses_subject_front subject (TellsNoBestOf budget.now)
task_line_front (task.Prove nodes instance) = no_proof_front nodes.now instance.now
task_line_front (task.Solve conflicts subject) = refuses_subject_front subject TellsNoSolution
task_line_front (task.Import given) = unimported_front (map override_of given.now)
task_line_front task.ImportShop = no_shop_front
task_line_front (task.List from dates subject options) = untimed_front from dates subject options

-- a file that says a job shop isn't too long
shop_short : (instance file : List ℕ) (doc : docs.Shop) → ShopSays instance file doc → length file ≤ longest_text
shop_short instance file doc says = plain_short file says.readable

-- a file for which a text of a project or a job shop is written isn't too long
subject_short : (subject : Subject) (IsText : Plan → List ℕ → Type 0) (file text : List ℕ) → IsOfSubject subject IsText file text → length file ≤ longest_text
subject_short (subject.Project given) IsText file text (p, says, rest) = project_short file p says
subject_short (subject.Shop instance) IsText file text (doc, says, rest) = shop_short instance.now file doc says

-- a list that is imported isn't too long
activities_short : (given : List Override) (file text : List ℕ) → IsImportOf given file text → length file ≤ longest_text
activities_short given file text (t, read, shown) =
    rows_short file (was_read (rows_read file) (λ found. table_in given (filled_from found)) t read)

orders_short : (file text : List ℕ) → IsShopImportOf file text → length file ≤ longest_text
orders_short file text (t, read, shown) =
    rows_short file (was_read (rows_read file) (λ found. shop_in (filled_from found)) t read)

import_by_short : (given : List Override) (kind : Option ListKind) (file text : List ℕ) → IsImportBy kind given file text
    → length file ≤ longest_text
import_by_short given None file text made = activities_short given file text made
import_by_short given (Some kinds.Activities) file text made = activities_short given file text made
import_by_short given (Some kinds.Orders) file text (none, made) = orders_short file text made

-- a file whose plain list is imported isn't too long: a longer one stays
of_list_short : (given : List Override) (file : List ℕ) (Holds : List ℕ → Type 0) → OfList given file Holds
    → ((list : List ℕ) → Holds list → length list ≤ longest_text) → length file ≤ longest_text
of_list_short given file Holds (list, is, holds) short = by_length (cases_lt longest_text (length file))
  where
    by_length : (longest_text < length file) ⊎ (length file ≤ longest_text) → length file ≤ longest_text
    by_length (inr few) = few
    by_length (inl long) =
        let same : list ≡ file = stays_list given file list long is in
        subst (λ (l : List ℕ). length l ≤ longest_text) same (short list holds)

import_in_short : (given : List Override) (list text : List ℕ) → IsImportIn given list text → length list ≤ longest_text
import_in_short given list text (kind, is, made) = import_by_short given kind list text made

import_short : (given : List Override) (file text : List ℕ) → IsImport given file text → length file ≤ longest_text
import_short given file text is =
    of_list_short given file (λ list. IsImportIn given list text) is (λ list made. import_in_short given list text made)

-- a file for which a task writes a text isn't too long
file_short : (task : Task) (file text : List ℕ) → IsTextOf task file text → length file ≤ longest_text
file_short task.Dates file text (p, says, rest) = project_short file p says
file_short (task.Schedule rule subject) file text is = subject_short subject (IsTableBy rule.now) file text is
file_short (task.Chart from subject) file text is = subject_short subject (IsChartFrom from) file text is
file_short (task.Days from dates style subject) file text is = subject_short subject (IsDaysFrom from dates style) file text is
file_short task.Names file text (readable, is) = plain_short file readable
file_short (task.Check starts subject) file text is = subject_short subject (TellsVerdictOn starts.now) file text is
file_short (task.Slack starts given) file text (p, says, rest) = project_short file p says
file_short (task.Compare starts subject) file text is = subject_short subject (IsCompared starts.a.now starts.b.now) file text is
file_short (task.CompareLists old starts subject) file text is = subject_short subject (AreListsCompared subject old.now starts.a.now starts.b.now) file text is
file_short (task.Best budget subject) file text is = subject_short subject (IsBestOf budget.now) file text is
file_short (task.Prove nodes instance) file text (doc, says, rest) = shop_short instance.now file doc says
file_short (task.Solve conflicts subject) file text is = subject_short subject IsSolvedBy file text is
file_short (task.Import given) file text is = import_short (map override_of given.now) file text is
file_short task.ImportShop file text is = of_list_short [] file (λ list. IsShopImportOf list text) is (λ list made. orders_short list text made)
file_short (task.List from dates subject options) file text is = is.short

-- a file for which a task shows something isn't too long
view_short : (task : Task) (file : List ℕ) (view : View) → IsViewOf task file view → length file ≤ longest_text
view_short task file view is = file_short task file (plain_text view) (view_text task file view is)

-- the text of a task with names for the front of a file is that for the file
named_front : (task : Task) → HoldsByFront (ShowsTask rows.Named task)
named_front task file text (view, is, named) =
    subst (λ (bytes : List ℕ). ShowsTask rows.Named task bytes text) (whole_front file (view_short task (take (longest_text + 1) file) view is)) (view, is, named)

-- the text of a task for the front of a list is that for the list
listed_front : (task : Task) → HoldsByFront (ShowsTask rows.Listed task)
listed_front task file text (view, is, made) =
    subst (λ (bytes : List ℕ). ShowsTask rows.Listed task bytes text) (whole_front file (view_short task (take (longest_text + 1) file) view is)) (view, is, made)

-- the text of a task in a format for the front of a file is that for the file
formatted_front : (task : Task) (format : Format) → HoldsByFront (ShowsTask (rows.In format) task)
formatted_front task format file text (view, is, made) =
    subst (λ (bytes : List ℕ). ShowsTask (rows.In format) task bytes text) (whole_front file (view_short task (take (longest_text + 1) file) view is)) (view, is, made)

-- the text of a task for the front of a file, with these rows, is that for the file
pub shown_front : (task : Task) (names : Rows) → HoldsByFront (ShowsTask names task)
shown_front task rows.Plain = task_front task
shown_front task rows.Named = named_front task
shown_front task rows.Listed = listed_front task
shown_front task (rows.In format) = formatted_front task format
