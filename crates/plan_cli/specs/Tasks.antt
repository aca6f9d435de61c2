-- The texts and lines of each task, and files that are given by their names (docs/definitions.md,
-- "Runs").
use Rattle.std.specs.Prelude.{◌≡◌, ℕ, ◌+◌, List, [], Option, Some, None, Result, IfSome}
use Rattle.std.specs.Prelude.{take, map}
use Rattle.std.specs.Prelude.{Bool, true, false, ◌&&◌, codes, bytes_eq, if◌then◌else◌}
use denote.Ref.{Bor}
use Rattle.plan_gantt.specs.FirstFaults.{TellsFirstFailing}
use Rattle.plan_cli.specs.Run.{IsDateTableOf, ReadsFront}
use Rattle.plan_documents.specs.Documents.{IsOfSubject, RefusesSubject, ids_in, ids_of_rows}
use Rattle.plan_documents.specs.Documents.{names_of_rows, names_of_lines}
use Rattle.plan_cli.specs.Links.{AreProjectLinks, AreSubjectLinks}
use Rattle.plan_documents.specs.Plans.{IsOfProject, RefusesFile}
use Rattle.plan_cli.specs.Scheduled.{TellsNoRuleOf, TellsNotMade}
use Rattle.plan_cli.specs.Tables.{IsTableBy}
use Rattle.plan_cli.specs.ChartRun.{IsChartFrom}
use Rattle.plan_cli.specs.DaysRun.{IsDaysFrom, TellsNoDaysFrom}
use Rattle.plan_cli.specs.SlackRun.{IsSlackOf, TellsNoSlack}
use Rattle.plan_cli.specs.CompareRun.{IsCompared, TellsNotCompared}
use Rattle.plan_cli.specs.ListComparisons.{AreListsCompared, TellsNoLists}
use Rattle.plan_formats.specs.declared.format.Format.{Format}
use Rattle.plan_cli.specs.NamesRun.{AreNamesOf, TellsNotPlain}
use Rattle.plan_cli.specs.CheckRun.{IsVerdictOn, TellsVerdictOn, TellsBadStarts}
use Rattle.plan_cli.specs.BestRun.{IsBestOf, TellsNoBestOf}
use Rattle.plan_cli.specs.ProveRun.{IsProofTableOf, TellsWhyNoProof}
use Rattle.plan_cli.specs.SolveRun.{IsSolvedBy, TellsNoSolution}
use Rattle.plan_cli.specs.ListRun.{IsTimedList, RefusesTimedList}
use Rattle.plan_documents.specs.ImportRun.{IsImport, TellsUnimported, IsShopImport, TellsNoShop}
use Rattle.plan_documents.specs.Lists.{ReadsAs, RefusesAs}
use Rattle.plan_documents.specs.NamedVerdicts.{verdict_sentence}
use Rattle.plan_sgs.specs.declared.verdict.Verdict.{Verdict}
use Rattle.plan_views.specs.LinkColumns.{Links}
use Rattle.plan_views.specs.LineLists.{verdict_view_of}
use Rattle.plan_cli.specs.TaskViews.{IsViewOf}
use Rattle.plan_cli.specs.Views.{View, chart, named_text, plain_text, table, text_in}
use Rattle.plan_views.specs.Charts.{Chart}
use Rattle.plan_cli.specs.OrderTables.{IsShopOf, view_for}
use Rattle.plan_shop.specs.Shop.{JobShop}
use Rattle.plan_table.specs.Names.{Name, names_behind, activity_key}
use Rattle.plan_table.specs.Overrides.{override_of}
use Rattle.plan_table.specs.ShopNames.{instance_names, order_key}
use Rattle.plan_table.specs.declared.kinds.ListKind.{ListKind}
use Rattle.plan_table.specs.declared.kinds.ListKind.TheVariants as kinds
use Rattle.plan_documents.specs.declared.documents.Plan.{Plan}
use Rattle.plan_documents.specs.declared.documents.Subject.{Subject}
use Rattle.plan_documents.specs.declared.documents.Subject.TheVariants as subjects
use Rattle.plan_cli.specs.declared.inputs.Inputs as inputs
use Rattle.plan_cli.specs.declared.tasks.Rows.{Rows}
use Rattle.plan_cli.specs.declared.tasks.Rows.TheVariants as rows
use Rattle.plan_cli.specs.declared.tasks.Task.{Task}
use Rattle.plan_cli.specs.declared.tasks.Task.TheVariants as task
use Rattle.plan_psplib.specs.Plain.{longest_text}
use Rattle.plan_errors.specs.declared.fault.CliFault.{CliFault}

-- the texts that a task writes for a file
abbrev pub IsTextOf : Task → List ℕ → List ℕ → Type 0
IsTextOf task.Dates = IsDateTableOf
IsTextOf (task.Schedule rule subject) = IsOfSubject subject (IsTableBy rule.now)
IsTextOf (task.Chart from subject) = IsOfSubject subject (IsChartFrom from)
IsTextOf (task.Days from dates style subject) = IsOfSubject subject (IsDaysFrom from dates style)
IsTextOf task.Names = AreNamesOf
IsTextOf (task.Check starts subject) = IsOfSubject subject (TellsVerdictOn starts.now)
IsTextOf (task.Slack starts given) = λ file. IsOfProject given.now (IsSlackOf (ids_in file) starts.now) file
IsTextOf (task.Compare starts subject) =
    IsOfSubject subject (IsCompared starts.a.now starts.b.now)
IsTextOf (task.CompareLists old starts subject) =
    IsOfSubject subject (AreListsCompared subject old.now starts.a.now starts.b.now)
IsTextOf (task.Best budget subject) = IsOfSubject subject (IsBestOf budget.now)
IsTextOf (task.Prove nodes instance) = IsProofTableOf nodes.now instance.now
IsTextOf (task.Solve conflicts subject) = IsOfSubject subject IsSolvedBy
IsTextOf (task.Import given) = IsImport (map override_of given.now)
IsTextOf task.ImportShop = IsShopImport
IsTextOf (task.List from dates subject options) = IsTimedList from dates subject options

-- the lines with which a task refuses a file
abbrev pub IsLineOf : Task → List ℕ → List ℕ → Type 0
IsLineOf task.Dates = TellsFirstFailing
IsLineOf (task.Schedule rule subject) = RefusesSubject subject (TellsNoRuleOf rule.now)
IsLineOf (task.Chart from subject) = RefusesSubject subject (TellsNotMade from)
IsLineOf (task.Days from dates style subject) =
    RefusesSubject subject (TellsNoDaysFrom from dates style)
IsLineOf task.Names = TellsNotPlain
IsLineOf (task.Check starts subject) = RefusesSubject subject (TellsBadStarts starts.now)
IsLineOf (task.Slack starts given) = λ file. RefusesFile given.now (TellsNoSlack (ids_in file) starts.now) file
IsLineOf (task.Compare starts subject) =
    RefusesSubject subject (TellsNotCompared starts.a.now starts.b.now)
IsLineOf (task.CompareLists old starts subject) =
    RefusesSubject subject (TellsNoLists subject old.now starts.a.now starts.b.now)
IsLineOf (task.Best budget subject) = RefusesSubject subject (TellsNoBestOf budget.now)
IsLineOf (task.Prove nodes instance) = TellsWhyNoProof nodes.now instance.now
IsLineOf (task.Solve conflicts subject) = RefusesSubject subject TellsNoSolution
IsLineOf (task.Import given) = TellsUnimported (map override_of given.now)
IsLineOf task.ImportShop = TellsNoShop
IsLineOf (task.List from dates subject options) = RefusesTimedList from dates subject options

-- The names of the rows that a task writes for a file. The rows are those of activities in a
-- project, of orders in a job shop, and of machines in its chart. Other rows have no names.
abbrev pub names_for : Task → List ℕ → List Name
names_for task.Dates file = names_behind activity_key file
names_for (task.Schedule rule subject) file = names_of_rows subject file
names_for (task.Chart from subject) file = names_of_lines subject file
names_for (task.Days from dates style subject) file = names_of_rows subject file
names_for (task.Slack starts given) file = names_behind activity_key file
names_for (task.Compare starts subject) file = names_of_rows subject file
names_for (task.Best budget subject) file = names_of_rows subject file
names_for (task.Prove nodes instance) file = instance_names order_key instance.now file
names_for (task.Solve conflicts subject) file = names_of_rows subject file
names_for _ file = []

-- the ids of the rows that a task writes for a file: activities of a project can have ids
abbrev pub ids_for : Task → List ℕ → List Name
ids_for task.Dates file = ids_in file
ids_for (task.Schedule rule subject) file = ids_of_rows subject file
ids_for (task.Chart from subject) file = ids_of_rows subject file
ids_for (task.Days from dates style subject) file = ids_of_rows subject file
ids_for (task.Slack starts given) file = ids_in file
ids_for (task.Compare starts subject) file = ids_of_rows subject file
ids_for (task.Best budget subject) file = ids_of_rows subject file
ids_for (task.Solve conflicts subject) file = ids_of_rows subject file
ids_for _ file = []

-- the resources and the predecessors of the activities that a task writes, if they have these ids;
-- dates ignore resources, and a chart doesn't show them
abbrev pub AreLinksFor : Task → List Name → List ℕ → List Links → Type 0
AreLinksFor (task.Schedule rule subject) ids = AreSubjectLinks ids subject
AreLinksFor (task.Days from dates style subject) ids = AreSubjectLinks ids subject
AreLinksFor (task.Slack starts given) ids = AreProjectLinks ids given.now
AreLinksFor (task.Compare starts subject) ids = AreSubjectLinks ids subject
AreLinksFor (task.Best budget subject) ids = AreSubjectLinks ids subject
AreLinksFor (task.Solve conflicts subject) ids = AreSubjectLinks ids subject
AreLinksFor _ ids = λ file links. links ≡ []

-- a text is the text of what a task shows for a file, each row with its name, and activities with
-- their ids
abbrev pub IsNamedText : Task → List ℕ → List ℕ → Type 0
IsNamedText t file text = (view : View) × IsViewOf t file view
    × (text ≡ named_text (ids_for t file) (names_for t file) [] view)

-- the same with the resources and the predecessors of activities
abbrev pub IsListedText : Task → List ℕ → List ℕ → Type 0
IsListedText t file text = (view : View) × IsViewOf t file view
    × ((links : List Links) × AreLinksFor t (ids_for t file) file links
    × (text ≡ named_text (ids_for t file) (names_for t file) links view))

-- a text is what a task shows for a file in a format, with the names of the rows, and with the ids,
-- the resources and the predecessors of activities
abbrev pub IsFormattedText : Format → Task → List ℕ → List ℕ → Type 0
IsFormattedText format t file text = (view : View) × IsViewOf t file view
    × ((links : List Links) × AreLinksFor t (ids_for t file) file links
    × (text ≡ text_in format (ids_for t file) (names_for t file) links view))

-- the texts that a task writes for a file, with these rows
abbrev pub ShowsTask : Rows → Task → List ℕ → List ℕ → Type 0
ShowsTask rows.Plain t = IsTextOf t
ShowsTask rows.Named t = IsNamedText t
ShowsTask rows.Listed t = IsListedText t
ShowsTask (rows.In format) t = IsFormattedText format t

-- the project or the job shop of a task that reads lists too, if it is such a task
abbrev pub list_subject : Task → Option Subject
list_subject (task.Chart from subject) = Some subject
list_subject (task.Days from dates style subject) = Some subject
list_subject (task.Check starts subject) = Some subject
list_subject (task.Slack starts given) = Some (subjects.Project given)
list_subject (task.Compare starts subject) = Some subject
list_subject (task.CompareLists old starts subject) = Some subject
list_subject (task.Solve conflicts subject) = Some subject
list_subject _ = None

-- the task on another project or job shop; slacks are those of a project
abbrev pub with_subject : Task → Subject → Task
with_subject (task.Chart from _) s = task.Chart from s
with_subject (task.Days from dates style _) s = task.Days from dates style s
with_subject (task.Check starts _) s = task.Check starts s
with_subject (task.Compare starts _) s = task.Compare starts s
with_subject (task.Solve conflicts _) s = task.Solve conflicts s
with_subject t s = t

-- the rows for a list have its names, its resources and its predecessors
abbrev pub list_rows : Rows → Rows
list_rows rows.Plain = rows.Listed
list_rows rows.Named = rows.Listed
list_rows rows.Listed = rows.Listed
list_rows (rows.In format) = rows.In format

-- the rows for a file, which may be a list
abbrev pub rows_on : Option ListKind → Rows → Rows
rows_on None r = r
rows_on (Some kind) r = list_rows r

-- a task shows each step of a job shop
abbrev pub has_steps : Task → Bool
has_steps (task.Chart from subject) = true
has_steps (task.Days from dates style subject) = true
has_steps (task.Compare starts subject) = true
has_steps (task.Solve conflicts subject) = true
has_steps _ = false

abbrev pub are_orders : Option ListKind → Bool
are_orders None = false
are_orders (Some kinds.Activities) = false
are_orders (Some kinds.Orders) = true

-- the text of a value with these rows, without other names
abbrev pub rows_text : Rows → View → List ℕ
rows_text rows.Plain view = plain_text view
rows_text rows.Named view = plain_text view
rows_text rows.Listed view = plain_text view
rows_text (rows.In format) view = text_in format [] [] [] view

-- the text of a chart with these rows, which have these names
abbrev pub chart_rows_text : Rows → List Name → Chart → List ℕ
chart_rows_text rows.Plain names c = plain_text (chart c)
chart_rows_text rows.Named names c = named_text [] names [] (chart c)
chart_rows_text rows.Listed names c = named_text [] names [] (chart c)
chart_rows_text (rows.In format) names c = text_in format [] names [] (chart c)

-- the text of a value for a list of orders: the rows of a chart have the names of the machines, and
-- a table already has its names
abbrev pub order_rows_text : Rows → List Name → View → List ℕ
order_rows_text r machines (chart c) = chart_rows_text r machines c
order_rows_text r machines view = rows_text r view

-- the texts of a task for the job shop of a list of orders: without the steps that take no time, and
-- with the names of the orders and the machines
abbrev pub ShowsOrders : Rows → Task → Subject → List ℕ → List ℕ → Type 0
ShowsOrders r t s file text = (view : View) × IsViewOf t file view
    × ((shop : Option JobShop) × IsShopOf s file shop
    × (text ≡ order_rows_text r (names_of_lines s file)
    (view_for shop (names_for t file) (names_of_lines s file) view)))

-- the same if the task shows the steps of a list of orders; else its texts
abbrev pub ShowsBy : Bool → Rows → Task → Subject → List ℕ → List ℕ → Type 0
ShowsBy false r t s = ShowsTask r t
ShowsBy true r t s = ShowsOrders r t s

-- a text gives the first verdict on the starts in a text, in a sentence with the ids and the names
-- in a file
abbrev pub NamesVerdictOn : Rows → List ℕ → Subject → List ℕ → Plan → List ℕ → Type 0
NamesVerdictOn r listed s file p text = (verdict : Verdict) × IsVerdictOn listed p verdict
    × (text ≡ rows_text r (table (verdict_view_of (verdict_sentence s file p verdict))))

-- the same for the plan of a subject in the file
abbrev pub IsNamedCheck : Rows → List ℕ → Subject → List ℕ → List ℕ → Type 0
IsNamedCheck r listed s file = IsOfSubject s (NamesVerdictOn r listed s file) file

-- the starts and the subject of a check
abbrev pub check_in : Task → Option (Bor (List ℕ) × Subject)
check_in (task.Check starts subject) = Some (starts, subject)
check_in _ = None

-- the same if the file is a list
abbrev pub list_check : Option ListKind → Task → Option (Bor (List ℕ) × Subject)
list_check None t = None
list_check (Some kind) t = check_in t

-- the texts of a check of a list, with the ids and the names of the list; else those of the task
abbrev pub ShowsChecked : Option (Bor (List ℕ) × Subject) → Option ListKind → Rows → Task → Subject
    → List ℕ → List ℕ → Type 0
ShowsChecked None kind r t s = ShowsBy (has_steps t && are_orders kind) (rows_on kind r) t s
ShowsChecked (Some (starts, subject)) kind r t s = IsNamedCheck r starts.now subject

-- the texts that a task writes for the project or the job shop in a file of a kind
abbrev pub ShowsKind : Option ListKind → Rows → Task → Subject → List ℕ → List ℕ → Type 0
ShowsKind kind r t s = ShowsChecked (list_check kind t) kind r t s

-- the texts that a task writes for what it reads in a file
abbrev pub ShowsListed : Subject → Rows → Task → List ℕ → List ℕ → Type 0
ShowsListed of r t file text = ReadsAs of file (λ kind s read.
    ShowsKind kind r (with_subject t s) s read text)

-- the same, if the task reads lists too; else the texts for the file
abbrev pub ShowsOn : Option Subject → Rows → Task → List ℕ → List ℕ → Type 0
ShowsOn None r t = ShowsTask r t
ShowsOn (Some of) r t = ShowsListed of r t

-- the texts that a task writes for the bytes of a file
abbrev pub ShowsRead : Rows → Task → List ℕ → List ℕ → Type 0
ShowsRead r t = ShowsOn (list_subject t) r t

-- the lines with which a task refuses what it reads in a file
abbrev pub RefusesListed : Subject → Task → List ℕ → List ℕ → Type 0
RefusesListed of t file = RefusesAs of file (λ s read. IsLineOf (with_subject t s) read)

-- the same, if the task reads lists too; else the lines for the file
abbrev pub RefusesOn : Option Subject → Task → List ℕ → List ℕ → Type 0
RefusesOn None t = IsLineOf t
RefusesOn (Some of) t = RefusesListed of t

-- the lines with which a task refuses the bytes of a file
abbrev pub RefusesRead : Task → List ℕ → List ℕ → Type 0
RefusesRead t = RefusesOn (list_subject t) t

-- Unless the input fails or memory runs out, a task writes its text or line for the bytes that were
-- read. If the bytes of the file are known, these are the first of them.
abbrev pub DoesTask : Task → Rows → Option (List ℕ) → Option (List ℕ) → Option (List ℕ)
    → Result (Unit {0}) CliFault → Type 0
DoesTask task rows file taken after result =
    (rest : Option (List ℕ))
    × ReadsFront (ShowsRead rows task) (RefusesRead task) file rest taken after result

-- these bytes are the first of a file, if its bytes are known: at most one more than the longest
-- text has
abbrev pub AreRead : List ℕ → Option (List ℕ) → Type 0
AreRead read file = IfSome file (λ bytes. read ≡ take (longest_text + 1) bytes)

-- the bytes that a name stands for, if they are known: those of standard input for `-`, else those
-- of the file with this name
abbrev pub bytes_named : Option (List ℕ) → (List ℕ → Option (List ℕ)) → List ℕ → Option (List ℕ)
bytes_named standard file_of name = if bytes_eq name (codes "-") then standard else file_of name

-- the bytes that a name stands for among these inputs, if they are known
module _ {I File Standard : Type 0} (ghosts : inputs.Ghosts I File Standard) where
  abbrev pub bytes_behind : I → List ℕ → Option (List ℕ)
  bytes_behind input = bytes_named (ghosts.standard_bytes input) (ghosts.file_bytes input)
