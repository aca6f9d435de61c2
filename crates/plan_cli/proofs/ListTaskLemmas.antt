-- The text of a task for a list, and for the first bytes of a file.
use Rattle.std.proofs.Common.{◌≡◌, Bool, true, false, ◌&&◌, inl, inr, ℕ, ◌+◌, List, [], ◌∷◌, Option, Some, None, Result, Ok, Err, take, refl, sym, ap, subst}
use denote.Ref.{Bor}
use Rattle.std.specs.Prelude.{IfOk, IfErr}
use Rattle.plan_psplib.specs.Plain.{longest_text}
use Rattle.plan_table.specs.Kinds.{IsKind}
use Rattle.plan_table.specs.declared.kinds.ListKind.{ListKind}
use Rattle.plan_table.specs.declared.kinds.ListKind.TheVariants as kinds
use Rattle.plan_errors.specs.declared.fault.CliFault.{CliFault}
use Rattle.plan_errors.specs.Output.{Refuses}
use Rattle.plan_documents.specs.declared.capacities.Capacity.{Capacity}
use Rattle.plan_documents.specs.Lists.{IsMadeOf, RefusesActivities, RefusesIn, RefusesKind, RefusesList, RefusesMade, IsReadAs, RefusesReading, ReadsAs}
use Rattle.plan_documents.specs.Spreadsheets.{OfList}
use Rattle.plan_cli.specs.Tasks.{IsLineOf, ShowsTask, list_subject, with_subject, has_steps, ShowsBy, IsNamedCheck, check_in, list_check, ShowsChecked}
use Rattle.plan_cli.specs.Tasks.{ShowsKind, ShowsOn, ShowsRead, RefusesOn, RefusesRead}
use Rattle.plan_documents.specs.declared.documents.Subject.{Subject}
use Rattle.plan_documents.specs.declared.documents.Subject.TheVariants as subject
use Rattle.plan_cli.specs.declared.tasks.Rows.{Rows}
use Rattle.plan_cli.specs.declared.tasks.Task.{Task}
use Rattle.plan_cli.specs.declared.tasks.Task.TheVariants as task
use Rattle.plan_cli.proofs.RunLemmas.{HoldsByFront}
use Rattle.plan_cli.proofs.TaskLemmas.{shown_front, task_line_front, import_front, no_import_front, no_sound_import_front, shop_import_front}
use Rattle.plan_cli.proofs.TaskLemmas.{no_shop_import_front, kind_front, list_front, refuses_list_front}
use Rattle.plan_documents.proofs.ListLemmas.{read_refused, read_as}

-- ---- the text of a task

-- a text of the same task
same_task : {X E : Type 0} (view : X → List ℕ) (t u : Task) (kind : Option ListKind) (r : Rows) (s : Subject) (bytes : List ℕ) (result : Result X E)
    → u ≡ t → IfOk result (λ x. ShowsKind kind r u s bytes (view x)) → IfOk result (λ x. ShowsKind kind r t s bytes (view x))
same_task view t u kind r s bytes result task shown = subst (λ (w : Task). IfOk result (λ x. ShowsKind kind r w s bytes (view x))) task shown

-- the text of a task for what is read is that for the file
pub shown_as : {X E : Type 0} (view : X → List ℕ) (of : Subject) (file : List ℕ) (t u : Task) (r : Rows) (kind : Option ListKind) (s : Subject)
    (text bytes : List ℕ) (result : Result X E)
    → IsReadAs of file kind s text → u ≡ with_subject t s → bytes ≡ text
    → IfOk result (λ x. ShowsKind kind r u s bytes (view x))
    → IfOk result (λ x. ShowsOn (Some of) r t file (view x))
shown_as view of file t u r kind s text bytes result is task same shown =
    read_as (λ k w read x. ShowsKind k r (with_subject t w) w read (view x)) of file kind s text bytes result is same
    (same_task view (with_subject t s) u kind r s bytes result task shown)

-- a file that is no list of orders
none_shows : (b : Bool) (r : Rows) (t : Task) (s : Subject) (file text : List ℕ) → ShowsBy (b && false) r t s file text → ShowsTask r t file text
none_shows true r t s file text shown = shown
none_shows false r t s file text shown = shown

shows_none : (b : Bool) (r : Rows) (t : Task) (s : Subject) (file text : List ℕ) → ShowsTask r t file text → ShowsBy (b && false) r t s file text
shows_none true r t s file text shown = shown
shows_none false r t s file text shown = shown

none_some : {X : Type 0} {x : X} → None ≡ Some x → ⊥
none_some e = cc

-- the check with these starts and this subject
abbrev check_with : Option (Bor (List ℕ) × Subject) → Task
check_with None = task.Names
check_with (Some (starts, subject)) = task.Check starts subject

-- a task with the starts and the subject of a check is that check
check_is : (t : Task) (starts : Bor (List ℕ)) (s : Subject) → check_in t ≡ Some (starts, s) → t ≡ task.Check starts s
check_is (task.Check own subject) starts s e = ap check_with e
check_is task.Dates starts s e = absurd (none_some e)
check_is (task.Schedule rule subject) starts s e = absurd (none_some e)
check_is (task.Chart from subject) starts s e = absurd (none_some e)
check_is (task.Days from dates style subject) starts s e = absurd (none_some e)
check_is task.Names starts s e = absurd (none_some e)
check_is (task.Slack listed given) starts s e = absurd (none_some e)
check_is (task.Compare pair subject) starts s e = absurd (none_some e)
check_is (task.CompareLists old pair subject) starts s e = absurd (none_some e)
check_is (task.Best budget subject) starts s e = absurd (none_some e)
check_is (task.Prove nodes instance) starts s e = absurd (none_some e)
check_is (task.Solve conflicts subject) starts s e = absurd (none_some e)
check_is (task.List from dates subject options) starts s e = absurd (none_some e)
check_is (task.Import given) starts s e = absurd (none_some e)
check_is task.ImportShop starts s e = absurd (none_some e)

list_check_is : (kind : Option ListKind) (t : Task) (starts : Bor (List ℕ)) (s : Subject) → list_check kind t ≡ Some (starts, s)
    → t ≡ task.Check starts s
list_check_is None t starts s e = absurd (none_some e)
list_check_is (Some kind) t starts s e = check_is t starts s e

-- the error of the check of a list
pub check_refused : {X : Type 0} (kind : Option ListKind) (t : Task) (s : Subject) (starts : Bor (List ℕ)) (file : List ℕ) (result : Result X CliFault)
    → list_check kind t ≡ Some (starts, s) → IfErr result (Refuses (IsLineOf (task.Check starts s) file))
    → IfErr result (Refuses (IsLineOf t file))
check_refused kind t s starts file result is told =
    subst (λ (w : Task). IfErr result (Refuses (IsLineOf w file))) (sym (list_check_is kind t starts s is)) told

-- the error of a task for what is read is that for the file
pub refused_as : {X : Type 0} (of : Subject) (file : List ℕ) (t u : Task) (kind : Option ListKind) (s : Subject) (text bytes : List ℕ)
    (result : Result X CliFault)
    → IsReadAs of file kind s text → u ≡ with_subject t s → bytes ≡ text
    → IfErr result (Refuses (IsLineOf u bytes)) → IfErr result (Refuses (RefusesOn (Some of) t file))
refused_as of file t u kind s text bytes (Ok v) is task same told = tt
refused_as of file t u kind s text bytes (Err e) is task same told =
    read_refused of file (λ w read. IsLineOf (with_subject t w) read) kind s text bytes e is same
    (subst (λ (w : Task). Refuses (IsLineOf w bytes) e) task told)

-- ---- the first bytes of a file

made_front : (kind : ListKind) → HoldsByFront (IsMadeOf kind)
made_front kinds.Activities = import_front []
made_front kinds.Orders = shop_import_front

activities_line_front : (given : List Capacity) → HoldsByFront (RefusesActivities given)
activities_line_front [] = no_import_front []
activities_line_front (first ∷ more) = no_sound_import_front

list_line_front : (kind : ListKind) (of : Subject) → HoldsByFront (RefusesList kind of)
list_line_front kinds.Activities (subject.Project given) = activities_line_front given.now
list_line_front kinds.Activities (subject.Shop name) = no_import_front []
list_line_front kinds.Orders of = no_shop_import_front

-- a fact about the text that a command takes from the front of a file is one about the file
as_front : (of : Subject) (Holds : Option ListKind → Subject → List ℕ → Type 0) (file : List ℕ)
    → ((s : Subject) → Holds None s (take (longest_text + 1) file) → Holds None s file)
    → ReadsAs of (take (longest_text + 1) file) Holds → ReadsAs of file Holds
as_front of Holds file whole (None, s, text, is, holds) =
    by_list (list_front [] (λ l. IsKind l None) file is.list is.list_is (kind_front file None) is.kind_is)
  where
    by_list : OfList [] file (λ l. IsKind l None) → ReadsAs of file Holds
    by_list (l, l_is, kind_is) = (
      None,
      s,
      file,
      record { list = l; list_is = l_is; kind_is = kind_is; read = (is.read.0, refl) },
      whole s (subst (Holds None s) is.read.1 holds),
    )
as_front of Holds file whole (Some kind, s, text, is, holds) =
    by_list (list_front [] (λ l. IsKind l (Some kind) × IsMadeOf kind l text) file is.list is.list_is front_made (is.kind_is, is.read.0))
  where
    front_made : IsKind (take (longest_text + 1) file) (Some kind) × IsMadeOf kind (take (longest_text + 1) file) text
        → IsKind file (Some kind) × IsMadeOf kind file text
    front_made (kind_is, made) = (kind_front file (Some kind) kind_is, made_front kind file text made)

    by_list : OfList [] file (λ l. IsKind l (Some kind) × IsMadeOf kind l text) → ReadsAs of file Holds
    by_list (l, l_is, (kind_is, made)) = (Some kind, s, text, record { list = l; list_is = l_is; kind_is = kind_is; read = (made, is.read.1) }, holds)

made_refused_front : (kind : ListKind) (of : Subject) → HoldsByFront (RefusesMade kind of)
made_refused_front kind of file line (inl tells) = inl (list_line_front kind of file line tells)
made_refused_front kind of file line (inr (text, made, tells)) = inr (text, made_front kind file text made, tells)

kind_refused_front : (kind : Option ListKind) (of : Subject) → HoldsByFront (RefusesKind kind of)
kind_refused_front None of file line tells = absurd tells
kind_refused_front (Some kind) of file line tells = made_refused_front kind of file line tells

in_front : (of : Subject) → HoldsByFront (RefusesIn of)
in_front of file line (kind, is, tells) = (kind, kind_front file kind is, kind_refused_front kind of file line tells)

reading_front : (of : Subject) → HoldsByFront (RefusesReading of)
reading_front of = refuses_list_front [] (RefusesIn of) (in_front of)

shows_front : (of : Option Subject) (t : Task) (r : Rows) → HoldsByFront (ShowsOn of r t)
shows_front None t r file text is = shown_front t r file text is
shows_front (Some of) t r file text is =
    as_front of (λ kind s read. ShowsKind kind r (with_subject t s) s read text) file
    (λ s shown.
    let u = with_subject t s in
    let none = none_shows (has_steps u) r u s (take (longest_text + 1) file) text shown in
    shows_none (has_steps u) r u s file text (shown_front u r file text none)) is

refuses_front : (of : Option Subject) (t : Task) → HoldsByFront (RefusesOn of t)
refuses_front None t file line told = task_line_front t file line told
refuses_front (Some of) t file line (inl tells) = inl (reading_front of file line tells)
refuses_front (Some of) t file line (inr is) =
    inr (as_front of (λ kind s read. IsLineOf (with_subject t s) read line) file
    (λ s told. task_line_front (with_subject t s) file line told) is)

-- the text of a task for what is read of the front of a file is that for the file
pub read_front : (t : Task) (r : Rows) → HoldsByFront (ShowsRead r t)
read_front t r = shows_front (list_subject t) t r

-- the line that refuses what is read of the front of a file is that for the file
pub refused_front : (t : Task) → HoldsByFront (RefusesRead t)
refused_front t = refuses_front (list_subject t) t
