-- Lists that are read for a command, and their errors.
use Rattle.std.proofs.Common.{◌≡◌, String, inl, inr, ℕ, ◌+◌, List, [], ◌∷◌, Option, Some, None, Result, Ok, Err, take, refl, sym, subst, arith}
use Rattle.std.specs.Prelude.{IfOk, IfErr}
use Rattle.std.specs.Global.{Global}
use Rattle.plan_table.specs.Kinds.{IsKind}
use Rattle.plan_table.specs.Names.{Name}
use Rattle.plan_table.specs.declared.kinds.ListKind.{ListKind}
use Rattle.plan_table.specs.declared.kinds.ListKind.TheVariants as kinds
use Rattle.plan_errors.specs.declared.fault.CliFault.{CliFault}
use Rattle.plan_errors.specs.Output.{Refuses}
use Rattle.plan_documents.specs.Capacities.{Replaces}
use Rattle.plan_documents.specs.declared.capacities.Capacity.{Capacity}
use Rattle.plan_documents.specs.Lists.{IsMadeBy, IsMadeOf, RefusesIn, RefusesKind, RefusesList, RefusesMade, RefusesSubjectOn, IsReadAs, RefusesReading, ReadsAs, RefusesAs, text_of}
use Rattle.plan_documents.specs.Spreadsheets.{IsListOf, OfList, TellsNoList}
use Rattle.plan_documents.specs.declared.documents.Subject.{Subject}
use Rattle.plan_documents.specs.declared.lists.Reading.{Reading}
use Rattle.plan_documents.proofs.ErrorLemmas.{refuses_as, if_err_weaker}

-- ---- capacities of a list of orders

-- no capacity of no resource can be given
pub none_given : (names : List Name) (given : List Capacity) (after : List ℕ) → Replaces names given [] after → given ≡ []
none_given names [] after is = refl
none_given names (first ∷ more) after (k, few, is, rest) = absurd (omega (arith, few))

-- ---- refusals

-- the error of a list comes before that of its subject
pub list_refused : (of : Subject) (list : List ℕ) (kind : ListKind) (e : CliFault)
    → Refuses (RefusesList kind of list) e → Refuses (RefusesMade kind of list) e
list_refused of list kind e told = refuses_as (RefusesList kind of list) (RefusesMade kind of list) e (λ line tells. inl tells) told

-- the error of the subject of a list that was made
pub subject_refused : (of : Subject) (list text : List ℕ) (kind : ListKind) (e : CliFault) → IsMadeOf kind list text
    → Refuses (RefusesSubjectOn kind of) e → Refuses (RefusesMade kind of list) e
subject_refused of list text kind e made told =
    refuses_as (RefusesSubjectOn kind of) (RefusesMade kind of list) e (λ line tells. inr (text, made, tells)) told

-- a file that becomes no plain list is refused
pub unread : (of : Subject) (file : List ℕ) (e : CliFault) → Refuses (TellsNoList [] file) e → Refuses (RefusesReading of file) e
unread of file e told = refuses_as (TellsNoList [] file) (RefusesReading of file) e (λ line tells. inl tells) told

-- the error of the plain list of a file is that of the file
pub kind_refused : (of : Subject) (file list : List ℕ) (kind : Option ListKind) (e : CliFault) → IsListOf [] file list → IsKind list kind
    → Refuses (RefusesKind kind of list) e → Refuses (RefusesReading of file) e
kind_refused of file list kind e is is_kind told =
    refuses_as (RefusesKind kind of list) (RefusesReading of file) e (λ line tells. inr (list, is, (kind, is_kind, tells))) told

-- a command on a file reads the plain list of the file
pub read_is : (of : Subject) (file list : List ℕ) (kind : Option ListKind) (s : Subject) (made : Option (String Global))
    → IsListOf [] file list → IsKind list kind → IsMadeBy kind of list s made → IsReadAs of file kind s (text_of made file)
read_is of file list None s None is is_kind same = record { list = list; list_is = is; kind_is = is_kind; read = (same, refl) }
read_is of file list None s (Some made) is is_kind wrong = absurd wrong
read_is of file list (Some kind) s None is is_kind wrong = absurd wrong
read_is of file list (Some kind) s (Some made) is is_kind by = record { list = list; list_is = is; kind_is = is_kind; read = by }

-- the same for the value of a call
pub readable_is : (of : Subject) (file list : List ℕ) (kind : Option ListKind) (r : Result Reading CliFault) → IsListOf [] file list → IsKind list kind
    → IfOk r (λ read. read.kind ≡ kind) → IfOk r (λ read. IsMadeBy kind of list read.subject read.made)
    → IfOk r (λ read. IsReadAs of file read.kind read.subject (text_of read.made file))
readable_is of file list kind (Err e) is is_kind same made = tt
readable_is of file list kind (Ok read) is is_kind same made =
    subst (λ (k : Option ListKind). IsReadAs of file k read.subject (text_of read.made file)) (sym same)
    (read_is of file list kind read.subject read.made is is_kind made)

-- the error of the plain list of a file is that of the file
pub readable_refused : (of : Subject) (file list : List ℕ) (kind : Option ListKind) (r : Result Reading CliFault) → IsListOf [] file list → IsKind list kind
    → IfErr r (Refuses (RefusesKind kind of list)) → IfErr r (Refuses (RefusesReading of file))
readable_refused of file list kind r is is_kind told = if_err_weaker r (Refuses (RefusesKind kind of list)) (Refuses (RefusesReading of file))
    (λ e refused. kind_refused of file list kind e is is_kind refused) told

-- the error of a list comes before those of the command
pub reading_refused : (of : Subject) (file : List ℕ) (IsLine : Subject → List ℕ → List ℕ → Type 0) (e : CliFault)
    → Refuses (RefusesReading of file) e → Refuses (RefusesAs of file IsLine) e
reading_refused of file IsLine e told = refuses_as (RefusesReading of file) (RefusesAs of file IsLine) e (λ line tells. inl tells) told

-- the error for what is read is that of the file
pub read_refused : (of : Subject) (file : List ℕ) (IsLine : Subject → List ℕ → List ℕ → Type 0) (kind : Option ListKind) (s : Subject)
    (text bytes : List ℕ) (e : CliFault) → IsReadAs of file kind s text → bytes ≡ text
    → Refuses (IsLine s bytes) e → Refuses (RefusesAs of file IsLine) e
read_refused of file IsLine kind s text bytes e is same told =
    refuses_as (IsLine s bytes) (RefusesAs of file IsLine) e
    (λ line tells. inr (kind, s, text, is, subst (λ (b : List ℕ). IsLine s b line) same tells)) told

-- a fact about the text that a command takes is one about the file
pub read_as : {X E : Type 0} (Holds : Option ListKind → Subject → List ℕ → X → Type 0) (of : Subject) (file : List ℕ)
    (kind : Option ListKind) (s : Subject) (text bytes : List ℕ) (result : Result X E)
    → IsReadAs of file kind s text → bytes ≡ text → IfOk result (λ x. Holds kind s bytes x)
    → IfOk result (λ x. ReadsAs of file (λ k u read. Holds k u read x))
read_as Holds of file kind s text bytes (Err e) is same holds = tt
read_as Holds of file kind s text bytes (Ok x) is same holds = (kind, s, text, is, subst (λ (b : List ℕ). Holds kind s b x) same holds)
