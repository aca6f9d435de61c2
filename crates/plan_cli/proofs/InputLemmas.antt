-- Reading the file with a name reads the bytes that the name stands for.
use Rattle.std.proofs.Common.{◌≡◌, ◌⊎◌, inl, inr, true, false, ℕ, ◌+◌, List, [], ◌∷◌, Option, Some, None, Result, Ok, Err, take, sym, subst, Vec}
use denote.Ref.{Bor}
use Rattle.std.specs.Prelude.{IfSome, IfOk, bytes_eq, codes}
use Rattle.std.specs.Global.{Global}
use Rattle.plan_psplib.specs.Plain.{longest_text}
use Rattle.plan_errors.specs.declared.context.About.{About}
use Rattle.plan_errors.specs.declared.fault.CliFault.{CliFault}
use Rattle.plan_errors.specs.declared.fault.CliFault.TheVariants as cli
use Rattle.plan_cli.specs.declared.tasks.Task.{Task}
use Rattle.plan_cli.specs.declared.tasks.Rows.{Rows}
use Rattle.plan_cli.specs.Run.{ReadsFront}
use Rattle.plan_cli.specs.Tasks.{RefusesRead, ShowsRead, DoesTask, AreRead, bytes_named}
use Rattle.plan_errors.specs.Output.{Writes}
use Rattle.plan_spreadsheet.specs.declared.options.Options.{Options}
use Rattle.plan_cli.specs.NamedTexts.{DoesFile, DoesTexts, DoesWith, with_text}
use Rattle.plan_cli.specs.PreparedTasks.{RefusesPrepared, ShowsPrepared}
use Rattle.plan_cli.specs.declared.named_texts.NamedText.{NamedText}
use Rattle.plan_cli.proofs.RunLemmas.{judged_bytes}

-- `-` stands for standard input
pub named_standard : (standard : Option (List ℕ)) (file_of : List ℕ → Option (List ℕ)) (name : List ℕ)
    → bytes_eq name (codes "-") ≡ true → bytes_named standard file_of name ≡ standard
named_standard standard file_of name is = rw is

-- any other name stands for a file
pub named_file : (standard : Option (List ℕ)) (file_of : List ℕ → Option (List ℕ)) (name : List ℕ)
    → bytes_eq name (codes "-") ≡ false → bytes_named standard file_of name ≡ file_of name
named_file standard file_of name is = rw is

-- the bytes that were read from a source are the first of the bytes that it had
pub read_known : {E : Type 0} (known remaining : Option (List ℕ)) (r : Result (Vec ℕ Global) E)
    → IfSome known (λ bytes. remaining ≡ Some bytes)
    → IfOk r (λ v. IfSome remaining (λ file. v.items ≡ take (longest_text + 1) file))
    → IfOk r (λ v. AreRead v.items known)
read_known known remaining (Err e) had read = tt
read_known None remaining (Ok v) had read = tt
read_known (Some bytes) remaining (Ok v) had read = subst (λ (r : Option (List ℕ)). IfSome r (λ file. v.items ≡ take (longest_text + 1) file)) had read

-- a task that wrote for the bytes of a source wrote for the bytes that it had
pub task_known : (task : Task) (rows : Rows) (known remaining rest taken after : Option (List ℕ))
    (r : Result (Unit {0}) CliFault)
    → IfSome known (λ bytes. remaining ≡ Some bytes)
    → ReadsFront (ShowsRead rows task) (RefusesRead task) remaining rest taken after r
    → DoesTask task rows known taken after r
task_known task rows None remaining rest taken after r had judged = (None, judged_bytes (ShowsRead rows task) (RefusesRead task) remaining rest taken after r judged)
task_known task rows (Some bytes) remaining rest taken after r had judged =
    (rest, subst (λ (k : Option (List ℕ)). ReadsFront (ShowsRead rows task) (RefusesRead task) k rest taken after r) had judged)

-- the same for the name of these bytes
pub task_named : (task : Task) (rows : Rows) (known named remaining rest taken after : Option (List ℕ))
    (r : Result (Unit {0}) CliFault)
    → named ≡ known → IfSome known (λ bytes. remaining ≡ Some bytes)
    → ReadsFront (ShowsRead rows task) (RefusesRead task) remaining rest taken after r
    → DoesTask task rows named taken after r
task_named task rows known named remaining rest taken after r is had judged =
    subst (λ (k : Option (List ℕ)). DoesTask task rows k taken after r) (sym is) (task_known task rows known remaining rest taken after r had judged)

-- a task writes nothing if the file can't be opened
pub task_unopened : (task : Task) (rows : Rows) (about : About) (known taken : Option (List ℕ)) (e : CliFault)
    → (e ≡ cli.Memory) ⊎ (e ≡ cli.Input about) → DoesTask task rows known taken taken (Err e)
task_unopened task rows about known taken e (inl is) = subst (λ (f : CliFault). DoesTask task rows known taken taken (Err f)) (sym is) (None, tt)
task_unopened task rows about known taken e (inr is) = subst (λ (f : CliFault). DoesTask task rows known taken taken (Err f)) (sym is) (None, tt)

-- a task that wrote for the bytes of a file wrote for bytes that aren't known
unknown_task : (task : Task) (rows : Rows) (file taken after : Option (List ℕ)) (r : Result (Unit {0}) CliFault)
    → DoesTask task rows file taken after r → DoesTask task rows None taken after r
unknown_task task rows file taken after r (rest, judged) = (None, judged_bytes (ShowsRead rows task) (RefusesRead task) file rest taken after r judged)

-- the same for a text
unknown_with : (bytes : Option (List ℕ)) (r : Result (Unit {0}) CliFault) (D E : Bor (List ℕ) → Type 0)
    → ((text : Bor (List ℕ)) → D text → E text) → DoesWith bytes r D → DoesWith None r E
unknown_with bytes (Ok x) D E f (text, short, read, does) = (text, short, tt, f text does)
unknown_with bytes (Err cli.Memory) D E f does = tt
unknown_with bytes (Err (cli.Input unread)) D E f does = tt
unknown_with bytes (Err cli.Output) D E f (text, short, read, does) = (text, short, tt, f text does)
unknown_with bytes (Err (cli.Refused refusal)) D E f (text, short, read, does) = (text, short, tt, f text does)

-- the same for a file that is read with options
pub unknown_file : (o : Option Options) (task : Task) (rows : Rows) (file taken after : Option (List ℕ)) (r : Result (Unit {0}) CliFault)
    → DoesFile o task rows file taken after r → DoesFile o task rows None taken after r
unknown_file None task rows file taken after r does = unknown_task task rows file taken after r does
unknown_file (Some o) task rows file taken after r does =
    unknown_with file r
    (λ text. Writes (ShowsPrepared (Some o) rows task text.now) (RefusesPrepared (Some o) task text.now) taken after r)
    (λ text. Writes (ShowsPrepared (Some o) rows task text.now) (RefusesPrepared (Some o) task text.now) taken after r)
    (λ text d. d) does

-- the same for a file and texts
pub unknown_texts : (behind : List ℕ → Option (List ℕ)) (o : Option Options) (task : Task) (rows : Rows) (texts : List NamedText)
    (file taken after : Option (List ℕ)) (r : Result (Unit {0}) CliFault)
    → DoesTexts behind o task rows texts file taken after r → DoesTexts (λ name. None) o task rows texts None taken after r
unknown_texts behind o task rows [] file taken after r does = unknown_file o task rows file taken after r does
unknown_texts behind o task rows (named ∷ rest) file taken after r does =
    unknown_with (behind named.name.now) r
    (λ text. DoesTexts behind o (with_text task named.role text) rows rest file taken after r)
    (λ text. DoesTexts (λ name. None) o (with_text task named.role text) rows rest None taken after r)
    (λ text d. unknown_texts behind o (with_text task named.role text) rows rest file taken after r d) does
