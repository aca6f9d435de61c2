-- Tasks on files that are read with the options of a list.
use Rattle.std.proofs.Common.{◌≡◌, ℕ, List, Option, subst}
use Rattle.plan_table.specs.Overrides.{Override}
use Rattle.plan_spreadsheet.specs.declared.options.Options.{Options}
use Rattle.plan_errors.specs.declared.fault.CliFault.{CliFault}
use Rattle.plan_errors.specs.Output.{Refuses}
use Rattle.plan_documents.specs.ListOptions.{IsPrepared, OfPrepared, RefusesOfPrepared, TellsUnprepared}
use Rattle.plan_documents.proofs.ListOptionLemmas.{prepared_holds, prepared_told, unprepared_told}

-- this holds of a file, if it holds of the text that a command reads
pub read_prepared : (o : Option Options) (given own : List Override) (file text read : List ℕ) (Holds : List ℕ → Type 0)
    → given ≡ own → read ≡ text → IsPrepared o given file text → Holds read → OfPrepared o own file Holds
read_prepared o given own file text read Holds same is prepared holds =
    subst (λ (g : List Override). OfPrepared o g file Holds) same (prepared_holds o given file text Holds prepared (subst Holds is holds))

-- the error of this text is that of the file
pub refuse_prepared : (o : Option Options) (given own : List Override) (file text read : List ℕ) (IsLine : List ℕ → List ℕ → Type 0) (e : CliFault)
    → given ≡ own → read ≡ text → IsPrepared o given file text → Refuses (IsLine read) e → Refuses (RefusesOfPrepared o own IsLine file) e
refuse_prepared o given own file text read IsLine e same is prepared told =
    subst (λ (g : List Override). Refuses (RefusesOfPrepared o g IsLine file) e) same
    (prepared_told o given file text IsLine e prepared (subst (λ (t : List ℕ). Refuses (IsLine t) e) is told))

-- a file that becomes no plain list is refused
pub refuse_unprepared : (o : Option Options) (given own : List Override) (file : List ℕ) (IsLine : List ℕ → List ℕ → Type 0) (e : CliFault)
    → given ≡ own → Refuses (TellsUnprepared o given file) e → Refuses (RefusesOfPrepared o own IsLine file) e
refuse_unprepared o given own file IsLine e same told =
    subst (λ (g : List Override). Refuses (RefusesOfPrepared o g IsLine file) e) same (unprepared_told o given file IsLine e told)
