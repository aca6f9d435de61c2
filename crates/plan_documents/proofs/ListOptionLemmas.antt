-- Files that are read with the options of a list.
use Rattle.std.proofs.Common.{◌≡◌, inl, inr, ℕ, List, Option, Some, None, Result, Ok, Err, subst, sym, refl, true}
use Rattle.std.specs.Prelude.{IfOk}
use Rattle.plan_table.specs.Overrides.{Override}
use Rattle.plan_spreadsheet.specs.Options.{Options}
use Rattle.plan_spreadsheet.specs.PreparedLists.{IsNoPlainWith}
use Rattle.plan_spreadsheet.specs.declared.list.PlainList.{PlainList}
use Rattle.plan_spreadsheet.specs.declared.options.Options as declared
use Rattle.plan_spreadsheet.specs.declared.prepared.OptionsFault.{OptionsFault}
use Rattle.plan_errors.specs.declared.fault.CliFault.{CliFault}
use Rattle.plan_errors.specs.Output.{Refuses}
use Rattle.plan_documents.specs.ListOptions.{IsListBy, IsPrepared, OfPrepared, RefusesOfPrepared, TellsNoPlainIf, TellsOptions, TellsUnprepared, text_in}
use Rattle.plan_documents.proofs.ErrorLemmas.{refuses_as}

-- the error of a file that becomes no plain list with options refuses it
pub options_told : (o : Options) (given : List Override) (file : List ℕ) (first : OptionsFault) (e : CliFault)
    → IsNoPlainWith o given file first → Refuses (TellsOptions o first) e → Refuses (TellsNoPlainIf true o given file) e
options_told o given file first e failing told =
    refuses_as (TellsOptions o first) (TellsNoPlainIf true o given file) e (λ line tells. (first, failing, tells)) told

-- the text of the plain list is what a command reads
pub is_prepared : (o : Option declared.Options) (given : List Override) (file : List ℕ) (list : Option PlainList)
    → IsListBy o given file list → IsPrepared o given file (text_in list file)
is_prepared None given file None is = refl
is_prepared (Some o) given file (Some p) is = (p, is, refl)
is_prepared None given file (Some p) is = absurd is
is_prepared (Some o) given file None is = absurd is

-- this holds of a file, if it holds of the text that is read
pub prepared_holds : (o : Option declared.Options) (given : List Override) (file text : List ℕ) (Holds : List ℕ → Type 0)
    → IsPrepared o given file text → Holds text → OfPrepared o given file Holds
prepared_holds None given file text Holds is holds = subst Holds is holds
prepared_holds (Some o) given file text Holds is holds = (text, is, holds)

-- the error of the text that is read is that of the file
pub prepared_told : (o : Option declared.Options) (given : List Override) (file text : List ℕ) (IsLine : List ℕ → List ℕ → Type 0) (e : CliFault)
    → IsPrepared o given file text → Refuses (IsLine text) e → Refuses (RefusesOfPrepared o given IsLine file) e
prepared_told None given file text IsLine e is told = subst (λ t. Refuses (IsLine t) e) is told
prepared_told (Some o) given file text IsLine e is told =
    refuses_as (IsLine text) (RefusesOfPrepared (Some o) given IsLine file) e (λ line tells. inr (text, is, tells)) told

-- a file that becomes no plain list with options is refused
pub unprepared_told : (o : Option declared.Options) (given : List Override) (file : List ℕ) (IsLine : List ℕ → List ℕ → Type 0) (e : CliFault)
    → Refuses (TellsUnprepared o given file) e → Refuses (RefusesOfPrepared o given IsLine file) e
unprepared_told None given file IsLine e told =
    refuses_as (TellsUnprepared None given file) (RefusesOfPrepared None given IsLine file) e (λ line tells. absurd tells) told
unprepared_told (Some o) given file IsLine e told =
    refuses_as (TellsUnprepared (Some o) given file) (RefusesOfPrepared (Some o) given IsLine file) e (λ line tells. inl tells) told
