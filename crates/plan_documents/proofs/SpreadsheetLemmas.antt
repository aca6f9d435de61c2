-- Files that become no plain list.
use Rattle.std.proofs.Common.{◌≡◌, inl, inr, ℕ, List, Some, Result, Ok, Err, String, take, true}
use Rattle.std.specs.Global.{Global}
use Rattle.std.specs.Prelude.{IfErr}
use Rattle.plan_psplib.specs.Plain.{longest_text}
use Rattle.plan_encoding.specs.Workbooks.{workbook}
use Rattle.plan_encoding.specs.declared.workbook.Workbook.{Workbook}
use Rattle.plan_table.specs.Overrides.{Override}
use Rattle.plan_spreadsheet.specs.PlainLists.{IsNoPlain, fault_of}
use Rattle.plan_spreadsheet.specs.declared.fault.SpreadsheetFault.{SpreadsheetFault}
use Rattle.plan_errors.specs.declared.fault.CliFault.{CliFault}
use Rattle.plan_errors.specs.Output.{Refuses}
use Rattle.plan_documents.specs.Lines.{IfText}
use Rattle.plan_documents.specs.Spreadsheets.{IsListOf, OfList, RefusesOfList, TellsBook, TellsFault, TellsNoList, TellsNoListIf}
use Rattle.plan_documents.proofs.ErrorLemmas.{refuses_as, if_err_weaker}

-- the error of a file that becomes no plain list refuses it
pub fault_told : (given : List Override) (file : List ℕ) (first : SpreadsheetFault) (e : CliFault)
    → IsNoPlain given file first → Refuses (TellsFault first) e → Refuses (TellsNoListIf true given file) e
fault_told given file first e failing told =
    refuses_as (TellsFault first) (TellsNoListIf true given file) e (λ line tells. (first, failing, tells)) told

-- the error of a workbook refuses a file that begins like it
pub book_told : (file : List ℕ) (book : Workbook) (e : CliFault) → workbook (take longest_text file) ≡ Some book
    → Refuses (TellsFault (fault_of book)) e → Refuses (TellsBook file) e
book_told file book e some told = refuses_as (TellsFault (fault_of book)) (TellsBook file) e (λ line tells. (book, some, tells)) told

-- a file that becomes no plain list is refused
pub no_list_told : (given : List Override) (file : List ℕ) (IsLine : List ℕ → List ℕ → Type 0) (e : CliFault)
    → Refuses (TellsNoList given file) e → Refuses (RefusesOfList given IsLine file) e
no_list_told given file IsLine e told = refuses_as (TellsNoList given file) (RefusesOfList given IsLine file) e (λ line tells. inl tells) told

-- the error of the plain list of a file is that of the file
pub list_told : (given : List Override) (file list : List ℕ) (IsLine : List ℕ → List ℕ → Type 0) (e : CliFault)
    → IsListOf given file list → Refuses (IsLine list) e → Refuses (RefusesOfList given IsLine file) e
list_told given file list IsLine e is told =
    refuses_as (IsLine list) (RefusesOfList given IsLine file) e (λ line tells. inr (list, is, tells)) told

-- a text that is made of the plain list of a file is made of the file
pub made_of_list : (given : List Override) (file list : List ℕ) (Holds : List ℕ → List ℕ → Type 0) (r : Result (String Global) CliFault)
    → IsListOf given file list → IfText r (Holds list) → IfText r (λ text. OfList given file (λ l. Holds l text))
made_of_list given file list Holds (Err e) is made = tt
made_of_list given file list Holds (Ok text) is made = (list, is, made)

-- the error of the plain list of a file is that of the file
pub refused_of_list : (given : List Override) (file list : List ℕ) (IsLine : List ℕ → List ℕ → Type 0) (r : Result (String Global) CliFault)
    → IsListOf given file list → IfErr r (Refuses (IsLine list)) → IfErr r (Refuses (RefusesOfList given IsLine file))
refused_of_list given file list IsLine r is told = if_err_weaker r (Refuses (IsLine list)) (Refuses (RefusesOfList given IsLine file))
    (λ e refused. list_told given file list IsLine e is refused) told
