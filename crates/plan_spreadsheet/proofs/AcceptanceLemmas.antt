-- Texts that are refused as lists.
use Rattle.std.proofs.Common.{◌≡◌, ◌⊎◌, inl, inr, ℕ, Bool, true, false, List, Result, Ok, Err, sym, ap, ◌∙◌, subst}
use Rattle.std.specs.Prelude.{not}
use Rattle.plan_table.specs.declared.fault.TableCode.{TableCode}
use Rattle.plan_table.specs.declared.fault.TableCode.TheVariants as code
use Rattle.plan_table.specs.declared.fault.TableFault as declared
use Rattle.plan_table.specs.declared.fault.ReadError.TheVariants as errors
use Rattle.plan_table.specs.Kinds.{Decides, IsPlanFile}
use Rattle.plan_table.specs.Listing.{table_read_with}
use Rattle.plan_table.specs.Overrides.{Override}
use Rattle.plan_table.specs.Reading.{Fault, fault_of}
use Rattle.plan_table.specs.Refused.{IsUnsoundWith}
use Rattle.plan_table.specs.Table.{Table}
use Rattle.plan_spreadsheet.specs.PlainLists.{IsReadable, IsRefused}

abbrev IsYes : Bool → Type 0
IsYes true = Unit {0}
IsYes false = ⊥

abbrev IsFound : Result Table Fault → Type 0
IsFound (Ok t) = Unit {0}
IsFound (Err f) = ⊥

-- a list isn't both read and refused
no_error : (r : Result Table Fault) (t : Table) (f : Fault) → r ≡ Ok t → r ≡ Err f → ⊥
no_error r t f is other = subst IsFound (sym is ∙ other) tt

abbrev code_in : TableCode → Result Table Fault → TableCode
code_in c (Ok t) = c
code_in c (Err f) = f.code

same_code : (r : Result Table Fault) (f g : Fault) → r ≡ Err f → r ≡ Err g → g.code ≡ f.code
same_code r f g is other = ap (code_in f.code) (sym other ∙ is)

-- a list that is read isn't refused
pub not_refused : (overrides : List Override) (text : List ℕ) (t : Table) → table_read_with overrides text ≡ Ok t
    → IsRefused overrides text → ⊥
not_refused overrides text t is refused = no_error (table_read_with overrides text) t refused.0 is refused.1

no_so : {A : Type 0} → true ≡ false → A
no_so h = absurd (subst IsYes h tt)

-- a list whose error is no cycle is refused
pub refused_yes : (overrides : List Override) (text : List ℕ) (f : declared.TableFault) (cycle : Bool)
    → IsUnsoundWith overrides text (errors.Fault f) → Decides cycle (f.code ≡ code.Cycle)
    → not cycle ≡ true → IsRefused overrides text
refused_yes overrides text f true given cycle h = no_so (sym h)
refused_yes overrides text f false (inl is) other h = (fault_of f, is, other)
refused_yes overrides text f false (inr found) other h = absurd (other found.2.0)

-- a list whose error is a cycle isn't
pub refused_no : (overrides : List Override) (text : List ℕ) (f : declared.TableFault) (cycle : Bool)
    → IsUnsoundWith overrides text (errors.Fault f) → Decides cycle (f.code ≡ code.Cycle)
    → not cycle ≡ false → IsRefused overrides text → ⊥
refused_no overrides text f true (inl is) cycle h refused =
    refused.2 (same_code (table_read_with overrides text) (fault_of f) refused.0 is refused.1 ∙ cycle)
refused_no overrides text f true (inr found) cycle h refused =
    no_error (table_read_with overrides text) found.0 refused.0 found.1 refused.1
refused_no overrides text f false given other h refused = no_so h

decided_yes : (b : Bool) (P : Type 0) → Decides b P → b ≡ true → P
decided_yes true P is h = is
decided_yes false P is h = no_so (sym h)

-- a project file and a job shop file stay
pub file_stays : (overrides : List Override) (bytes : List ℕ) (file : Bool) → Decides file (IsPlanFile bytes)
    → file ≡ true → IsReadable overrides bytes
file_stays overrides bytes file is h = inl (decided_yes file (IsPlanFile bytes) is h)
