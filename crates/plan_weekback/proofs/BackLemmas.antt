-- Lists with the columns of a plan, lists that mean the same, and their errors.
use Rattle.std.proofs.Common.{◌≡◌, ◌⊎◌, ℕ, Bool, true, false, List, Option, Ok, Err, ap, inl, inr, ◌∙◌, subst, sym}
use Rattle.std.specs.Prelude.{bytes_eq, codes}
use Rattle.plan_documents.proofs.ErrorLemmas.{refuses_as}
use Rattle.plan_documents.specs.declared.capacities.Capacity.{Capacity}
use Rattle.plan_encoding.specs.declared.text.Decoded.{Decoded}
use Rattle.plan_encoding.specs.Encodings.{utf8_of}
use Rattle.plan_encoding.specs.Texts as decoded
use Rattle.plan_errors.specs.declared.fault.CliFault.{CliFault}
use Rattle.plan_errors.specs.declared.fault.CliFault.TheVariants as cli
use Rattle.plan_errors.specs.declared.refusal.Refusal.{Refusal}
use Rattle.plan_errors.specs.Faults.{refusal_line}
use Rattle.plan_errors.specs.Output.{Refuses}
use Rattle.plan_list_back.specs.Texts.{IsUnwritten, text_with}
use Rattle.plan_list_back.specs.declared.fault.ListBackFault.{ListBackFault}
use Rattle.plan_list_back.specs.declared.fault.ListBackFault.TheVariants as faults
use Rattle.plan_spreadsheet.specs.Rows.{Spells, filled}
use Rattle.plan_table.specs.Csv.{Row}
use Rattle.plan_table.specs.Listing.{rows_read}
use Rattle.plan_table.specs.Reading as tables
use Rattle.plan_weekback.specs.Columns.{FailsLayout, IsBack, IsNoBack, with_plan}
use Rattle.plan_weekback.specs.Entries.{Entry}
use Rattle.plan_weekback.specs.Outputs.{TellsAnother, TellsBack, TellsChange, TellsNoBack, change_if}
use Rattle.plan_weekback.specs.Readings.{IsWeekIn, TellsNoWeekIn}
use Rattle.plan_weekback.specs.Sameness.{IsAnotherWeek, IsSameList, MeansList}
use Rattle.plan_weekback.specs.declared.readings.WeekReading.{WeekReading}
use Rattle.plan_weekfile.specs.declared.order.WeekOrder.{WeekOrder}
use Rattle.plan_weeklist.specs.declared.listed.ListedWeek.{ListedWeek}

-- ---- the text

-- a text has the rows of a list with the columns of a plan
pub back : (late : Bool) (entries : List Entry) (file text made : List ℕ) (d : Decoded) (rows all new : List Row)
    → text ≡ decoded.text_in d file → decoded.text_in d file ≡ utf8_of file → rows_read text ≡ Ok rows → all ≡ filled rows
    → new ≡ with_plan late entries all → made ≡ text_with file text new → Spells made new → IsBack late entries file made
back late entries file text made d rows all new has is read full planned written spells =
    let same : text ≡ utf8_of file = has ∙ is in
    let whole : new ≡ with_plan late entries (filled rows) = planned ∙ ap (with_plan late entries) full in (
      rows,
      ap rows_read (sym same) ∙ read,
      record {
        layout = written ∙ ap (λ t. text_with file t new) same ∙ ap (text_with file (utf8_of file)) whole;
        read = subst (λ (xs : List Row). Spells made xs) whole spells;
      },
    )

-- a file isn't read as rows
pub no_rows : (late : Bool) (entries : List Entry) (file text : List ℕ) (d : Decoded) (fault : tables.Fault) → text ≡ decoded.text_in d file
    → decoded.text_in d file ≡ utf8_of file → rows_read text ≡ Err fault → IsNoBack late entries file faults.NoList
no_rows late entries file text d fault has is read = (fault, ap rows_read (sym (has ∙ is)) ∙ read)

-- the text fails a check
fails : (late : Bool) (entries : List Entry) (file text : List ℕ) (rows new : List Row) (fault : ListBackFault) → text ≡ utf8_of file
    → rows_read text ≡ Ok rows → new ≡ with_plan late entries (filled rows) → IsUnwritten (text_with file text new) new fault
    → FailsLayout late entries file fault
fails late entries file text rows new fault same read whole unwritten = (
  rows,
  ap rows_read (sym same) ∙ read,
  subst (λ (xs : List Row). IsUnwritten (text_with file (utf8_of file) xs) xs fault) whole
      (subst (λ (t : List ℕ). IsUnwritten (text_with file t new) new fault) same unwritten),
)

-- the error of the text
pub no_back : (late : Bool) (entries : List Entry) (file text : List ℕ) (d : Decoded) (rows all new : List Row) (fault : ListBackFault)
    → text ≡ decoded.text_in d file → decoded.text_in d file ≡ utf8_of file → rows_read text ≡ Ok rows → all ≡ filled rows
    → new ≡ with_plan late entries all → IsUnwritten (text_with file text new) new fault → IsNoBack late entries file fault
no_back late entries file text d rows all new faults.Memory has is read full planned unwritten = tt
no_back late entries file text d rows all new faults.NoList has is read full planned unwritten = absurd unwritten
no_back late entries file text d rows all new faults.TooLong has is read full planned unwritten =
    fails late entries file text rows new faults.TooLong (has ∙ is) read (planned ∙ ap (with_plan late entries) full) unwritten
no_back late entries file text d rows all new faults.Changed has is read full planned unwritten =
    fails late entries file text rows new faults.Changed (has ∙ is) read (planned ∙ ap (with_plan late entries) full) unwritten

-- the line of the error
pub back_told : (late : Bool) (entries : List Entry) (file : List ℕ) (fault : ListBackFault) (e : CliFault) → IsNoBack late entries file fault
    → Refuses (TellsBack fault) e → Refuses (TellsNoBack late entries file) e
back_told late entries file fault e unmade told =
    refuses_as (TellsBack fault) (TellsNoBack late entries file) e (λ line tells. (fault, unmade, tells)) told

-- ---- the meaning

-- a file is read as the same table and week
pub means : (given : List Capacity) (today : Option ℕ) (reading : WeekReading) (made : List ℕ) (listed other : ListedWeek)
    → IsWeekIn given today reading made other → IsSameList listed other → MeansList given today reading made listed
means given today reading made listed other read same = (other, read, same)

-- a text is too long
pub long_change : (why : List ℕ) (r : Bool) (e : CliFault) → r ≡ bytes_eq why (codes "T1 too long") → r ≡ true
    → Refuses (TellsBack faults.TooLong) e → Refuses (TellsChange why) e
long_change why r e is long told = subst (λ (b : Bool). Refuses (TellsBack (change_if b)) e) (sym long ∙ is) told

-- a column has a meaning
pub meaning_change : (why : List ℕ) (r : Bool) (e : CliFault) → r ≡ bytes_eq why (codes "T1 too long") → r ≡ false
    → Refuses (TellsBack faults.Changed) e → Refuses (TellsChange why) e
meaning_change why r e is short told = subst (λ (b : Bool). Refuses (TellsBack (change_if b)) e) (sym short ∙ is) told

-- a file is read as another table or week
pub another_told : (order : WeekOrder) (reading : WeekReading) (listed other : ListedWeek) (made : List ℕ) (e : CliFault)
    → IsWeekIn order.capacities.now order.today reading made other → (IsSameList listed other → ⊥) → Refuses (TellsBack faults.Changed) e
    → Refuses (TellsAnother order reading listed made) e
another_told order reading listed other made e read differs told =
    refuses_as (TellsBack faults.Changed) (TellsAnother order reading listed made) e (λ line tells. inr ((other, read, differs), tells)) told

-- a file isn't read as a week
pub unread_told : (order : WeekOrder) (reading : WeekReading) (listed : ListedWeek) (made why : List ℕ) (refusal : Refusal) (e : CliFault)
    → Refuses (TellsNoWeekIn order.capacities.now order.today reading made) (cli.Refused refusal) → why ≡ refusal_line refusal
    → Refuses (TellsChange why) e → Refuses (TellsAnother order reading listed made) e
unread_told order reading listed made why refusal e unread is told =
    refuses_as (TellsChange why) (TellsAnother order reading listed made) e
    (λ line tells. inl (why, subst (λ (t : List ℕ). TellsNoWeekIn order.capacities.now order.today reading made t) (sym is) unread, tells)) told
