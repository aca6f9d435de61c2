-- Files that are planned with their dates.
use Rattle.std.proofs.Common.{◌≡◌, ℕ, Bool, true, List, [], Option, None, inl, inr}
use Rattle.std.specs.Prelude.{is_some}
use Rattle.plan_documents.specs.Spreadsheets.{IsPlainOf}
use Rattle.plan_encoding.specs.Encodings.{utf8_of}
use Rattle.plan_spreadsheet.specs.declared.list.PlainList.{PlainList}
use Rattle.plan_spreadsheet.specs.PlainLists.{text_of}
use Rattle.plan_table.specs.declared.kinds.ListKind.{ListKind}
use Rattle.plan_table.specs.Kinds.{IsKind}
use Rattle.plan_weekfile.specs.Kinds.{HasDates, IsList, is_activities}
use Rattle.plan_weeklist.specs.declared.fault.WeekFault.{WeekFault}
use Rattle.plan_weeklist.specs.declared.fault.WeekError.TheVariants as errors
use Rattle.plan_weeklist.specs.declared.list.WeekList.{WeekList}
use Rattle.plan_weeklist.specs.Lists.{IsNoWeekList, IsWeekList}

-- the dates of a list were read
pub dates_told : (text : List ℕ) (list : WeekList) (is : Bool) → IsWeekList [] None (utf8_of text) list → is ≡ is_some list.plain
    → HasDates text is
dates_told text list is dates plain = inl (list, dates, plain)

-- they fail a check
pub dates_fail : (text : List ℕ) (fault : WeekFault) (is : Bool) → IsNoWeekList [] None (utf8_of text) (errors.Fault fault) → is ≡ true
    → HasDates text is
dates_fail text fault is refused fails = inr (fault, refused, fails)

-- the kind of a plain list
pub kind_told : (text list : List ℕ) (p : PlainList) (kind : Option ListKind) (is : Bool) → IsPlainOf [] text p → list ≡ text_of p text
    → IsKind list kind → is ≡ is_activities kind → IsList text is
kind_told text list p kind is plain same found told = (list, (p, plain, same), (kind, found, told))
