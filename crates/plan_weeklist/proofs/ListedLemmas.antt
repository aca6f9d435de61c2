-- The errors of each step from a file to its week.
use Rattle.std.proofs.Common.{◌≡◌, ℕ, List, Option, Ok, inl, inr, ap, ◌∙◌, subst, sym}
use Rattle.plan_encoding.specs.Encodings.{utf8_of}
use Rattle.plan_spreadsheet.specs.declared.fault.SpreadsheetFault.{SpreadsheetFault}
use Rattle.plan_spreadsheet.specs.declared.list.PlainList.{PlainList}
use Rattle.plan_spreadsheet.specs.PlainLists as plain
use Rattle.plan_table.specs.declared.fault.ReadError.{ReadError}
use Rattle.plan_table.specs.declared.fault.ReadError.TheVariants as read
use Rattle.plan_table.specs.Listing.{table_read_with}
use Rattle.plan_table.specs.Overrides.{Override}
use Rattle.plan_table.specs.Refused.{IsRefusedWith}
use Rattle.plan_table.specs.Table.{Table}
use Rattle.plan_weeklist.specs.declared.fault.WeekError.{WeekError}
use Rattle.plan_weeklist.specs.declared.fault.WeekError.TheVariants as errors
use Rattle.plan_weeklist.specs.declared.list.WeekList.{WeekList}
use Rattle.plan_weeklist.specs.declared.listed.ListFault.{ListFault}
use Rattle.plan_weeklist.specs.declared.listed.ListedWeek.{ListedWeek}
use Rattle.plan_weeklist.specs.declared.listed.ListFault.TheVariants as faults
use Rattle.plan_weeklist.specs.ListedWeeks.{IsNoWeek, IsWeekOf}
use Rattle.plan_weeklist.specs.ListedLists as spec
use Rattle.plan_weeklist.specs.Lists.{IsNoWeekList, IsWeekList, text_of}
use Rattle.plan_weeklist.specs.Rows.{week_rows_of}

-- the table and the week of a file, by each step
pub is_listed : (overrides : List Override) (today : Option ℕ) (bytes : List ℕ) (list : WeekList) (p : PlainList) (listed : ListedWeek)
    → IsWeekList overrides today (utf8_of bytes) list → plain.IsPlain overrides (text_of list bytes) p
    → table_read_with overrides (plain.text_of p (text_of list bytes)) ≡ Ok listed.table
    → IsWeekOf listed.table (week_rows_of list.rows) today listed.week → spec.IsListedWeek overrides today bytes listed
is_listed overrides today bytes list p listed dates is table week =
    (list, p, record { lists = record { dates = dates; plain = is }; table = table }, week)

-- an error of the dates
pub dates_refused : (overrides : List Override) (today : Option ℕ) (bytes : List ℕ) (error : WeekError) (fault : ListFault)
    → IsNoWeekList overrides today (utf8_of bytes) error → fault ≡ spec.fault_of_week error
    → spec.IsNoListedWeek overrides today bytes fault
dates_refused overrides today bytes errors.Memory fault h is = subst (spec.IsNoListedWeek overrides today bytes) (sym is) tt
dates_refused overrides today bytes (errors.Fault f) fault h is =
    subst (spec.IsNoListedWeek overrides today bytes) (sym is) (inl h)

-- an error of the plain list
pub plain_refused : (overrides : List Override) (today : Option ℕ) (bytes : List ℕ) (list : WeekList) (error : SpreadsheetFault) (fault : ListFault)
    → IsWeekList overrides today (utf8_of bytes) list → plain.IsNoPlain overrides (text_of list bytes) error
    → fault ≡ faults.Spreadsheet error → spec.IsNoListedWeek overrides today bytes fault
plain_refused overrides today bytes list error fault dates h is =
    subst (spec.IsNoListedWeek overrides today bytes) (sym is) (list, dates, h)

-- an error of the table
pub table_refused : (overrides : List Override) (today : Option ℕ) (bytes : List ℕ) (list : WeekList) (p : PlainList) (error : ReadError) (fault : ListFault)
    → IsWeekList overrides today (utf8_of bytes) list → plain.IsPlain overrides (text_of list bytes) p
    → IsRefusedWith overrides (plain.text_of p (text_of list bytes)) error → fault ≡ spec.fault_of_table error
    → spec.IsNoListedWeek overrides today bytes fault
table_refused overrides today bytes list p read.Memory fault dates is h e =
    subst (spec.IsNoListedWeek overrides today bytes) (sym e) tt
table_refused overrides today bytes list p (read.Fault f) fault dates is h e =
    subst (spec.IsNoListedWeek overrides today bytes) (sym e) (list, p, record { dates = dates; plain = is }, h)

-- an error of the week
pub week_refused : (overrides : List Override) (today : Option ℕ) (bytes : List ℕ) (list : WeekList) (p : PlainList) (t : Table) (error : WeekError) (fault : ListFault)
    → IsWeekList overrides today (utf8_of bytes) list → plain.IsPlain overrides (text_of list bytes) p
    → table_read_with overrides (plain.text_of p (text_of list bytes)) ≡ Ok t → IsNoWeek t (week_rows_of list.rows) error
    → fault ≡ spec.fault_of_week error → spec.IsNoListedWeek overrides today bytes fault
week_refused overrides today bytes list p t errors.Memory fault dates is table h e =
    subst (spec.IsNoListedWeek overrides today bytes) (sym e) tt
week_refused overrides today bytes list p t (errors.Fault f) fault dates is table h e =
    subst (spec.IsNoListedWeek overrides today bytes) (sym e)
    (inr (list, p, t, record { lists = record { dates = dates; plain = is }; table = table }, h))

-- ---- the same with the texts that the program has

-- the plain list of a text is that of the list without its dates
plain_by : (overrides : List Override) (bytes text : List ℕ) (list : WeekList) (p : PlainList) → text ≡ text_of list bytes
    → plain.IsPlain overrides text p → plain.IsPlain overrides (text_of list bytes) p
plain_by overrides bytes text list p same is = subst (λ (t : List ℕ). plain.IsPlain overrides t p) same is

-- the text that is read is that of the plain list
read_by : (bytes text found : List ℕ) (list : WeekList) (p : PlainList) → text ≡ text_of list bytes → found ≡ plain.text_of p text
    → found ≡ plain.text_of p (text_of list bytes)
read_by bytes text found list p same is = is ∙ ap (plain.text_of p) same

table_by : (overrides : List Override) (bytes text found : List ℕ) (list : WeekList) (p : PlainList) (t : Table) → text ≡ text_of list bytes
    → found ≡ plain.text_of p text → table_read_with overrides found ≡ Ok t
    → table_read_with overrides (plain.text_of p (text_of list bytes)) ≡ Ok t
table_by overrides bytes text found list p t same is table =
    subst (λ (f : List ℕ). table_read_with overrides f ≡ Ok t) (read_by bytes text found list p same is) table

pub listed_by : (overrides : List Override) (today : Option ℕ) (bytes text found : List ℕ) (list : WeekList) (p : PlainList) (listed : ListedWeek)
    → IsWeekList overrides today (utf8_of bytes) list → text ≡ text_of list bytes → plain.IsPlain overrides text p
    → found ≡ plain.text_of p text → table_read_with overrides found ≡ Ok listed.table
    → IsWeekOf listed.table (week_rows_of list.rows) today listed.week → spec.IsListedWeek overrides today bytes listed
listed_by overrides today bytes text found list p listed dates same is read table week =
    is_listed overrides today bytes list p listed dates (plain_by overrides bytes text list p same is)
    (table_by overrides bytes text found list p listed.table same read table) week

pub plain_refused_by : (overrides : List Override) (today : Option ℕ) (bytes text : List ℕ) (list : WeekList) (error : SpreadsheetFault) (fault : ListFault)
    → IsWeekList overrides today (utf8_of bytes) list → text ≡ text_of list bytes → plain.IsNoPlain overrides text error
    → fault ≡ faults.Spreadsheet error → spec.IsNoListedWeek overrides today bytes fault
plain_refused_by overrides today bytes text list error fault dates same h e =
    plain_refused overrides today bytes list error fault dates (subst (λ (t : List ℕ). plain.IsNoPlain overrides t error) same h) e

pub table_refused_by : (overrides : List Override) (today : Option ℕ) (bytes text found : List ℕ) (list : WeekList) (p : PlainList) (error : ReadError) (fault : ListFault)
    → IsWeekList overrides today (utf8_of bytes) list → text ≡ text_of list bytes → plain.IsPlain overrides text p
    → found ≡ plain.text_of p text → IsRefusedWith overrides found error → fault ≡ spec.fault_of_table error
    → spec.IsNoListedWeek overrides today bytes fault
table_refused_by overrides today bytes text found list p error fault dates same is read h e =
    table_refused overrides today bytes list p error fault dates (plain_by overrides bytes text list p same is)
    (subst (λ (f : List ℕ). IsRefusedWith overrides f error) (read_by bytes text found list p same read) h) e

pub week_refused_by : (overrides : List Override) (today : Option ℕ) (bytes text found : List ℕ) (list : WeekList) (p : PlainList) (t : Table) (error : WeekError) (fault : ListFault)
    → IsWeekList overrides today (utf8_of bytes) list → text ≡ text_of list bytes → plain.IsPlain overrides text p
    → found ≡ plain.text_of p text → table_read_with overrides found ≡ Ok t → IsNoWeek t (week_rows_of list.rows) error
    → fault ≡ spec.fault_of_week error → spec.IsNoListedWeek overrides today bytes fault
week_refused_by overrides today bytes text found list p t error fault dates same is read table h e =
    week_refused overrides today bytes list p t error fault dates (plain_by overrides bytes text list p same is)
    (table_by overrides bytes text found list p t same read table) h e
