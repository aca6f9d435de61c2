-- The contents of files (docs/definitions.md, "Runs").
use Rattle.std.specs.Prelude.{◌≡◌, ◌⊎◌, ℕ, Bool, true, false, List, [], Ok, Err}
use Rattle.plan_table.specs.declared.fault.ReadError.TheVariants as errors
use Rattle.plan_table.specs.declared.fault.TableCode.{TableCode}
use Rattle.plan_table.specs.declared.fault.TableCode.TheVariants as code
use Rattle.plan_table.specs.declared.fault.TableFault.{TableFault}
use Rattle.plan_table.specs.Listing.{table_read_with}
use Rattle.plan_table.specs.Reading.{fault_of}
use Rattle.plan_table.specs.Refused.{IsRefusedWith}
use Rattle.plan_table.specs.ShopReading.{shop_table_read}
use Rattle.plan_table.specs.ShopTable.{ShopTable}
use Rattle.plan_table.specs.Table.{Table}
use Rattle.plan_documents.specs.Spreadsheets.{OfList}
use Rattle.plan_errors.specs.declared.context.Contents.{Contents}
use Rattle.plan_errors.specs.declared.context.Contents.TheVariants as contents
use Rattle.plan_errors.specs.declared.fault.CliFault.{CliFault}
use Rattle.plan_errors.specs.declared.fault.CliFault.TheVariants as fault

-- whether a list of activities with this error has the header of one, so that a row is wrong
abbrev pub is_in_activities : TableCode → Bool
is_in_activities code.BadDuration = true
is_in_activities code.BadId = true
is_in_activities code.IdTwice = true
is_in_activities code.NoSuchId = true
is_in_activities code.BadNeed = true
is_in_activities code.NoCapacity = true
is_in_activities code.Cycle = true
is_in_activities code.Successors = true
is_in_activities code.NeedAbove = true
is_in_activities _ = false

-- the same for a list of orders
abbrev pub is_in_orders : TableCode → Bool
is_in_orders code.BadDuration = true
is_in_orders code.BadId = true
is_in_orders code.TooManySteps = true
is_in_orders _ = false

-- a text is a list of activities, or a row of it is wrong
abbrev pub IsActivityList : List ℕ → Type 0
IsActivityList text = ((t : Table) × (table_read_with [] text ≡ Ok t))
    ⊎ ((first : TableFault) × IsRefusedWith [] text (errors.Fault first)
    × (is_in_activities first.code ≡ true))

-- a text is a list of orders, or a row of it is wrong
abbrev pub IsOrderList : List ℕ → Type 0
IsOrderList text = ((t : ShopTable) × (shop_table_read text ≡ Ok t))
    ⊎ ((first : TableFault) × (shop_table_read text ≡ Err (fault_of first))
    × (is_in_orders first.code ≡ true))

-- a text is a list of this kind, perhaps with an error in a row; any text may be unknown
abbrev pub IsListWith : List ℕ → Contents → Type 0
IsListWith text contents.Unknown = Unit {0}
IsListWith text contents.ActivityList = IsActivityList text
IsListWith text contents.OrderList = IsOrderList text

-- a file has these contents, which are those of its plain list; those of any file may be unknown
abbrev pub HasContents : List ℕ → Contents → Type 0
HasContents file contents.Unknown = Unit {0}
HasContents file contents.ActivityList = OfList [] file IsActivityList
HasContents file contents.OrderList = OfList [] file IsOrderList

-- the contents that an error names are those of the file
abbrev pub KnowsFile : List ℕ → CliFault → Type 0
KnowsFile file (fault.Refused refusal) = HasContents file refusal.contents
KnowsFile file fault.Memory = Unit {0}
KnowsFile file (fault.Input unread) = Unit {0}
KnowsFile file fault.Output = Unit {0}
