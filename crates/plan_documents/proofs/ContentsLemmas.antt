-- Texts that are lists.
use Rattle.std.proofs.Common.{◌≡◌, ℕ, List, [], Ok, Err, true, inl, inr, refl}
use Rattle.plan_table.specs.declared.fault.ReadError.TheVariants as errors
use Rattle.plan_table.specs.declared.fault.TableFault.{TableFault}
use Rattle.plan_table.specs.Listing.{table_read}
use Rattle.plan_table.specs.Reading.{fault_of}
use Rattle.plan_table.specs.Refused.{IsRefused}
use Rattle.plan_table.specs.ShopReading.{shop_table_read}
use Rattle.plan_table.specs.ShopTable.{ShopTable}
use Rattle.plan_table.specs.Table.{Table}
use Rattle.plan_errors.specs.declared.context.Contents.{Contents}
use Rattle.plan_errors.specs.declared.context.Contents.TheVariants as contents
use Rattle.plan_spreadsheet.specs.PlainLists.{text_of}
use Rattle.plan_spreadsheet.specs.declared.list.PlainList.{PlainList}
use Rattle.plan_documents.specs.Contents.{HasContents, is_in_activities, is_in_orders, IsActivityList, IsListWith, IsOrderList}
use Rattle.plan_documents.specs.Spreadsheets.{IsPlainOf}

pub activities_refused : (text : List ℕ) (first : TableFault) → IsRefused text (errors.Fault first)
    → is_in_activities first.code ≡ true → IsActivityList text
activities_refused text first refused is = inr (first, refused, is)

pub orders_refused : (text : List ℕ) (first : TableFault) → shop_table_read text ≡ Err (fault_of first)
    → is_in_orders first.code ≡ true → IsOrderList text
orders_refused text first refused is = inr (first, refused, is)

-- the contents of a plain list are those of its file
pub of_plain : (file : List ℕ) (p : PlainList) (c : Contents) → IsPlainOf [] file p → IsListWith (text_of p file) c → HasContents file c
of_plain file p contents.Unknown plain is = tt
of_plain file p contents.ActivityList plain is = (text_of p file, (p, plain, refl), is)
of_plain file p contents.OrderList plain is = (text_of p file, (p, plain, refl), is)
