-- Lists that are refused.
use Rattle.std.proofs.Common.{◌≡◌, ℕ, List, [], Err}
use Rattle.plan_table.specs.declared.fault.TableFault.{TableFault}
use Rattle.plan_table.specs.declared.fault.ReadError.TheVariants as errors
use Rattle.plan_table.specs.Overrides.{Override}
use Rattle.plan_table.specs.Reading.{fault_of}
use Rattle.plan_table.specs.Refused.{IsRefusedWith, IsUnsoundWith}
use Rattle.plan_table.specs.ShopReading.{shop_table_read}
use Rattle.plan_errors.specs.declared.fault.CliFault.{CliFault}
use Rattle.plan_errors.specs.Output.{Refuses}
use Rattle.plan_documents.specs.ImportRun.{TellsTable, TellsNoTable, TellsUnsound, TellsNoOrders}
use Rattle.plan_documents.proofs.ErrorLemmas.{refuses_as}

-- the error of a table refuses its file
pub no_table : (given : List Override) (file : List ℕ) (first : TableFault) (e : CliFault)
    → IsRefusedWith given file (errors.Fault first) → Refuses (TellsTable first) e → Refuses (TellsNoTable given file) e
no_table given file first e refused told =
    refuses_as (TellsTable first) (TellsNoTable given file) e (λ line tells. (first, refused, tells)) told

-- the same for a table whose needs may be above its capacities
pub no_sound_table : (file : List ℕ) (first : TableFault) (e : CliFault)
    → IsUnsoundWith [] file (errors.Fault first) → Refuses (TellsTable first) e → Refuses (TellsUnsound file) e
no_sound_table file first e refused told =
    refuses_as (TellsTable first) (TellsUnsound file) e (λ line tells. (first, refused, tells)) told

-- the error of a list of orders refuses its file
pub no_orders : (file : List ℕ) (first : TableFault) (e : CliFault)
    → shop_table_read file ≡ Err (fault_of first) → Refuses (TellsTable first) e → Refuses (TellsNoOrders file) e
no_orders file first e refused told =
    refuses_as (TellsTable first) (TellsNoOrders file) e (λ line tells. (first, refused, tells)) told
