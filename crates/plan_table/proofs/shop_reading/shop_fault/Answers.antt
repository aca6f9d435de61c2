use Rattle.std.proofs.Common.{ℕ, List}
use Rattle.plan_table.specs.ShopReading.{ShopEntries}
use Rattle.plan_table.specs.ShopTable.{ShopTable}
use Rattle.plan_table.proofs.ReadLemmas.{other_type}
use Rattle.plan_table.proofs.shop_reading.shop_fault.Goals as goal

pub returns-clause-entries : goal.returns-clause-entries
returns-clause-entries c = other_type ℕ ShopEntries c.word_fault.result c.args.code c.args.line c.args.word.now c.word_fault.ensures.number

pub returns-clause-names : goal.returns-clause-names
returns-clause-names c = other_type ℕ (List (List ℕ) × ℕ) c.word_fault.result c.args.code c.args.line c.args.word.now c.word_fault.ensures.number

pub returns-clause-table : goal.returns-clause-table
returns-clause-table c = other_type ℕ ShopTable c.word_fault.result c.args.code c.args.line c.args.word.now c.word_fault.ensures.number
