use Rattle.plan_rows.specs.Tables.{world_kept}
use Rattle.plan_rows.proofs.ReadLemmas.{next_is_low}
use Rattle.plan_rows.proofs.tables.Tables.add_plan.Goals as goal

pub raise_next-requires-clause-low : goal.raise_next-requires-clause-low
raise_next-requires-clause-low c = next_is_low c.args.desk.now (world_kept c.args.self.now) c.requires
