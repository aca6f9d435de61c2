use Rattle.std.proofs.Common.{map}
use Rattle.plan_table.specs.Names.{name_of}
use Rattle.plan_documents.specs.Capacities.{SaysUnknown}
use Rattle.plan_documents.proofs.CapacityLemmas.{unknown_told, unknown_named}
use Rattle.plan_documents.proofs.capacities.unknown.Goals as goal

pub returns-in-Ok-clause-told : goal.returns-in-Ok-clause-told
returns-in-Ok-clause-told c =
    unknown_told (SaysUnknown c.args.name.now) _ _ c.with_detail.result c.with_detail.ensures c.plain_unknown.ensures.told

pub returns-in-Ok-clause-detail : goal.returns-in-Ok-clause-detail
returns-in-Ok-clause-detail c =
    unknown_named (map name_of c.args.names.now) c.args.count _ _ _ c.with_detail.result c.with_detail.ensures
    c.plain_unknown.ensures.about c.in-Ok.ensures
