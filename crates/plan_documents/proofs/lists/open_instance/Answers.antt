use Rattle.std.proofs.Common.{[]}
use Rattle.plan_documents.proofs.ListLemmas.{none_given}
use Rattle.plan_documents.proofs.lists.open_instance.Goals as goal

pub returns-in-Ok-clause-made : goal.returns-in-Ok-clause-made
returns-in-Ok-clause-made c = (none_given [] c.args.given.now c.in-Ok.field-0.items c.in-Ok.ensures.ok, c.list_instance.ensures)
