use Rattle.std.proofs.Common.{refl}
use Rattle.plan_documents.proofs.lists.list_instance.Goals as goal

pub returns : goal.returns
returns c = (_, refl, refl)
