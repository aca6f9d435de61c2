use Rattle.plan_desk.proofs.PromiseLemmas.{pages_are_promised}
use Rattle.plan_desk.proofs.laws.pages_are_promised.Goals as goal

pub returns : goal.returns
returns c = pages_are_promised
