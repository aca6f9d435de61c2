use Rattle.plan_orlib.proofs.TextLemmas.{read_is_said, said_is_read}
use Rattle.plan_orlib.proofs.shop.named_listing.Goals as goal

pub returns-clause-found : goal.returns-clause-found
returns-clause-found c = read_is_said c.args.name.now c.args.text.now c.instance_listing.result c.instance_listing.ensures.exact

pub returns-clause-only : goal.returns-clause-only
returns-clause-only c = λ d says. said_is_read c.args.name.now c.args.text.now c.instance_listing.result d says c.instance_listing.ensures.exact
