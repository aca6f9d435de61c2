use Rattle.plan_http.proofs.ShardLemmas.{shards_are_one_office}
use Rattle.plan_http.proofs.headline.shards_are_one_office.Goals as goal

pub returns : goal.returns
returns g c = shards_are_one_office g.A.Book.shelf g.B.Book.shelf
