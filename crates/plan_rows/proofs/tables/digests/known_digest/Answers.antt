use Rattle.std.specs.Prelude.{◌==◌, nat_lt}
use Rattle.std.specs.List.{list_all}
use Rattle.std.proofs.Common.{length}
use Rattle.std.proofs.lemmas.Bool.{and_from, eq-eqb}
use Rattle.plan_rows.proofs.tables.digests.known_digest.Goals as goal

pub returns : goal.returns
returns c =
    and_from (length c.args.digest.now == 32) (list_all (λ b. nat_lt b 256) c.args.digest.now) (eq-eqb (length c.args.digest.now) 32 c.told-digest) c.known_bytes.ensures
