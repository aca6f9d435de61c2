use Rattle.std.proofs.Common.{arith}
use Rattle.plan_rows.proofs.TableLemmas.{all_fit}
use Rattle.plan_rows.proofs.tables.digests.known_bytes.Goals as goal

pub returns : goal.returns
returns c = all_fit c.args.bytes.now (λ i. omega (arith, c.type_inv.bytes i))
