use Rattle.plan_base_tests.proofs.TableLemmas.{table_keeps_laws}
use Rattle.plan_base_tests.proofs.searches.TableTreeBranching.known.Goals as goal

pub returns : goal.returns
returns c = table_keeps_laws c.args.self.now.floors c.args.self.now.ends
