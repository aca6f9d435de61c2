use Rattle.std.proofs.Common.{rules, ◌≡◌, ℕ, IfErr, codes}
use Rattle.plan_orlib.proofs.NameLemmas.{mapped}
use Rattle.plan_prove.specs.Nodes.{IsNodesText}
use Rattle.plan_errors.specs.Output.{Refuses}
use Rattle.plan_cli.specs.ProveRun.{TellsNoNodes}
use Rattle.plan_cli.proofs.SearchLemmas.{nodes_refused}
use Rattle.plan_cli.proofs.proof.doc_proof.Goals as goal

pub returns-in_err-nodes-clause-refused : goal.returns-in_err-nodes-clause-refused
returns-in_err-nodes-clause-refused g c =
    let argument = c.args.nodes.now in
    let told = mapped c.parse_nodes.result c.map_err.result _ (λ told. IfErr told (Refuses (TellsNoNodes argument)))
    c.map_err.ensures.cases (λ nodes is. tt)
    (λ first e is learnt.
    let none : (nodes : ℕ) → IsNodesText argument nodes → ⊥ = search rules in
    let tells : Refuses (λ line. line ≡ codes "S7 nodes") e = search rules in
    nodes_refused argument e none tells) in
    search rules
