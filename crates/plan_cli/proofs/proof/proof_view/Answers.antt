use Rattle.std.proofs.lemmas.Result.{IfOk-weaker}
use Rattle.plan_shop.specs.Docs.{shop_of}
use Rattle.plan_cli.specs.TaskViews.{IsProofViewBy, IsProofViewOf}
use Rattle.plan_cli.specs.Views.{view_of}
use Rattle.plan_cli.proofs.proof.proof_view.Goals as goal

pub returns-clause-made : goal.returns-clause-made
returns-clause-made g c =
    let argument = c.args.nodes.now in
    let instance = c.args.instance.now in
    let doc = c.in_ok-doc.doc in
    IfOk-weaker c.doc_proof.result (λ view. IsProofViewBy argument (shop_of doc) (view_of view))
    (λ view. IsProofViewOf argument instance c.args.file.now (view_of view))
    (λ view made. (doc, c.in_ok-doc.ensures.said, made)) c.doc_proof.ensures.made
