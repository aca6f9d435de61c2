-- As many turns as activities.
use Rattle.std.proofs.Common.{length, ap, arith}
use Rattle.std.proofs.lemmas.List.{length-map}
use Rattle.plan_sgs.specs.ProjectTrees.{Standing}
use Rattle.plan_sgs.specs.declared.project_tree.Turn.{Turn}
use Rattle.plan_sgs.proofs.ProjectTurnLemmas.{tree_facts}
use Rattle.plan_sgs.proofs.ProjectReadLemmas.{full_by}
use Rattle.plan_sgs.proofs.project_tree.ProjectTree.full.Goals as goal

pub returns-clause-value : goal.returns-clause-value
returns-clause-value c =
    let facts = tree_facts _ _ _ _ _ _ _ c.self.view_is c.self.invariant in
    full_by c.args.self.now c.self.inside.placed.items c.len.result c.len-2.result facts
    (omega (arith, c.len.ensures, c.self.inside.turns.ok.0, length-map c.self.inside.turns.items (λ (t : Turn). t.letter), ap (λ (v : Standing). length v.word) c.self.view_is))
    (omega (arith, c.len-2.ensures, c.self.inside.placed.ok.0))
