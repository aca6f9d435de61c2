-- The greatest end is that of the last turn.
use Rattle.std.proofs.Common.{arith}
use Rattle.plan_sgs.proofs.ProjectTurnLemmas.{last_turn, no_turn, no_end, end_limit, tree_facts}
use Rattle.plan_sgs.proofs.project_tree.ProjectTree.end.Goals as goal

pub returns-in-Some-clause-value : goal.returns-in-Some-clause-value
returns-in-Some-clause-value c =
    (last_turn c.self.inside.instance.now c.self.inside.turns.items c.deref.result.now c.args.self.now
    c.in-Some.turn.now c.self.view_is c.self.invariant.turns_are c.deref.ensures.value
    c.in-Some.ensures.value).latest

pub returns-in-Some-clause-limit : goal.returns-in-Some-clause-limit
returns-in-Some-clause-limit c =
    omega (arith, returns-in-Some-clause-value c, end_limit c.args.self.now c.self.inside.placed.items (tree_facts _ _ _ _ _ _ _ c.self.view_is c.self.invariant))

pub returns-in-None-clause-value : goal.returns-in-None-clause-value
returns-in-None-clause-value c =
    no_end c.self.inside.instance.now c.args.self.now
    (no_turn c.self.inside.instance.now c.self.inside.turns.items c.deref.result.now c.args.self.now
    c.self.view_is c.deref.ensures.value c.in-None.ensures.value)
