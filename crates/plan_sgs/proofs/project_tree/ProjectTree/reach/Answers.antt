-- The greatest reach is that of the last turn.
use Rattle.plan_sgs.proofs.ProjectTurnLemmas.{last_turn, no_turn, no_reach}
use Rattle.plan_sgs.proofs.project_tree.ProjectTree.reach.Goals as goal

pub returns-in-Some : goal.returns-in-Some
returns-in-Some c =
    (last_turn c.self.inside.instance.now c.self.inside.turns.items c.deref.result.now c.args.self.now
    c.in-Some.turn.now c.self.view_is c.self.invariant.turns_are c.deref.ensures.value
    c.in-Some.ensures.value).farthest

pub returns-in-None : goal.returns-in-None
returns-in-None c =
    no_reach c.self.inside.instance.now c.args.self.now
    (no_turn c.self.inside.instance.now c.self.inside.turns.items c.deref.result.now c.args.self.now
    c.self.view_is c.deref.ensures.value c.in-None.ensures.value)
