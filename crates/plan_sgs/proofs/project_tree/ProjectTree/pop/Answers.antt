-- One turn less.
use Rattle.std.proofs.Common.{length, ap, subst, arith}
use Rattle.plan_net.specs.Network.{Net, count_of}
use Rattle.plan_sgs.specs.Eligibility.{Lowers}
use Rattle.plan_sgs.specs.ProjectTrees.{word_of}
use Rattle.plan_sgs.proofs.ProjectTurnLemmas.{can_pop, tree_pop, popped}
use Rattle.plan_sgs.proofs.ProjectWaitLemmas.{waits_limit}
use Rattle.plan_sgs.proofs.project_tree.ProjectTree.pop.Goals as goal

pub overflow_sub-turn : goal.overflow_sub-turn
overflow_sub-turn c = (can_pop _ _ _ _ _ c.pop.new.self.items _ c.in-Some.turn c.self.invariant c.in-Some.ensures.items).activity.0

pub index_mut-requires : goal.index_mut-requires
index_mut-requires c =
    let can = can_pop _ _ _ _ _ c.pop.new.self.items _ c.in-Some.turn c.self.invariant c.in-Some.ensures.items in
    omega (arith, can.inside, c.self.inside.placed.ok.0)

pub raise_each-requires-clause-activity : goal.raise_each-requires-clause-activity
raise_each-requires-clause-activity c =
    let can = can_pop _ _ _ _ _ c.pop.new.self.items _ c.in-Some.turn c.self.invariant c.in-Some.ensures.items in
    (can.activity.0, omega (arith, can.activity.1, ap (λ (n : Net). count_of n) c.network.ensures.network))

pub raise_each-requires-clause-limit : goal.raise_each-requires-clause-limit
raise_each-requires-clause-limit c k within =
    omega (
      arith,
      waits_limit c.self.inside.instance.now
          (word_of c.self.inside.turns.items) c.self.inside.waits.items c.self.invariant.waits_are k within,
      ap
          (λ (n : Net). length n.arcs) c.network.ensures.network,
    )

pub invariant_of-self-2 : goal.invariant_of-self-2
invariant_of-self-2 c = tree_pop _ _ _ _ _ c.set_aside.new.profiles.items c.pop.new.self.items _ c.in-Some.turn _
    c.self.inside.waits.items c.raise_each.new.waits.items c.self.invariant c.in-Some.ensures.items
    (omega (arith, c.len.ensures, c.pop.new.self.ok.0)) c.set_aside.ensures
    (subst (λ (n : Net). Lowers n c.in-Some.turn.letter c.raise_each.new.waits.items c.self.inside.waits.items) c.network.ensures.network c.raise_each.ensures)

pub returns-clause-word : goal.returns-clause-word
returns-clause-word c = popped c.self.inside.instance.now c.pop.new.self.items c.self.inside.turns.items c.in-Some.turn c.args.self.now c.self.view_is c.in-Some.ensures.items
