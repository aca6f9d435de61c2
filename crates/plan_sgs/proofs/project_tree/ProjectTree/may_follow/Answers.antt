-- Exactly the activities that aren't placed and wait for none are eligible.
use Rattle.std.proofs.Common.{ℕ, None, false, true, nat_eq, ◌≡◌, get_or, sym, ap, subst, ◌∙◌, arith}
use Rattle.std.specs.Option.{is_some}
use Rattle.std.proofs.lemmas.List.{get_or_default}
use Rattle.plan_sgs.specs.ProjectTrees.{Standing, AreWaits}
use Rattle.plan_sgs.proofs.ProjectTurnLemmas.{tree_facts}
use Rattle.plan_sgs.proofs.ProjectWaitLemmas.{eligible_by}
use Rattle.plan_sgs.proofs.project_tree.ProjectTree.may_follow.Goals as goal

pub index-requires : goal.index-requires
index-requires c =
    let facts = tree_facts _ _ _ _ _ _ _ c.self.view_is c.self.invariant in
    omega (arith, facts.size, c.requires, c.self.inside.placed.ok.0)

pub index-requires-then-is_none : goal.index-requires-then-is_none
index-requires-then-is_none c =
    let are = subst (λ (v : Standing). AreWaits v.instance v.word c.self.inside.waits.items) c.self.view_is c.self.invariant.waits_are in
    let facts = tree_facts _ _ _ _ _ _ _ c.self.view_is c.self.invariant in
    omega (arith, are.size, facts.size, facts.count, c.requires, c.self.inside.waits.ok.0)

pub returns-then-is_none : goal.returns-then-is_none
returns-then-is_none c =
    let are = subst (λ (v : Standing). AreWaits v.instance v.word c.self.inside.waits.items) c.self.view_is c.self.invariant.waits_are in
    let facts = tree_facts _ _ _ _ _ _ _ c.self.view_is c.self.invariant in
    let none : is_some (get_or c.self.inside.placed.items c.args.place None) ≡ false =
    ap is_some (get_or_default c.self.inside.placed.items c.args.place None c.index.result.now (omega (arith, facts.size, c.requires))) ∙ ap is_some (sym c.index.ensures) ∙ c.if-is_none.ensures in
    let read : c.index-then-is_none.result.now ≡ get_or c.self.inside.waits.items c.args.place 0 =
    c.index-then-is_none.ensures ∙ get_or_default c.self.inside.waits.items c.args.place c.index-then-is_none.result.now 0 (omega (arith, are.size, facts.size, facts.count, c.requires)) in
    ap (λ (n : ℕ). nat_eq n 0) read
    ∙ eligible_by c.args.self.now.instance c.args.self.now.word c.self.inside.waits.items c.args.place false
    are (omega (arith, facts.size, facts.count, c.requires)) (sym none ∙ facts.taken c.args.place)

pub returns-else-is_none : goal.returns-else-is_none
returns-else-is_none c =
    let are = subst (λ (v : Standing). AreWaits v.instance v.word c.self.inside.waits.items) c.self.view_is c.self.invariant.waits_are in
    let facts = tree_facts _ _ _ _ _ _ _ c.self.view_is c.self.invariant in
    let some : is_some (get_or c.self.inside.placed.items c.args.place None) ≡ true =
    ap is_some (get_or_default c.self.inside.placed.items c.args.place None c.index.result.now (omega (arith, facts.size, c.requires))) ∙ ap is_some (sym c.index.ensures) ∙ c.if-is_none.ensures in
    c.if-is_none.false
    ∙ eligible_by c.args.self.now.instance c.args.self.now.word c.self.inside.waits.items c.args.place true
    are (omega (arith, facts.size, facts.count, c.requires)) (sym some ∙ facts.taken c.args.place)
