-- The start of an activity of the word.
use Rattle.std.proofs.Common.{ℕ, List, Option, None, ◌-◌, get_or, sym, ap, ◌∙◌, arith}
use Rattle.std.proofs.lemmas.List.{get_or_default}
use Rattle.std.proofs.lemmas.Option.{none-some, same_Some}
use Rattle.plan_sgs.proofs.ProjectTurnLemmas.{tree_facts}
use Rattle.plan_sgs.proofs.ProjectReadLemmas.{start_there}
use Rattle.plan_sgs.proofs.project_tree.ProjectTree.start.Goals as goal

pub overflow_sub-j : goal.overflow_sub-j
overflow_sub-j c = (start_there c.args.self.now c.self.inside.placed.items c.args.j (tree_facts _ _ _ _ _ _ _ c.self.view_is c.self.invariant) c.requires).0

pub index-requires : goal.index-requires
index-requires c =
    let there = start_there c.args.self.now c.self.inside.placed.items c.args.j (tree_facts _ _ _ _ _ _ _ c.self.view_is c.self.invariant) c.requires in
    omega (arith, there.1, c.self.inside.placed.ok.0)

pub unreachable-requires : goal.unreachable-requires
unreachable-requires c =
    let there = start_there c.args.self.now c.self.inside.placed.items c.args.j (tree_facts _ _ _ _ _ _ _ c.self.view_is c.self.invariant) c.requires in
    none-some there.2.0 (sym c.in-None.is ∙ c.index.ensures ∙ get_or_default c.self.inside.placed.items (c.args.j - 1) c.index.result.now None there.1 ∙ there.2.1)

pub returns-clause-value : goal.returns-clause-value
returns-clause-value c =
    let facts = tree_facts _ _ _ _ _ _ _ c.self.view_is c.self.invariant in
    let there = start_there c.args.self.now c.self.inside.placed.items c.args.j facts c.requires in
    sym (ap (λ (xs : List (Option ℕ)). get_or xs (c.args.j - 1) None) facts.placed_are)
    ∙ get_or_default c.self.inside.placed.items (c.args.j - 1) None c.index.result.now there.1
    ∙ sym c.index.ensures ∙ c.in-Some.is

pub returns-clause-within : goal.returns-clause-within
returns-clause-within c =
    let facts = tree_facts _ _ _ _ _ _ _ c.self.view_is c.self.invariant in
    let there = start_there c.args.self.now c.self.inside.placed.items c.args.j facts c.requires in
    let same = same_Some there.2.0 c.in-Some.start (sym there.2.1 ∙ get_or_default c.self.inside.placed.items (c.args.j - 1) None c.index.result.now there.1 ∙ sym c.index.ensures ∙ c.in-Some.is) in
    omega (arith, same, there.2.2)
