-- The starts of all placed activities.
use Rattle.std.proofs.Common.{ℕ, List, Option, map, sym, ap, subst, ◌∙◌}
use Rattle.plan_sgs.specs.Serial.{start_or_zero}
use Rattle.plan_sgs.specs.Instances.{problem_of}
use Rattle.plan_sgs.specs.Placement.{AllEndBy}
use Rattle.plan_sgs.proofs.ProjectTurnLemmas.{tree_facts}
use Rattle.plan_sgs.proofs.ProjectReadLemmas.{starts_are, starts_end}
use Rattle.plan_sgs.proofs.project_tree.ProjectTree.schedule.Goals as goal

pub returns-clause-starts : goal.returns-clause-starts
returns-clause-starts c =
    c.in_ok-starts_of.ensures ∙ ap (λ (xs : List (Option ℕ)). map start_or_zero xs) c.deref.ensures.value
    ∙ starts_are c.args.self.now c.self.inside.placed.items
    (tree_facts _ _ _ _ _ _ _ c.self.view_is c.self.invariant)

pub returns-clause-ends : goal.returns-clause-ends
returns-clause-ends c =
    subst (λ (xs : List ℕ). AllEndBy (problem_of c.args.self.now.instance) xs 6020000) (sym (c.in_ok-starts_of.ensures ∙ ap (λ (xs : List (Option ℕ)). map start_or_zero xs) c.deref.ensures.value))
    (starts_end c.args.self.now c.self.inside.placed.items (tree_facts _ _ _ _ _ _ _ c.self.view_is c.self.invariant))
