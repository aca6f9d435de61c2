-- The data on which the solution of a project depends.
use Rattle.std.proofs.Common.{◌≡◌, ℕ, List, sym, subst}
use Rattle.plan_sgs.specs.Instances.{Planned, problem_of}
use Rattle.plan_sgs.specs.ProjectWords.{letters_after, is_full, makespan_by, least_of_all, bound_of}
use Rattle.plan_exact.specs.Memos.{Content, content_of}
use Rattle.plan_exact.specs.ProjectTrees.{project_tree}
use Rattle.plan_exact.specs.ProjectSolutions.{project_outcome, IsProjectSolution}
use Rattle.plan_exact.specs.declared.shop_solution.Solved.{Solved}

-- the instance with a content, from a project with these availabilities
abbrev instance_of : Content → List ℕ → Planned
instance_of c available = record {
  project = record { network = c.network; needs = c.needs; available = available };
  capacities = c.capacities;
}

-- the availabilities of the file don't matter once capacities are given
available_is_idle : (c : Content) (old new : List ℕ) (budget : ℕ) (solved : Solved) → IsProjectSolution (instance_of c old) budget solved → IsProjectSolution (instance_of c new) budget solved
unfolding project_outcome project_tree problem_of letters_after is_full makespan_by least_of_all bound_of
available_is_idle c old new budget solved is = record {
  few_activities = is.few_activities;
  allowed = is.allowed;
  initial = is.initial;
  by_rule = is.by_rule;
  found = record { optimal = is.found.optimal; starts = is.found.starts; makespan = is.found.makespan };
  ends = is.ends;
}

-- a solution of one instance is a solution of every instance with the same content
pub same_content_solves : (i j : Planned) (budget : ℕ) (solved : Solved) → content_of j ≡ content_of i → IsProjectSolution i budget solved → IsProjectSolution j budget solved
same_content_solves i j budget solved same is =
    subst (λ (c : Content). IsProjectSolution (instance_of c j.project.available) budget solved) (sym same)
    (available_is_idle (content_of i) i.project.available j.project.available budget solved is)
