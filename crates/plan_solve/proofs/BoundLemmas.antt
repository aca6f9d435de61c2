-- The bound of the empty word is one of all makespans.
use Rattle.std.proofs.Common.{◌≡◌, ℕ, ◌≤◌, [], ◌∙◌, ap, arith}
use Rattle.plan_sgs.specs.Problem.{makespan}
use Rattle.plan_sgs.specs.Instances.{Planned, IsInstance, problem_of}
use Rattle.plan_sgs.specs.ProjectWords.{bound_of, makespan_by}
use Rattle.plan_sgs.specs.ProjectTrees.{Standing, standing}
use Rattle.plan_sgs.specs.ProjectLaws.{ProjectBoundHolds, ProjectWordsReach, ReachesBy}
use Rattle.plan_sgs.proofs.FullWordLemmas.{words_reach}
use Rattle.plan_sgs.proofs.WordBoundLemmas.{bound_holds}
use Rattle.plan_solve.specs.Solutions.{IsLowerBound}

bound_of_none : (i : Planned) → IsInstance i → IsLowerBound (problem_of i) (bound_of i [])
unfolding ProjectBoundHolds ProjectWordsReach
bound_of_none i instance starts feasible =
    let h : ReachesBy i (makespan (problem_of i) starts) = words_reach i starts instance feasible in
    let b : bound_of i [] ≤ makespan_by i h.word = bound_holds i [] h.word instance h.full in
    omega (arith, b, h.makespan)

-- and so is that of a tree which stands at it
pub bound_at_none : (i : Planned) (t : Standing) (n : ℕ) → IsInstance i → t ≡ standing i [] → n ≡ bound_of t.instance t.word → IsLowerBound (problem_of i) n
bound_at_none i t n instance t_is n_is starts feasible =
    let e : n ≡ bound_of i [] = n_is ∙ ap (λ s. bound_of s.instance s.word) t_is in
    omega (arith, e, bound_of_none i instance starts feasible)
