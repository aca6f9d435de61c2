-- The proof of a job shop is its solution.
use Rattle.std.proofs.Common.{◌≡◌, ◌≤◌, arith}
use Rattle.plan_sgs.specs.Problem.{makespan}
use Rattle.plan_shop.specs.Shop.{JobShop, problem_of}
use Rattle.plan_shop.specs.Docs.{IsSmallShop}
use Rattle.plan_prove.specs.Proofs.{IsProofOf}
use Rattle.plan_prove.specs.declared.proof.Proof.{Proof}
use Rattle.plan_solve.specs.declared.solutions.Solved.{Solved}
use Rattle.plan_cli.specs.SolveRun.{IsSolution}
use Rattle.plan_documents.specs.declared.documents.Plan.TheVariants as plan
use Rattle.plan_cli.proofs.ScheduledLemmas.{fits_shop}

-- the lower bound is at most the makespan
pub bound_below : (s : JobShop) (proof : Proof) → IsProofOf s proof → proof.lower ≤ proof.schedule.makespan
bound_below s proof is =
    let bound = is.lower proof.schedule.starts.items is.schedule.active.feasible in
    omega (arith, bound, is.schedule.makespan_is)

-- the schedule and the lower bound of a proof are a solution
pub solution_by_proof : (s : JobShop) (proof : Proof) (solved : Solved) → IsSmallShop s → IsProofOf s proof
    → solved.schedule ≡ proof.schedule → solved.lower ≡ proof.lower → IsSolution (plan.Shop s) solved
solution_by_proof s proof solved small is same_schedule same_lower = rw (same_schedule, same_lower) (record {
  active = is.schedule.active;
  makespan = is.schedule.makespan_is;
  bound = is.lower;
  below = bound_below s proof is;
  shortest = λ same. record {
    feasible = is.schedule.active.feasible;
    least = λ other feasible.
        let bound : proof.lower ≤ makespan (problem_of s) other = is.lower other feasible in
        omega (arith, bound, same, is.schedule.makespan_is);
  };
  fits = fits_shop s proof.schedule small is.schedule.active is.schedule.makespan_is is.schedule.within;
})
