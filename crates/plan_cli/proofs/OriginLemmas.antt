-- Schedules by a rule, and with the starts in a text.
use Rattle.std.proofs.Common.{◌≡◌, inl, ◌≤◌, ℕ, List, Some, length, refl, sym, ◌∙◌, arith}
use Rattle.std.specs.Prelude.{All}
use Rattle.plan_sgs.specs.Problem.{makespan}
use Rattle.plan_sgs.specs.declared.schedule.Schedule.{Schedule}
use Rattle.plan_errors.specs.declared.fault.CliFault.{CliFault}
use Rattle.plan_errors.specs.Output.{Refuses}
use Rattle.plan_gantt.specs.Limits.{latest_end}
use Rattle.plan_documents.specs.Documents.{problem_of, count_of, sheet_of}
use Rattle.plan_solve.specs.declared.solutions.Solved.{Solved}
use Rattle.plan_cli.specs.SolveRun.{IsSolution}
use Rattle.plan_cli.specs.Scheduled.{IsMadeFrom, IsShowable, TellsNotListed}
use Rattle.plan_documents.specs.Starts.{TellsNoStarts}
use Rattle.plan_documents.specs.declared.documents.Plan.{Plan}
use Rattle.plan_cli.specs.declared.origins.Origin.TheVariants as origin
use Rattle.plan_documents.proofs.ErrorLemmas.{refuses_as}

-- a text of starts that is refused lists no schedule
pub unlisted : (listed : List ℕ) (p : Plan) (e : CliFault) → Refuses (TellsNoStarts (sheet_of p) listed) e
    → Refuses (TellsNotListed listed p) e
unlisted listed p e refused =
    refuses_as (TellsNoStarts (sheet_of p) listed) (TellsNotListed listed p) e (λ line tells. inl tells) refused

-- the solution of a plan is a schedule with its lower bound
pub made_by_search : (conflicts : ℕ) (p : Plan) (solved : Solved) → IsSolution p solved
    → IsMadeFrom (origin.Solved conflicts) p (record { schedule = solved.schedule; lower = Some solved.lower })
made_by_search conflicts p solved is = record {
  starts = is.active;
  showable = record { makespan = is.makespan; fits = is.fits };
  bound = (
    solved.lower,
    refl,
    record {
      least = is.bound;
      below = omega (arith, is.below, is.makespan);
      shortest = λ same. is.shortest (same ∙ sym is.makespan);
    },
  );
}

-- texts can show a schedule with early starts and its makespan
pub shows : (p : Plan) (m : Schedule) → length m.starts.items ≡ count_of p
    → All (λ t. t ≤ 10000000) m.starts.items → m.makespan ≡ makespan (problem_of p) m.starts.items
    → m.makespan ≤ latest_end → IsShowable p m
shows p m whole early is ends = record {
  makespan = is;
  fits = record { each_started = whole; in_time = λ k inside. early k 0 inside; ends = ends };
}
