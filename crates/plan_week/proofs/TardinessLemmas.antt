-- Due dates as tails.
use Rattle.std.proofs.Common.{◌≡◌, ◌∙◌, ℕ, zero, suc, ◌+◌, ◌-◌, ◌≤◌, ◌<◌, inl, inr, List, Option, Some, None, length, get_or, refl, sym, ap, arith}
use Rattle.plan_sgs.specs.Problem.{count, duration, greatest_below}
use Rattle.plan_sgs.proofs.TotalLemmas.{greatest_same, greatest_above, greatest_least}
use Rattle.plan_kernel.specs.declared.input.Input.{Input}
use Rattle.plan_kernel.specs.Inputs.{problem_of}
use Rattle.plan_kernel.specs.Plans.{tail, reach_of, cost}
use Rattle.plan_week.specs.declared.week.Week.{Week}
use Rattle.plan_week.specs.Weeks.{project_of, rest_of, end_of, makespan_of}
use Rattle.plan_week.specs.Inputs.{count_of, IsInputOf}
use Rattle.plan_week.specs.Tardiness.{wish_of, date_or, latest_due, due_of, tardiness_of, greatest_tardiness, tail_of, AreTailsOf, HasTardiness}
use Rattle.plan_week.proofs.WeekLemmas.{project_count, same_count, same_end, week_plan, input_plan}

-- a date that is given is no later than the latest, and neither is the latest itself
date_most : (latest : ℕ) (date : Option ℕ) → date_or 0 date ≤ latest → date_or latest date ≤ latest
date_most latest None most = omega arith
date_most latest (Some date) most = most

-- no due date is after the latest
pub due_most : (week : Week) (i : ℕ) → i < count (project_of week) → due_of week i ≤ latest_due week
due_most week i inside = date_most (latest_due week) (wish_of week i) (greatest_above (count (project_of week)) (λ j. date_or 0 (wish_of week j)) i inside)

-- the greatest of numbers less another
greatest_minus : (n : ℕ) (f : ℕ → ℕ) (x : ℕ) → greatest_below n f - x ≡ greatest_below n (λ i. f i - x)
greatest_minus zero f x = omega arith
greatest_minus (suc n) f x = omega (arith, greatest_minus n f x)

-- the tails of a problem are those of a week
same_tail : (week : Week) (input : Input) (i : ℕ) → AreTailsOf week input.tails.items → i < count (project_of week) → tail input i ≡ tail_of week i
same_tail week input i tails inside = tails.each i (omega (arith, inside, project_count week))

-- the end of an activity with its tail
same_reach : (week : Week) (input : Input) (starts : List ℕ) (i : ℕ) → IsInputOf week input → AreTailsOf week input.tails.items → i < count (project_of week)
    → reach_of input starts i ≡ end_of week starts i + tail_of week i
same_reach week input starts i numbers tails inside = omega (arith, same_end week input starts i numbers, same_tail week input i tails inside)

-- the cost is the greatest of them
same_cost : (week : Week) (input : Input) (starts : List ℕ) → IsInputOf week input → AreTailsOf week input.tails.items
    → cost input starts ≡ greatest_below (count (project_of week)) (λ i. end_of week starts i + tail_of week i)
same_cost week input starts numbers tails =
    ap (λ (n : ℕ). greatest_below n (reach_of input starts)) (same_count week input numbers)
    ∙ greatest_same (count (project_of week)) (reach_of input starts) (λ i. end_of week starts i + tail_of week i)
    (λ i inside. same_reach week input starts i numbers tails inside)

-- the cost less the latest due date is the greatest tardiness
cost_less : (week : Week) (input : Input) (starts : List ℕ) → IsInputOf week input → AreTailsOf week input.tails.items
    → cost input starts - latest_due week ≡ greatest_tardiness week starts
cost_less week input starts numbers tails =
    let n : ℕ = count (project_of week) in
    let latest : ℕ = latest_due week in
    ap (λ (x : ℕ). x - latest) (same_cost week input starts numbers tails)
    ∙ greatest_minus n (λ i. end_of week starts i + tail_of week i) latest
    ∙ greatest_same n (λ i. end_of week starts i + tail_of week i - latest) (tardiness_of week starts)
    (λ i inside. omega (arith, due_most week i inside))

-- the cost is at most the makespan and the latest due date
cost_most : (week : Week) (input : Input) (starts : List ℕ) → IsInputOf week input → AreTailsOf week input.tails.items
    → cost input starts ≤ makespan_of week starts + latest_due week
cost_most week input starts numbers tails =
    let n : ℕ = count (project_of week) in
    omega (
      arith,
      same_cost week input starts numbers tails,
      greatest_least n (λ i. end_of week starts i + tail_of week i) (makespan_of week starts + latest_due week)
          (λ i inside. omega (arith, greatest_above n (end_of week starts) i inside)),
    )

pub has_tardiness : (week : Week) (input : Input) → IsInputOf week input → AreTailsOf week input.tails.items → HasTardiness week input
has_tardiness week input is tails = record {
  plans = λ starts plan. week_plan week input starts is plan;
  all = λ starts plan small. input_plan week input starts is plan small;
  costs = λ starts. cost_less week input starts is tails;
  within = λ starts. cost_most week input starts is tails;
}
