-- Due dates as limits.
use Rattle.std.proofs.Common.{◌≡◌, ◌∙◌, ℕ, ◌+◌, ◌-◌, ◌≤◌, ◌<◌, ◌^◌, List, [], ◌++◌, length, get_or, refl, sym, ap, subst, arith}
use Rattle.std.specs.List.{All, sum_by}
use Rattle.std.proofs.lemmas.List.Elements.{All-append, All-from_get_or}
use Rattle.plan_sgs.specs.Problem.{Problem, count, duration, capacity, greatest_below, usage, all_placed, IsFeasible}
use Rattle.plan_sgs.proofs.TotalLemmas.{greatest_above, greatest_least, greatest_same}
use Rattle.plan_kernel.specs.declared.input.Absence.{Absence}
use Rattle.plan_kernel.specs.declared.input.StartWindow.{StartWindow}
use Rattle.plan_kernel.specs.declared.input.Input.{Input}
use Rattle.plan_kernel.specs.Inputs.{problem_of}
use Rattle.plan_kernel.specs.Plans.{KeepsWindow, taken_by, IsPlan, reach_of, cost}
use Rattle.plan_week.specs.declared.week.Week.{Week}
use Rattle.plan_week.specs.Weeks.{project_of, rest_of, end_of, makespan_of, IsWeekPlan}
use Rattle.plan_week.specs.Inputs.{AreSmall, count_of, no_window, IsInputOf}
use Rattle.plan_week.specs.Tardiness.{due_of, tardiness_of, greatest_tardiness, IsWindowBy, AreLimitsOf, HasPlansWithin}
use Rattle.plan_week.proofs.ListLemmas.{all_left, all_right}
use Rattle.plan_week.proofs.WeekLemmas.{project_count, week_plan, input_plan, makespan_cost}

-- the same problem with more windows
pub record HasMoreWindows (one more : Input) (windows : List StartWindow) : Type 0 where
  pub problem : problem_of more ≡ problem_of one
  pub windows_are : more.windows.items ≡ one.windows.items ++ windows
  pub absences : more.absences.items ≡ one.absences.items
  pub tails : more.tails.items ≡ one.tails.items

-- the other fields are the same, so the problem is
pub more_windows : (one more : Input) (windows : List StartWindow) → more.durations.items ≡ one.durations.items → more.arcs.items ≡ one.arcs.items → more.needs.items ≡ one.needs.items
    → more.capacities.items ≡ one.capacities.items → more.absences.items ≡ one.absences.items → more.tails.items ≡ one.tails.items → more.windows.items ≡ one.windows.items ++ windows
    → HasMoreWindows one more windows
unfolding problem_of
more_windows one more windows durations arcs needs capacities absences tails added = record {
  problem = cc;
  windows_are = added;
  absences = cc;
  tails = cc;
}

same_fits : (one more : Input) (starts : List ℕ) (windows : List StartWindow) → HasMoreWindows one more windows → (t k : ℕ)
    → (usage (problem_of more) (all_placed starts) t k + sum_by (taken_by t k) more.absences.items ≡ usage (problem_of one) (all_placed starts) t k + sum_by (taken_by t k) one.absences.items)
    × (capacity (problem_of more) k ≡ capacity (problem_of one) k)
same_fits one more starts windows same t k = (
  (omega (
    arith,
    ap (λ (q : Problem). usage q (all_placed starts) t k) same.problem,
    ap (λ (xs : List Absence). sum_by (taken_by t k) xs) same.absences,
  )),
  ap (λ (q : Problem). capacity q k) same.problem,
)

-- a plan that keeps more windows is a plan
fewer_windows : (one more : Input) (starts : List ℕ) (windows : List StartWindow) → HasMoreWindows one more windows → IsPlan more starts → IsPlan one starts
fewer_windows one more starts windows same plan = record {
  feasible = subst (λ (q : Problem). IsFeasible q starts) same.problem plan.feasible;
  windows = all_left (KeepsWindow starts) one.windows.items windows (subst (λ (ws : List StartWindow). All (KeepsWindow starts) ws) same.windows_are plan.windows);
  fits = λ t k inside. omega (
    arith,
    plan.fits t k (subst (λ (q : Problem). k < length q.capacities) (sym same.problem) inside),
    (same_fits one more starts windows same t k).0,
    (same_fits one more starts windows same t k).1,
  );
}

-- the windows that are more are kept
kept_windows : (one more : Input) (starts : List ℕ) (windows : List StartWindow) → HasMoreWindows one more windows → IsPlan more starts → All (KeepsWindow starts) windows
kept_windows one more starts windows same plan =
    all_right (KeepsWindow starts) one.windows.items windows (subst (λ (ws : List StartWindow). All (KeepsWindow starts) ws) same.windows_are plan.windows)

-- a plan that keeps them, too
all_windows : (one more : Input) (starts : List ℕ) (windows : List StartWindow) → HasMoreWindows one more windows → IsPlan one starts → All (KeepsWindow starts) windows → IsPlan more starts
all_windows one more starts windows same plan kept = record {
  feasible = subst (λ (q : Problem). IsFeasible q starts) (sym same.problem) plan.feasible;
  windows = subst (λ (ws : List StartWindow). All (KeepsWindow starts) ws) (sym same.windows_are) (All-append (KeepsWindow starts) one.windows.items windows plan.windows kept);
  fits = λ t k inside. omega (
    arith,
    plan.fits t k (subst (λ (q : Problem). k < length q.capacities) same.problem inside),
    (same_fits one more starts windows same t k).0,
    (same_fits one more starts windows same t k).1,
  );
}

-- with the same costs
same_costs : (one more : Input) (starts : List ℕ) (windows : List StartWindow) → HasMoreWindows one more windows → cost more starts ≡ cost one starts
same_costs one more starts windows same =
    ap (λ (q : Problem). greatest_below (count q) (λ i. get_or starts i 0 + duration q i + get_or more.tails.items i 0)) same.problem
    ∙ ap (λ (ts : List ℕ). greatest_below (count (problem_of one)) (λ i. get_or starts i 0 + duration (problem_of one) i + get_or ts i 0)) same.tails

-- an activity that keeps its limit isn't later, and the other way round
in_limit : (week : Week) (late : ℕ) (starts : List ℕ) (i : ℕ) (w : StartWindow) → IsWindowBy i (rest_of week i) (due_of week i + late) w → KeepsWindow starts w
    → tardiness_of week starts i ≤ late
in_limit week late starts i w is kept =
    let ends : get_or starts w.activity 0 + rest_of week i ≤ due_of week i + late = is.allowed (get_or starts w.activity 0) kept.0 kept.1 in
    omega (arith, ends, ap (λ (j : ℕ). get_or starts j 0) is.activity)

keeps_limit : (week : Week) (late : ℕ) (starts : List ℕ) (i : ℕ) (w : StartWindow) → IsWindowBy i (rest_of week i) (due_of week i + late) w → get_or starts i 0 < 2 ^ 32
    → tardiness_of week starts i ≤ late → KeepsWindow starts w
keeps_limit week late starts i w is small most =
    let ends : get_or starts i 0 + rest_of week i ≤ due_of week i + late = omega (arith, most) in
    subst (λ (j : ℕ). (w.earliest ≤ get_or starts j 0) × (get_or starts j 0 ≤ w.latest)) (sym is.activity)
    (is.since (get_or starts i 0) ends, is.until (get_or starts i 0) small ends)

pub has_plans_within : (week : Week) (late : ℕ) (one more : Input) (limits : List StartWindow) → IsInputOf week one → one.tails.items ≡ [] → AreLimitsOf week late limits
    → HasMoreWindows one more limits → HasPlansWithin week late more
has_plans_within week late one more limits numbers none are same = record {
  plans = λ starts plan. week_plan week one starts numbers (fewer_windows one more starts limits same plan);
  in_time = λ starts plan. greatest_least (count (project_of week)) (tardiness_of week starts) late
      (λ i inside.
      let below : i < count_of week = omega (arith, inside, project_count week) in
      in_limit week late starts i (get_or limits i no_window) (are.each i below)
      (kept_windows one more starts limits same plan i no_window (omega (arith, below, are.whole))));
  all = λ starts plan most small. all_windows one more starts limits same (input_plan week one starts numbers plan small)
      (All-from_get_or (KeepsWindow starts) limits no_window
      (λ i inside.
      let below : i < count_of week = omega (arith, inside, are.whole) in
      let within : i < count (project_of week) = omega (arith, below, project_count week) in
      keeps_limit week late starts i (get_or limits i no_window) (are.each i below) (small i 0 (omega (arith, within, plan.each_started)))
      (omega (arith, most, greatest_above (count (project_of week)) (tardiness_of week starts) i within))));
  costs = λ starts. same_costs one more starts limits same ∙ makespan_cost week one starts numbers none;
}
