-- The problem of a week has its plans.
use Rattle.std.proofs.Common.{◌≡◌, ◌∙◌, ℕ, ◌+◌, ◌-◌, ◌≤◌, ◌<◌, ◌^◌, ◌&&◌, max, min, inl, inr, Bool, true, List, Vec, [], ◌∷◌, Some, None, cond, nat_eq, nat_le}
use Rattle.std.proofs.Common.{nat_lt, map, length, get_or, refl, sym, ap, subst, arith}
use Rattle.std.specs.List.{All, filter, sum_by}
use Rattle.std.proofs.lemmas.Bool.{cases_lt, cond-false, and_left, and_right, le-leb, lt-leb, le-ltb}
use Rattle.std.specs.declared.alloc.Global.{Global}
use Rattle.std.proofs.lemmas.List.{get_or_past, get_or-map, get_or_default, length-map}
use Rattle.std.proofs.lemmas.List.Sums.{sum_by-cons}
use Rattle.std.proofs.lemmas.List.Elements.{All-filter, All-from_get_or, filter_passes}
use Rattle.plan_sgs.specs.Problem.{Problem, count, duration, need, capacity, total, greatest_below, usage, all_placed, IsFeasible}
use Rattle.plan_sgs.proofs.TotalLemmas.{total_same, total_none, greatest_same}
use Rattle.plan_sgs.proofs.StartLemmas.{usage_is}
use Rattle.plan_kernel.specs.declared.input.Arc.{Arc}
use Rattle.plan_kernel.specs.declared.input.Absence.{Absence}
use Rattle.plan_kernel.specs.declared.input.StartWindow.{StartWindow}
use Rattle.plan_kernel.specs.declared.input.Input.{Input}
use Rattle.plan_kernel.specs.Inputs as inputs
use Rattle.plan_kernel.specs.Inputs.{problem_of, amount_at}
use Rattle.plan_kernel.specs.Plans.{KeepsWindow, taken_by, absent, IsPlan, tail, reach_of, cost}
use Rattle.plan_kernel.proofs.InputLemmas.{arc_kept, arcs_kept}
use Rattle.plan_kernel.proofs.PlanLemmas.{taken_before}
use Rattle.plan_week.specs.declared.week.State.{State}
use Rattle.plan_week.specs.declared.week.State.TheVariants.{Open, Begun, Done}
use Rattle.plan_week.specs.declared.week.Week.{Week}
use Rattle.plan_week.specs.Weeks.{project_of, state_of, rest, rest_of, KeepsState, end_of, KeepsArc, needed_by, needed, missing, IsWeekPlan, makespan_of}
use Rattle.plan_week.specs.Inputs.{AreSmall, leads_on, from_today, count_of, no_window, IsWindowOf, IsInputOf, HasPlansOf}
use Rattle.plan_week.proofs.ListLemmas.{passing}

pub project_count : (week : Week) → count (project_of week) ≡ count_of week
unfolding project_of
project_count week = refl

pub same_count : (week : Week) (input : Input) → IsInputOf week input → count (problem_of input) ≡ count (project_of week)
unfolding project_of problem_of
same_count week input numbers = numbers.durations.whole

same_need : (week : Week) (input : Input) (i k : ℕ) → IsInputOf week input → need (problem_of input) i k ≡ need (project_of week) i k
unfolding project_of problem_of
same_need week input i k numbers = ap (λ (rows : List (List ℕ)). get_or (get_or rows i []) k 0) numbers.needs

same_capacities : (week : Week) (input : Input) → IsInputOf week input → (problem_of input).capacities ≡ (project_of week).capacities
unfolding project_of problem_of
same_capacities week input numbers = numbers.capacities

-- the durations are those that are left
inside_duration : (week : Week) (input : Input) (i : ℕ) → IsInputOf week input → i < count_of week → duration (problem_of input) i ≡ rest_of week i
unfolding problem_of
inside_duration week input i numbers inside = numbers.durations.each i inside

-- past the activities there are none
past_duration : (week : Week) (input : Input) (i : ℕ) → IsInputOf week input → count_of week ≤ i → duration (problem_of input) i ≡ 0
unfolding problem_of
past_duration week input i numbers past = get_or_past input.durations.items i 0 (omega (arith, past, numbers.durations.whole))

past_lasts : (week : Week) (i : ℕ) → count_of week ≤ i → duration (project_of week) i ≡ 0
unfolding project_of
past_lasts week i past = get_or_past week.durations.items i 0 past

pub past_rest : (week : Week) (i : ℕ) → count_of week ≤ i → rest_of week i ≡ 0
past_rest week i past =
    ap (λ (s : State). rest (duration (project_of week) i) s) (get_or_past week.states.items i (Open 0 None) (omega (arith, past, week.whole)))
    ∙ past_lasts week i past

same_duration : (week : Week) (input : Input) (i : ℕ) → IsInputOf week input → duration (problem_of input) i ≡ rest_of week i
same_duration week input i numbers = elim (cases_lt i (count_of week)) [
  | inl inside ↦ inside_duration week input i numbers inside
  | inr past ↦ past_duration week input i numbers past ∙ sym (past_rest week i past)
]

-- the need of an activity at an instant
same_amount : (week : Week) (input : Input) (starts : List ℕ) (t k i : ℕ) → IsInputOf week input
    → amount_at (problem_of input) starts t k i ≡ needed_by week starts t k i
same_amount week input starts t k i numbers =
    let s : ℕ = get_or starts i 0 in
    ap (λ (d : ℕ). cond (nat_le s t && nat_lt t (s + d)) (need (problem_of input) i k) 0) (same_duration week input i numbers)
    ∙ ap (λ (n : ℕ). cond (nat_le s t && nat_lt t (s + rest_of week i)) n 0) (same_need week input i k numbers)

-- the need of all activities at an instant
same_usage : (week : Week) (input : Input) (starts : List ℕ) (t k : ℕ) → IsInputOf week input → length starts ≡ count (problem_of input)
    → usage (problem_of input) (all_placed starts) t k ≡ needed week starts t k
same_usage week input starts t k numbers each =
    let p = problem_of input in
    usage_is p starts t k each
    ∙ total_same (count p) (amount_at p starts t k) (needed_by week starts t k) (λ i _. same_amount week input starts t k i numbers)
    ∙ ap (λ (n : ℕ). total n (needed_by week starts t k)) (same_count week input numbers)

-- from today on an absence takes as much as what is left of it
same_taken : (today t k : ℕ) (a : Absence) → today ≤ t → taken_by t k (from_today today a) ≡ taken_by t k a
same_taken today t k a since =
    let same : nat_le (max a.from today) t ≡ nat_le a.from t = elim (cases_lt t a.from) [
      | inl early ↦ lt-leb (max a.from today) t (omega (arith, early)) ∙ sym (lt-leb a.from t early)
      | inr late ↦ le-leb (max a.from today) t (omega (arith, late, since)) ∙ sym (le-leb a.from t late)
    ] in
    ap (λ (b : Bool). cond (nat_eq a.resource k && (b && nat_lt t a.until)) a.amount 0) same

same_absences : (today t k : ℕ) (xs : List Absence) → today ≤ t → sum_by (taken_by t k) (map (from_today today) xs) ≡ sum_by (taken_by t k) xs
same_absences today t k [] since = refl
same_absences today t k (a ∷ xs) since =
    let f = taken_by t k in
    omega (
      arith,
      sum_by-cons f (from_today today a) (map (from_today today) xs),
      sum_by-cons f a xs,
      same_taken today t k a since,
      same_absences today t k xs since,
    )

-- before today what is left of it takes nothing
no_absences : (today t k : ℕ) (xs : List Absence) → t < today → sum_by (taken_by t k) (map (from_today today) xs) ≡ 0
no_absences today t k [] before = refl
no_absences today t k (a ∷ xs) before =
    omega (
      arith,
      sum_by-cons (taken_by t k) (from_today today a) (map (from_today today) xs),
      taken_before t k (from_today today a) (omega (arith, before)),
      no_absences today t k xs before,
    )

same_missing : (week : Week) (input : Input) (t k : ℕ) → IsInputOf week input → week.today ≤ t → absent input t k ≡ missing week t k
same_missing week input t k numbers since =
    ap (λ (xs : List Absence). sum_by (taken_by t k) xs) numbers.absences ∙ same_absences week.today t k week.absences.items since

none_missing : (week : Week) (input : Input) (t k : ℕ) → IsInputOf week input → t < week.today → absent input t k ≡ 0
none_missing week input t k numbers before =
    ap (λ (xs : List Absence). sum_by (taken_by t k) xs) numbers.absences ∙ no_absences week.today t k week.absences.items before

-- no activity needs anything before today
idle : (today start t lasts amount : ℕ) (s : State) → KeepsState today start s → t < today → cond (nat_le start t && nat_lt t (start + rest lasts s)) amount 0 ≡ 0
idle today start t lasts amount (Open earliest fixed) kept before =
    cond-false (nat_le start t && nat_lt t (start + lasts)) amount 0
    (and_left (nat_le start t) (nat_lt t (start + lasts)) (lt-leb start t (omega (arith, before, kept.0))))
idle today start t lasts amount (Begun began remaining) kept before =
    cond-false (nat_le start t && nat_lt t (start + remaining)) amount 0
    (and_left (nat_le start t) (nat_lt t (start + remaining)) (lt-leb start t (omega (arith, before, kept))))
idle today start t lasts amount (Done ended) kept before = elim (cases_lt t start) [
  | inl early ↦
      cond-false (nat_le start t && nat_lt t (start + 0)) amount 0 (and_left (nat_le start t) (nat_lt t (start + 0)) (lt-leb start t early))
  | inr late ↦
      cond-false (nat_le start t && nat_lt t (start + 0)) amount 0 (and_right (nat_le start t) (nat_lt t (start + 0)) (le-ltb t (start + 0) (omega (arith, late))))
]

none_needed : (week : Week) (starts : List ℕ) (t k : ℕ) → IsWeekPlan week starts → t < week.today → needed week starts t k ≡ 0
none_needed week starts t k plan before =
    total_none (count (project_of week)) (needed_by week starts t k)
    (λ i inside. idle week.today (get_or starts i 0) t (duration (project_of week) i) (need (project_of week) i k) (state_of week i) (plan.states i inside) before)

-- an arc is kept in the week exactly if the problem has it and keeps it
arc_from : (week : Week) (input : Input) (starts : List ℕ) (arc : Arc) → IsInputOf week input
    → inputs.KeepsArc (problem_of input) starts arc → end_of week starts arc.from + arc.lag ≤ get_or starts arc.to 0
arc_from week input starts arc numbers kept = omega (arith, kept, same_duration week input arc.from numbers)

arc_to : (week : Week) (input : Input) (starts : List ℕ) (arc : Arc) → IsInputOf week input
    → end_of week starts arc.from + arc.lag ≤ get_or starts arc.to 0 → inputs.KeepsArc (problem_of input) starts arc
arc_to week input starts arc numbers kept = omega (arith, kept, same_duration week input arc.from numbers)

-- the windows are kept exactly if the states are
window_kept : (starts : List ℕ) (today i : ℕ) (s : State) (w : StartWindow) → IsWindowOf today i s w → KeepsWindow starts w → KeepsState today (get_or starts i 0) s
window_kept starts today i s w is kept =
    subst (λ (j : ℕ). KeepsState today (get_or starts j 0) s) is.activity (is.allowed (get_or starts w.activity 0) kept.0 kept.1)

window_keeps : (starts : List ℕ) (today i : ℕ) (s : State) (w : StartWindow) → IsWindowOf today i s w → get_or starts i 0 < 2 ^ 32 → KeepsState today (get_or starts i 0) s → KeepsWindow starts w
window_keeps starts today i s w is small kept =
    subst (λ (j : ℕ). (w.earliest ≤ get_or starts j 0) × (get_or starts j 0 ≤ w.latest)) (sym is.activity)
    (is.since (get_or starts i 0) kept, is.until (get_or starts i 0) small kept)

-- a plan of the problem is one of the week
pub week_plan : (week : Week) (input : Input) (starts : List ℕ) → IsInputOf week input → IsPlan input starts → IsWeekPlan week starts
week_plan week input starts numbers plan = record {
  each_started = plan.feasible.each_started ∙ same_count week input numbers;
  states = λ i inside.
      let below : i < count_of week = omega (arith, inside, project_count week) in
      window_kept starts week.today i (state_of week i) (get_or input.windows.items i no_window) (numbers.windows.each i below)
      (plan.windows i no_window (omega (arith, below, numbers.windows.whole)));
  arcs = λ k d inside on. arc_from week input starts (get_or week.arcs.items k d) numbers (kept k d inside on);
  fits = λ t k since inside. omega (
    arith,
    plan.fits t k (omega (arith, inside, ap length (same_capacities week input numbers))),
    same_usage week input starts t k numbers plan.feasible.each_started,
    same_missing week input t k numbers since,
    ap (λ (caps : List ℕ). get_or caps k 0) (same_capacities week input numbers),
  );
} where
  all : All (inputs.KeepsArc (problem_of input) starts) input.arcs.items
  all = λ k d inside. arc_kept input starts k d plan.feasible.arcs inside

  kept : All (λ a. leads_on week a ≡ true → inputs.KeepsArc (problem_of input) starts a) week.arcs.items
  kept = passing (inputs.KeepsArc (problem_of input) starts) (leads_on week) week.arcs.items (subst (λ (xs : List Arc). All (inputs.KeepsArc (problem_of input) starts) xs) numbers.arcs all)

-- a plan of the week is one of the problem, if all starts are small
pub input_plan : (week : Week) (input : Input) (starts : List ℕ) → IsInputOf week input → IsWeekPlan week starts → AreSmall starts → IsPlan input starts
input_plan week input starts numbers plan small = record {
  feasible = record {
    each_started = each;
    arcs = arcs_kept input starts (subst (λ (xs : List Arc). All (inputs.KeepsArc (problem_of input) starts) xs) (sym numbers.arcs) kept);
    capacities = λ t k inside. omega (arith, fits t k inside);
  };
  windows = All-from_get_or (KeepsWindow starts) input.windows.items no_window
      (λ i inside.
      let below : i < count_of week = omega (arith, inside, numbers.windows.whole) in
      let within : i < count (project_of week) = omega (arith, below, project_count week) in
      window_keeps starts week.today i (state_of week i) (get_or input.windows.items i no_window) (numbers.windows.each i below)
      (small i 0 (omega (arith, within, plan.each_started))) (plan.states i within));
  fits = fits;
} where
  each : length starts ≡ count (problem_of input)
  each = plan.each_started ∙ sym (same_count week input numbers)

  through : All (KeepsArc week starts) (filter (leads_on week) week.arcs.items)
  through = All-filter (leads_on week) (KeepsArc week starts) week.arcs.items plan.arcs

  kept : All (inputs.KeepsArc (problem_of input) starts) (filter (leads_on week) week.arcs.items)
  kept = λ k d inside. arc_to week input starts (get_or (filter (leads_on week) week.arcs.items) k d) numbers
      (through k d inside (filter_passes (leads_on week) week.arcs.items k d inside))

  fits : (t k : ℕ) → k < length (problem_of input).capacities → usage (problem_of input) (all_placed starts) t k + absent input t k ≤ capacity (problem_of input) k
  fits t k inside =
      elim (cases_lt t week.today) [
        | inl before ↦ omega (
          arith,
          same_usage week input starts t k numbers each,
          none_needed week starts t k plan before,
          none_missing week input t k numbers before,
        )
        | inr since ↦ omega (
          arith,
          plan.fits t k since (omega (arith, inside, ap length (same_capacities week input numbers))),
          same_usage week input starts t k numbers each,
          same_missing week input t k numbers since,
          ap (λ (caps : List ℕ). get_or caps k 0) (same_capacities week input numbers),
        )
      ]

-- the ends of the activities
pub same_end : (week : Week) (input : Input) (starts : List ℕ) (i : ℕ) → IsInputOf week input
    → get_or starts i 0 + duration (problem_of input) i ≡ end_of week starts i
same_end week input starts i numbers = omega (arith, same_duration week input i numbers)

-- without tails the cost is the makespan
pub makespan_cost : (week : Week) (input : Input) (starts : List ℕ) → IsInputOf week input → input.tails.items ≡ [] → cost input starts ≡ makespan_of week starts
makespan_cost week input starts numbers none =
    greatest_same (count (problem_of input)) (reach_of input starts) (end_of week starts)
    (λ i _. omega (arith, same_end week input starts i numbers, get_or_past input.tails.items i 0 (omega (arith, ap length none))))
    ∙ ap (λ (n : ℕ). greatest_below n (end_of week starts)) (same_count week input numbers)

pub has_plans_of : (week : Week) (input : Input) → IsInputOf week input → input.tails.items ≡ [] → HasPlansOf week input
has_plans_of week input numbers none = record {
  plans = λ starts plan. week_plan week input starts numbers plan;
  all = λ starts plan small. input_plan week input starts numbers plan small;
  costs = λ starts. makespan_cost week input starts numbers none;
}

-- the numbers of a week are those of its project
pub resources_are : (week : Week) → length (project_of week).capacities ≡ length week.capacities.items
unfolding project_of
resources_are week = refl

pub rest_is : (week : Week) (i result lasts : ℕ) (s : State) → result ≡ rest lasts s → lasts ≡ get_or week.durations.items i 0 → s ≡ state_of week i → result ≡ rest_of week i
unfolding project_of
rest_is week i result lasts s is same state =
    is ∙ ap (λ (d : ℕ). rest d s) same ∙ ap (λ (t : State). rest (get_or week.durations.items i 0) t) state

pub capacity_inside : (week : Week) (k x : ℕ) → k < length week.capacities.items → x ≡ get_or week.capacities.items k x → x ≡ capacity (project_of week) k
unfolding project_of
capacity_inside week k x inside is = is ∙ get_or_default week.capacities.items k x 0 inside

pub capacity_past : (week : Week) (k : ℕ) → length week.capacities.items ≤ k → capacity (project_of week) k ≡ 0
unfolding project_of
capacity_past week k past = get_or_past week.capacities.items k 0 past

pub need_inside : (week : Week) (i k : ℕ) (row : Vec ℕ Global) → i < length week.needs.items → row ≡ get_or week.needs.items i row
    → need (project_of week) i k ≡ get_or row.items k 0
unfolding project_of
need_inside week i k row inside is =
    ap (λ (needs : List ℕ). get_or needs k 0)
    (get_or-map (λ (r : Vec ℕ Global). r.items) week.needs.items i row [] inside ∙ ap (λ (r : Vec ℕ Global). r.items) (sym is))

pub need_past : (week : Week) (i k : ℕ) → length week.needs.items ≤ i → need (project_of week) i k ≡ 0
unfolding project_of
need_past week i k past =
    let rows : List (List ℕ) = map (λ (r : Vec ℕ Global). r.items) week.needs.items in
    let none : get_or rows i [] ≡ [] = get_or_past rows i [] (omega (arith, past, length-map week.needs.items (λ (r : Vec ℕ Global). r.items))) in
    ap (λ (needs : List ℕ). get_or needs k 0) none
