-- The project of a plan keeps the rules of projects with its lags. It has a schedule by a rule and
-- a best schedule, or a line refuses them.
use Rattle.std.proofs.Common.{◌≡◌, ℕ, suc, ◌+◌, ◌≤◌, ◌<◌, inl, inr, ◌⊎◌, Bool, true, false, List, [], ◌∷◌, length, map, filter, Option, Some, None, refl, sym, ◌∙◌, ap, subst, arith}
use Rattle.std.specs.Prelude.{if◌then◌else◌, ◌==◌}
use Rattle.std.specs.List.{AllByRecursion}
use Rattle.std.proofs.lemmas.Bool.{cases_Bool, both_ways, cases_lt}
use Rattle.plan_net.specs.Network.{count_of}
use Rattle.plan_net.proofs.SoundLemmas.{IsSound-with_lag}
use Rattle.plan_psplib.specs.Project.{Project, SaysProject, IsProject, with_project_lag}
use Rattle.plan_sgs.specs.Problem.{NeedsFit, count}
use Rattle.plan_sgs.specs.Instances.{Planned, IsInstance, problem_of, RefusesInstance}
use Rattle.plan_sgs.specs.Keys.{rule_text}
use Rattle.plan_sgs.specs.Placement.{AllEndBy, latest_end}
use Rattle.plan_sgs.specs.declared.rule.Rule.{Rule}
use Rattle.plan_sgs.specs.declared.rule.Rule.TheVariants as rule
use Rattle.plan_sgs.specs.declared.fault.SgsFault.{SgsFault}
use Rattle.plan_sgs.specs.declared.fault.SgsFault.TheVariants as fault
use Rattle.plan_sgs.proofs.FullWordLemmas.{full_is_active}
use Rattle.plan_sgs.specs.ProjectLaws.{ProjectFullIsActive}
use Rattle.plan_sgs.proofs.InstanceLemmas.{count-problem}
use Rattle.plan_sgs.proofs.SomeScheduleLemmas.{refused_or_fit, some_schedule, full_word_ends}
use Rattle.plan_exact.specs.Budgets.{IsBudgetText}
use Rattle.plan_exact.specs.Solutions.{IsBudget}
use Rattle.plan_exact.specs.ProjectSolutions.{HasFewActivities, IsProjectSolution, project_outcome, starts_or}
use Rattle.plan_exact.specs.declared.fault.ExactFault.TheVariants as exact
use Rattle.plan_exact.specs.declared.shop_solution.Solved.{Solved}
use Rattle.plan_exact.proofs.ProjectSolutionLemmas.{outcome_is_found, solution_is_active, solution_has_makespan, solution_is_shortest}
use Rattle.plan_gantt.specs.ExactFaultText.{exact_fault_text_of}
use Rattle.plan_gantt.specs.ProjectBestText.{best_project_text_of, IsBestProjectTextOf, TellsBestProjectRefusal}
use Rattle.plan_gantt.specs.ScheduleFaultText.{schedule_fault_text_of}
use Rattle.plan_gantt.specs.ScheduleText.{TellsRefusal}
use Rattle.plan_rows.specs.declared.kinds.PlanKind.TheVariants as kinds
use Rattle.plan_rows.specs.World.{Text, Plan, Lag, World, plan_in, same_text}
use Rattle.plan_rows.specs.Names.{is_from_to}
use Rattle.plan_rows.specs.Plans.{HasPlaces, IsProjectOf, put_in_order, in_order, lag_before, arc_of, lags_of, lagged_by, capacities_from, bound_project, has_arc}
use Rattle.plan_rows.specs.Rules.{IsThereAnd, IsPlanRow, IsLagRow, IsWorld}
use Rattle.plan_rows.specs.Views.{View, alone}
use Rattle.plan_rows.proofs.OwnerLemmas.{text_from_same, same_text_refl}
use Rattle.plan_rows.proofs.RuleLemmas.{all_filter}
use Rattle.plan_desk.specs.PageRoutes.{IsScheduleBy}
use Rattle.plan_desk.proofs.SomeBestLemmas.{budget_below, kind_of}
use Rattle.plan_desk.proofs.SomeFileLemmas.{from_to, vec_of}

-- ---- lags

-- a fact about an existing value holds for some value
there_value : {A : Type 0} (o : Option A) (P : A → Type 0) → IsThereAnd o P → (x : A) × P x
there_value None P h = absurd h
there_value (Some x) P h = (x, h)

-- a row's lag is within the limit
abbrev IsShort : Lag → Type 0
IsShort row = row.lag ≤ 10000

lag_is_short : (w : World) (row : Lag) → IsLagRow w row → IsShort row
lag_is_short w row keeps =
    let found = there_value (plan_in w row.desk row.n)
    (λ plan. (plan.kind ≡ kinds.Project) × ((p : Project) × SaysProject plan.body p × (has_arc p.network row.source row.target ≡ true)) × (is_from_to 1 10000 row.lag ≡ true)) keeps in
    (from_to 1 10000 row.lag found.1.2).1

lags_are_short : (w : World) (rows : List Lag) → AllByRecursion (IsLagRow w) rows → AllByRecursion IsShort rows
lags_are_short w [] keep = tt
lags_are_short w (row ∷ rows) keep = (lag_is_short w row keep.0, lags_are_short w rows keep.1)

-- a fact about all rows holds in another order
all_put : {A : Type 0} (P : A → Type 0) (before : A → A → Bool) (x : A) (ys : List A) → P x → AllByRecursion P ys → AllByRecursion P (put_in_order before x ys)
all_put P before x [] here all = (here, tt)
all_put {A = A} P before x (y ∷ ys) here all = by_test (before y x) (all_put P before x ys here all.1)
  where
    by_test : (b : Bool) → AllByRecursion P (put_in_order before x ys) → AllByRecursion P (if b then y ∷ put_in_order before x ys else x ∷ y ∷ ys)
    by_test true rest = (all.0, rest)
    by_test false rest = (here, all)

all_in_order : {A : Type 0} (P : A → Type 0) (before : A → A → Bool) (xs : List A) → AllByRecursion P xs → AllByRecursion P (in_order before xs)
all_in_order P before [] all = tt
all_in_order P before (x ∷ xs) all = all_put P before x (in_order before xs) all.0 (all_in_order P before xs all.1)

abbrev IsShortArc : ℕ × ℕ × ℕ → Type 0
IsShortArc arc = arc.2 ≤ 10000

arcs_are_short : (rows : List Lag) → AllByRecursion IsShort rows → AllByRecursion IsShortArc (map arc_of rows)
arcs_are_short [] all = tt
arcs_are_short (row ∷ rows) all = (all.0, arcs_are_short rows all.1)

-- a project stays one with short lags
lagged_is_project : (arcs : List (ℕ × ℕ × ℕ)) (p : Project) → AllByRecursion IsShortArc arcs → IsProject p → IsProject (lagged_by arcs p)
lagged_is_project [] p all is = is
lagged_is_project (arc ∷ arcs) p all is = lagged_is_project arcs (with_project_lag p arc.0 arc.1 arc.2) all.1 (record {
  network = IsSound-with_lag p.network arc.0 arc.1 arc.2 all.0 is.network;
  rows = is.rows;
  needs = is.needs;
  available = is.available;
  resources = is.resources;
})

-- ---- the project of a plan

-- the project of a plan, which keeps the rules of projects
pub record SomeProject (v : View) (plan : Plan) : Type 0 where
  pub project : Project
  pub said : IsProjectOf v plan project
  pub is : IsProject project

pub some_project_of : (v : View) (plan : Plan) → IsWorld (alone v) → IsPlanRow plan → plan.kind ≡ kinds.Project → SomeProject v plan
some_project_of v plan k keeps kind = of_reads (subst (λ of. (count : ℕ) × HasPlaces of plan.name plan.body count) kind keeps.reads)
  where
    rows : List Lag
    rows = filter (λ row. row.n == plan.n) v.lags

    short : AllByRecursion IsShortArc (lags_of v plan.n)
    short =
        arcs_are_short (in_order lag_before rows) (all_in_order IsShort lag_before rows
        (all_filter IsShort IsShort (λ row. row.n == plan.n) (λ row kept holds. holds) v.lags (lags_are_short (alone v) v.lags k.lagged)))

    of_reads : (count : ℕ) × HasPlaces kinds.Project plan.name plan.body count → SomeProject v plan
    of_reads (count, (said, says, e)) = record {
      project = lagged_by (lags_of v plan.n) said;
      said = (said, says, refl);
      is = lagged_is_project (lags_of v plan.n) said short says.3;
    }

-- each resource has one capacity
length-capacities : (v : View) (n place : ℕ) (available : List ℕ) → length (capacities_from v n place available) ≡ length available
length-capacities v n place [] = refl
length-capacities v n place (x ∷ xs) = ap suc (length-capacities v n (place + 1) xs)

pub instance_of : (v : View) (plan : Plan) (p : Project) → IsProject p → NeedsFit (problem_of (bound_project v plan p)) → IsInstance (bound_project v plan p)
instance_of v plan p is fit = record { project = is; capacities = length-capacities v plan.n 1 p.available; fit = fit }

-- ---- schedules

-- a rule has the name, or none has
some_rule : (name : Text) → ((r : Rule) × (name ≡ rule_text r)) ⊎ ((r : Rule) → name ≡ rule_text r → ⊥)
some_rule name = by_tests (test rule.LatestFinish) (test rule.Slack) (test rule.ShortestTime) (test rule.MostSuccessors) (test rule.Number)
  where
    IsTested : Rule → Type 0
    IsTested r = (name ≡ rule_text r) ⊎ (name ≡ rule_text r → ⊥)

    test : (r : Rule) → IsTested r
    test r = by_text (cases_Bool (same_text name (rule_text r)))
      where
        by_text : (same_text name (rule_text r) ≡ true) ⊎ (same_text name (rule_text r) ≡ false) → IsTested r
        by_text (inl is) = inl (text_from_same name _ is)
        by_text (inr differs) = inr (λ same. both_ways _ differs (subst (λ text. same_text name text ≡ true) same (same_text_refl name)))

    by_tests : IsTested rule.LatestFinish → IsTested rule.Slack → IsTested rule.ShortestTime → IsTested rule.MostSuccessors → IsTested rule.Number
        → ((r : Rule) × (name ≡ rule_text r)) ⊎ ((r : Rule) → name ≡ rule_text r → ⊥)
    by_tests (inl is) b c d e = inl (rule.LatestFinish, is)
    by_tests (inr a) (inl is) c d e = inl (rule.Slack, is)
    by_tests (inr a) (inr b) (inl is) d e = inl (rule.ShortestTime, is)
    by_tests (inr a) (inr b) (inr c) (inl is) e = inl (rule.MostSuccessors, is)
    by_tests (inr a) (inr b) (inr c) (inr d) (inl is) = inl (rule.Number, is)
    by_tests (inr a) (inr b) (inr c) (inr d) (inr e) = inr none
      where
        none : (r : Rule) → name ≡ rule_text r → ⊥
        none rule.LatestFinish = a
        none rule.Slack = b
        none rule.ShortestTime = c
        none rule.MostSuccessors = d
        none rule.Number = e

-- an instance has a schedule by the rule with this name, or a line refuses it
pub some_project_schedule : (v : View) (plan : Plan) (p : Project) (name : Text) → IsProject p
    → ((line : Text) × TellsRefusal name (bound_project v plan p) line) ⊎ ((starts : List ℕ) × IsScheduleBy (bound_project v plan p) name starts)
some_project_schedule v plan p name is = by_parts (refused_or_fit i) (some_rule name)
  where
    i : Planned
    i = bound_project v plan p

    by_parts : ((first : SgsFault) × RefusesInstance i first) ⊎ NeedsFit (problem_of i) → ((r : Rule) × (name ≡ rule_text r)) ⊎ ((r : Rule) → name ≡ rule_text r → ⊥)
        → ((line : Text) × TellsRefusal name i line) ⊎ ((starts : List ℕ) × IsScheduleBy i name starts)
    by_parts (inl (first, refuses)) rule_of = inl (schedule_fault_text_of first, (first, inl refuses, refl))
    by_parts (inr fit) (inr none) = inl (schedule_fault_text_of fault.UnknownRule, (fault.UnknownRule, inr (fit, (refl, none)), refl))
    by_parts (inr fit) (inl (r, named)) =
        let made = some_schedule i (instance_of v plan p is fit) r in
        inr (made.0, record { rule = r; named = named; schedule = record { scheduled = made.1; active = made.2 } })

-- ---- best schedules

-- an instance with few activities is solved within each budget
some_project_solution : (i : Planned) (budget : ℕ) → IsInstance i → HasFewActivities i → IsBudget budget → (solved : Solved) × IsProjectSolution i budget solved
unfolding ProjectFullIsActive
some_project_solution i budget instance few allowed =
    let initial = some_schedule i instance rule.LatestFinish in
    let answer = project_outcome i initial.0 budget in
    let found = outcome_is_found i initial.0 budget instance initial.1 in
    let starts : List ℕ = starts_or i initial.0 (project_outcome i initial.0 budget).found.word in
    let active = full_is_active i found.word instance found.full in
    let long : length starts ≡ count (problem_of i) = ap length found.starts_are ∙ active.feasible.each_started in
    let kept = vec_of starts (omega (arith, long, count-problem i, few)) in
    let kind = kind_of (project_outcome i initial.0 budget).optimal in
    let ends : AllEndBy (problem_of i) starts latest_end = subst (λ (xs : List ℕ). AllEndBy (problem_of i) xs latest_end) (sym found.starts_are) (full_word_ends i found.word instance found.full) in (
      record { kind = kind.0; schedule = record { starts = kept.0; makespan = (project_outcome i initial.0 budget).found.value } },
      record {
        few_activities = few;
        allowed = allowed;
        initial = initial.0;
        by_rule = initial.1;
        found = record { optimal = kind.1; starts = kept.1; makespan = refl };
        ends = subst (λ (xs : List ℕ). AllEndBy (problem_of i) xs latest_end) (sym kept.1) ends;
      },
    )

-- an instance has a best schedule within the budget that a word spells, or a line refuses it
pub some_project_best : (v : View) (plan : Plan) (p : Project) (word : Text) → IsProject p
    → ((line : Text) × TellsBestProjectRefusal word (bound_project v plan p) line) ⊎ ((text : Text) × IsBestProjectTextOf word (bound_project v plan p) text)
some_project_best v plan p word is = by_parts (refused_or_fit i) (cases_lt 40 (count_of p.network)) (budget_below word 200001 (omega arith))
  where
    i : Planned
    i = bound_project v plan p

    by_parts : ((first : SgsFault) × RefusesInstance i first) ⊎ NeedsFit (problem_of i) → (40 < count_of p.network) ⊎ (count_of p.network ≤ 40)
        → ((n : ℕ) × IsBudgetText word n) ⊎ ((n : ℕ) → IsBudgetText word n → ⊥)
        → ((line : Text) × TellsBestProjectRefusal word i line) ⊎ ((text : Text) × IsBestProjectTextOf word i text)
    by_parts (inl (first, refuses)) size budget = inl (schedule_fault_text_of first, inl (first, refuses, refl))
    by_parts (inr fit) (inl large) budget = inl (exact_fault_text_of exact.TooLarge, inr (fit, (exact.TooLarge, large, refl)))
    by_parts (inr fit) (inr few) (inr none) = inl (exact_fault_text_of exact.BadBudget, inr (fit, (exact.BadBudget, (few, none), refl)))
    by_parts (inr fit) (inr few) (inl (budget, spells)) =
        let instance = instance_of v plan p is fit in
        let best = some_project_solution i budget instance few spells.0 in
        inr (
          best_project_text_of i best.0,
          (
            budget,
            spells,
            record {
              solved = best.0;
              solution = best.1;
              shortest = solution_is_shortest i budget best.0 instance best.1;
              active = solution_is_active i budget best.0 instance best.1;
              makespan = solution_has_makespan i budget best.0 instance best.1;
              shown = refl;
            },
          ),
        )
