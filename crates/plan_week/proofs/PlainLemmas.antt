-- Weeks in which nothing has happened, nothing is wished and nobody is absent.
use Rattle.std.proofs.Common.{◌≡◌, ◌≢◌, ◌∙◌, ℕ, ◌+◌, ◌≤◌, ◌<◌, ◌&&◌, true, List, [], Some, None, cond, nat_le, nat_lt, map, length, get_or, refl, sym, ap, subst, arith}
use Rattle.std.specs.List.{All, sum_by}
use Rattle.std.proofs.lemmas.List.Elements.{All-map}
use Rattle.plan_sgs.specs.Problem.{Problem, Link, count, duration, need, capacity, total, greatest_below, usage, all_placed, makespan, KeepsArcs, IsFeasible}
use Rattle.plan_sgs.proofs.TotalLemmas.{total_same, greatest_same}
use Rattle.plan_sgs.proofs.StartLemmas.{usage_is}
use Rattle.plan_kernel.specs.declared.input.Arc.{Arc}
use Rattle.plan_kernel.specs.declared.input.Absence.{Absence}
use Rattle.plan_kernel.specs.Inputs.{link_of, amount_at}
use Rattle.plan_kernel.specs.Plans.{taken_by}
use Rattle.plan_week.specs.declared.week.State.{State}
use Rattle.plan_week.specs.declared.week.State.TheVariants.{Open, Begun, Done}
use Rattle.plan_week.specs.declared.week.Week.{Week}
use Rattle.plan_week.specs.Weeks.{project_of, state_of, rest, rest_of, is_open, KeepsState, end_of, KeepsArc, needed_by, needed, missing, IsWeekPlan}
use Rattle.plan_week.specs.Weeks.{makespan_of, IsPlainWeek, PlansAreFeasible, MakespansStay}
use Rattle.plan_week.proofs.ListLemmas.{unmapped}

-- all of each activity is left
plain_rest : (week : Week) (p : Problem) (i : ℕ) → IsPlainWeek week p → rest_of week i ≡ duration (project_of week) i
plain_rest week p i plain = ap (λ (s : State). rest (duration (project_of week) i) s) (plain.states i)

plain_open : (week : Week) (p : Problem) (i : ℕ) → IsPlainWeek week p → is_open (state_of week i) ≡ true
plain_open week p i plain = ap (λ (s : State). is_open s) (plain.states i)

plain_missing : (week : Week) (p : Problem) (t k : ℕ) → IsPlainWeek week p → missing week t k ≡ 0
plain_missing week p t k plain = ap (λ (xs : List Absence). sum_by (taken_by t k) xs) plain.absences

-- the needs are the usage
plain_needed : (week : Week) (p : Problem) (starts : List ℕ) (t k : ℕ) → IsPlainWeek week p → length starts ≡ count (project_of week)
    → usage (project_of week) (all_placed starts) t k ≡ needed week starts t k
plain_needed week p starts t k plain each =
    let q = project_of week in
    usage_is q starts t k each
    ∙ total_same (count q) (amount_at q starts t k) (needed_by week starts t k)
    (λ i _.
    let s : ℕ = get_or starts i 0 in
    ap (λ (d : ℕ). cond (nat_le s t && nat_lt t (s + d)) (need q i k) 0) (sym (plain_rest week p i plain)))

-- a link is kept as its arc is
KeepsLink : Week → List ℕ → Link → Type 0
KeepsLink week starts l = get_or starts l.from 0 + duration (project_of week) l.from + l.lag ≤ get_or starts l.to 0

links_kept : (week : Week) (starts : List ℕ) → All (λ a. KeepsLink week starts (link_of a)) week.arcs.items → KeepsArcs (project_of week) starts
unfolding project_of KeepsLink
links_kept week starts kept = All-map (KeepsLink week starts) link_of week.arcs.items kept

each_kept : (week : Week) (starts : List ℕ) → KeepsArcs (project_of week) starts → All (λ a. KeepsLink week starts (link_of a)) week.arcs.items
unfolding project_of KeepsLink
each_kept week starts kept = unmapped (KeepsLink week starts) link_of week.arcs.items kept

arc_to : (week : Week) (p : Problem) (starts : List ℕ) (a : Arc) → IsPlainWeek week p → KeepsArc week starts a → KeepsLink week starts (link_of a)
unfolding KeepsLink
arc_to week p starts a plain kept = omega (arith, kept (plain_open week p a.to plain), plain_rest week p a.from plain)

arc_from : (week : Week) (p : Problem) (starts : List ℕ) (a : Arc) → IsPlainWeek week p → KeepsLink week starts (link_of a) → end_of week starts a.from + a.lag ≤ get_or starts a.to 0
unfolding KeepsLink
arc_from week p starts a plain kept = omega (arith, kept, plain_rest week p a.from plain)

to_feasible : (week : Week) (p : Problem) (starts : List ℕ) → IsPlainWeek week p → IsWeekPlan week starts → IsFeasible (project_of week) starts
to_feasible week p starts plain plan = record {
  each_started = plan.each_started;
  arcs = links_kept week starts (λ k d inside. arc_to week p starts (get_or week.arcs.items k d) plain (plan.arcs k d inside));
  capacities = λ t k inside. omega (arith, plan.fits t k (omega (arith, plain.today)) inside, plain_needed week p starts t k plain plan.each_started);
}

from_feasible : (week : Week) (p : Problem) (starts : List ℕ) → IsPlainWeek week p → IsFeasible (project_of week) starts → IsWeekPlan week starts
from_feasible week p starts plain feasible = record {
  each_started = feasible.each_started;
  states = λ i inside. subst (λ (s : State). KeepsState week.today (get_or starts i 0) s) (sym (plain.states i)) (omega (arith, plain.today), omega arith, tt);
  arcs = λ k d inside _. arc_from week p starts (get_or week.arcs.items k d) plain (each_kept week starts feasible.arcs k d inside);
  fits = λ t k since inside. omega (
    arith,
    feasible.capacities t k inside,
    plain_needed week p starts t k plain feasible.each_started,
    plain_missing week p t k plain,
  );
}

pub plans_are_feasible : PlansAreFeasible
unfolding PlansAreFeasible
plans_are_feasible week p starts plain = (
  (λ plan. subst (λ (q : Problem). IsFeasible q starts) plain.project (to_feasible week p starts plain plan)),
  (λ feasible. from_feasible week p starts plain (subst (λ (q : Problem). IsFeasible q starts) (sym plain.project) feasible)),
)

pub makespans_stay : MakespansStay
unfolding MakespansStay
makespans_stay week p starts plain =
    greatest_same (count (project_of week)) (end_of week starts) (λ i. get_or starts i 0 + duration (project_of week) i)
    (λ i _. omega (arith, plain_rest week p i plain))
    ∙ ap (λ (q : Problem). makespan q starts) plain.project
