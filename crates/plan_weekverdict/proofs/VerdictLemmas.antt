-- Starts have at most one verdict, and starts without a violation are a plan.
use Rattle.std.proofs.Common.{◌≡◌, ◌∙◌, ℕ, ◌+◌, ◌≤◌, ◌<◌, inl, inr, Bool, true, false, if◌then◌else◌, nat_lt, List, Option, Some, None, get_or, refl, sym, ap, subst, arith}
use Rattle.std.specs.Option.{IfSome, IfNone}
use Rattle.std.proofs.lemmas.Bool.{cases_lt, lt-ltb, le-ltb}
use Rattle.plan_sgs.specs.Problem.{count, capacity}
use Rattle.plan_sgs.specs.Verdicts.{IsNoLater}
use Rattle.plan_sgs.proofs.Findings.{no_later_once}
use Rattle.plan_week.specs.declared.overload.Overload.{Overload}
use Rattle.plan_week.specs.declared.week.Week.{Week}
use Rattle.plan_week.specs.Weeks.{project_of, state_of, needed, missing, IsWeekPlan}
use Rattle.plan_weekverdict.specs.declared.verdict.Miss.{Miss}
use Rattle.plan_weekverdict.specs.declared.verdict.WeekVerdict.{WeekVerdict}
use Rattle.plan_weekverdict.specs.declared.verdict.WeekVerdict.TheVariants.{Misplaced, Broken, Over, Feasible}
use Rattle.plan_weekverdict.specs.Verdicts.{HasSettled, MissesAt, IsOver, HasNoMiss, HasNoBroken, HasNoOver, HasNoViolation, IsFirstMiss, IsFirstBroken}
use Rattle.plan_weekverdict.specs.Verdicts.{IsFirstOver, IsWeekVerdict, AtMostOneVerdict, PlansHaveNoViolation, first_of}
use Rattle.plan_weekverdict.proofs.MissLemmas.{keeps_all, misses_none, miss_once}
use Rattle.plan_weekverdict.proofs.ArcLemmas.{kept_none, none_kept}

-- ---- plans

pub plan_no_miss : (week : Week) (starts : List ℕ) → IsWeekPlan week starts → HasNoMiss week starts
plan_no_miss week starts plan i miss (inside, misses) = keeps_all week.today (get_or starts i 0) (state_of week i) miss (plan.states i inside) misses

pub plan_no_over : (week : Week) (starts : List ℕ) → IsWeekPlan week starts → HasNoOver week starts
plan_no_over week starts plan k t over = omega (arith, over.above, plan.fits t k over.since over.resource)

pub without_violation : (week : Week) (starts : List ℕ) → HasSettled week starts → HasNoMiss week starts → HasNoBroken week starts → HasNoOver week starts → IsWeekPlan week starts
without_violation week starts settled dates arcs overloads = record {
  each_started = settled.each_started;
  states = λ i inside. misses_none week.today (get_or starts i 0) (state_of week i) (settled.settled i inside) (λ miss misses. dates i miss (inside, misses));
  arcs = none_kept week starts arcs;
  fits = λ t k since inside. elim (cases_lt (capacity (project_of week) k) (needed week starts t k + missing week t k)) [
    | inl above ↦ absurd (overloads k t (record { since = since; resource = inside; above = above }))
    | inr within ↦ within
  ];
}

pub plans_have_no_violation : PlansHaveNoViolation
unfolding PlansHaveNoViolation
plans_have_no_violation week starts settled = (
  (λ none. without_violation week starts settled none.dates none.arcs none.overloads),
  (λ plan. record {
    dates = plan_no_miss week starts plan;
    arcs = kept_none week starts plan.arcs;
    overloads = plan_no_over week starts plan;
  }),
)

-- ---- one verdict

first_miss_once : (week : Week) (starts : List ℕ) (i h : ℕ) (a b : Miss) → IsFirstMiss week starts i a → IsFirstMiss week starts h b → Misplaced i a ≡ Misplaced h b
first_miss_once week starts i h a b one other =
    let same : h ≡ i = omega (arith, one.first h b other.here, other.first i a one.here) in
    let here : MissesAt week starts i b = subst (λ (x : ℕ). MissesAt week starts x b) same other.here in
    let miss : a ≡ b = miss_once week.today (get_or starts i 0) (state_of week i) a b one.here.1 here.1 in
    ap (λ (m : Miss). Misplaced i m) miss ∙ ap (λ (x : ℕ). Misplaced x b) (sym same)

first_broken_once : (week : Week) (starts : List ℕ) (i j h k : ℕ) → IsFirstBroken week starts i j → IsFirstBroken week starts h k → Broken i j ≡ Broken h k
first_broken_once week starts i j h k one other =
    let same = no_later_once i j h k (one.first h k other.here) (other.first i j one.here) in
    ap (λ (x : ℕ). Broken i x) same.1 ∙ ap (λ (x : ℕ). Broken x k) same.0

first_over_once : (week : Week) (starts : List ℕ) (a b : Overload) → IsFirstOver week starts a → IsFirstOver week starts b → a ≡ b
first_over_once week starts a b one other =
    let same = no_later_once a.instant a.resource b.instant b.resource (one.first b.resource b.instant other.here) (other.first a.resource a.instant one.here) in
    let e : a.instant ≡ b.instant = same.0 in
    let f : a.resource ≡ b.resource = same.1 in
    ap (λ (x : ℕ). record { resource = a.resource; instant = x }) e ∙ ap (λ (x : ℕ). record { resource = x; instant = b.instant }) f

pub at_most_one : AtMostOneVerdict
unfolding AtMostOneVerdict
at_most_one week starts (Misplaced i a) (Misplaced h b) v w = first_miss_once week starts i h a b v.0 w.0
at_most_one week starts (Misplaced i a) (Broken h k) v w = absurd (omega (arith, v.1 h k w.0.here, w.1 i a v.0.here))
at_most_one week starts (Misplaced i a) (Over o) v w = absurd (w.0 i a v.0.here)
at_most_one week starts (Misplaced i a) Feasible v w = absurd (plan_no_miss week starts w i a v.0.here)
at_most_one week starts (Broken i j) (Misplaced h b) v w = absurd (omega (arith, w.1 i j v.0.here, v.1 h b w.0.here))
at_most_one week starts (Broken i j) (Broken h k) v w = first_broken_once week starts i j h k v.0 w.0
at_most_one week starts (Broken i j) (Over o) v w = absurd (w.1 i j v.0.here)
at_most_one week starts (Broken i j) Feasible v w = absurd (kept_none week starts w.arcs i j v.0.here)
at_most_one week starts (Over o) (Misplaced h b) v w = absurd (v.0 h b w.0.here)
at_most_one week starts (Over o) (Broken h k) v w = absurd (v.1 h k w.0.here)
at_most_one week starts (Over o) (Over p) v w = ap (λ (x : Overload). Over x) (first_over_once week starts o p v.2 w.2)
at_most_one week starts (Over o) Feasible v w = absurd (plan_no_over week starts w o.resource o.instant v.2.here)
at_most_one week starts Feasible (Misplaced h b) v w = absurd (plan_no_miss week starts v h b w.0.here)
at_most_one week starts Feasible (Broken h k) v w = absurd (kept_none week starts v.arcs h k w.0.here)
at_most_one week starts Feasible (Over o) v w = absurd (plan_no_over week starts v o.resource o.instant w.2.here)
at_most_one week starts Feasible Feasible v w = refl

-- ---- the first wrong activity

no_later_first : (i j h k : ℕ) → IsNoLater i j h k → i ≤ h
no_later_first i j h k (inl before) = omega (arith, before)
no_later_first i j h k (inr same) = omega (arith, same.0)

by_test : {X : Type 0} (P : X → Type 0) (b : Bool) (x y : X) → P x → P y → P (if b then x else y)
by_test P true x y one other = one
by_test P false x y one other = other

-- the verdict of the first miss and the first broken arc
pub first_wrong : (week : Week) (starts : List ℕ) (miss : Option (ℕ × Miss)) (arc : Option (ℕ × ℕ))
    → IfSome miss (λ found. IsFirstMiss week starts found.0 found.1) → IfNone miss (HasNoMiss week starts)
    → IfSome arc (λ pair. IsFirstBroken week starts pair.0 pair.1) → IfNone arc (HasNoBroken week starts)
    → IfSome (first_of miss arc) (IsWeekVerdict week starts)
first_wrong week starts None None some none broken kept = tt
first_wrong week starts None (Some arc) some none broken kept = (broken, λ h miss misses. absurd (none h miss misses))
first_wrong week starts (Some miss) None some none broken kept = (some, λ h j has. absurd (kept h j has))
first_wrong week starts (Some miss) (Some arc) some none broken kept = elim (cases_lt arc.0 miss.0) [
  | inl less ↦ subst (λ (b : Bool). IfSome (if b then Some (Broken arc.0 arc.1) else Some (Misplaced miss.0 miss.1)) (IsWeekVerdict week starts)) (sym (lt-ltb arc.0 miss.0 less))
      (broken, λ h other misses. omega (arith, some.first h other misses, less))
  | inr most ↦ subst (λ (b : Bool). IfSome (if b then Some (Broken arc.0 arc.1) else Some (Misplaced miss.0 miss.1)) (IsWeekVerdict week starts)) (sym (le-ltb arc.0 miss.0 most))
      (some, λ h j has. omega (arith, most, no_later_first arc.0 arc.1 h j (broken.first h j has)))
]

-- without such a verdict there is neither a miss nor a broken arc
pub none_dates : (week : Week) (starts : List ℕ) (miss : Option (ℕ × Miss)) (arc : Option (ℕ × ℕ))
    → IfNone miss (HasNoMiss week starts) → IfNone (first_of miss arc) (HasNoMiss week starts)
none_dates week starts None None none = none
none_dates week starts None (Some arc) none = tt
none_dates week starts (Some miss) None none = tt
none_dates week starts (Some miss) (Some arc) none =
    by_test (λ (o : Option WeekVerdict). IfNone o (HasNoMiss week starts)) (nat_lt arc.0 miss.0) (Some (Broken arc.0 arc.1)) (Some (Misplaced miss.0 miss.1)) tt tt

pub none_arcs : (week : Week) (starts : List ℕ) (miss : Option (ℕ × Miss)) (arc : Option (ℕ × ℕ))
    → IfNone arc (HasNoBroken week starts) → IfNone (first_of miss arc) (HasNoBroken week starts)
none_arcs week starts None None none = none
none_arcs week starts None (Some arc) none = tt
none_arcs week starts (Some miss) None none = tt
none_arcs week starts (Some miss) (Some arc) none =
    by_test (λ (o : Option WeekVerdict). IfNone o (HasNoBroken week starts)) (nat_lt arc.0 miss.0) (Some (Broken arc.0 arc.1)) (Some (Misplaced miss.0 miss.1)) tt tt
