-- Dates: a start keeps them exactly if it doesn't miss them.
use Rattle.std.proofs.Common.{◌≡◌, ◌≢◌, ◌∙◌, ℕ, ◌+◌, ◌≤◌, ◌<◌, inl, inr, List, Option, Some, None, get_or, refl, sym, ap, subst, arith}
use Rattle.std.specs.Bool.{IsFalse}
use Rattle.std.specs.Option.{IfSome, IfNone}
use Rattle.std.proofs.lemmas.Bool.{cases_lt, cases_eq}
use Rattle.plan_sgs.specs.Problem.{count}
use Rattle.plan_week.specs.declared.week.State.{State}
use Rattle.plan_week.specs.declared.week.State.TheVariants.{Open, Begun, Done}
use Rattle.plan_week.specs.declared.week.Week.{Week}
use Rattle.plan_week.specs.Tardiness.{date_or}
use Rattle.plan_week.specs.Weeks.{project_of, state_of, is_open, KeepsAppointment, KeepsState}
use Rattle.plan_weekverdict.specs.declared.verdict.Miss.{Miss}
use Rattle.plan_weekverdict.specs.declared.verdict.Miss.TheVariants.{Past, Early, Moved}
use Rattle.plan_weekverdict.specs.Verdicts.{Misses, MissesAt, HasNoMiss, IsFirstMiss, IsMoveFrom}

-- a start that keeps its dates misses none
pub keeps_all : (today start : ℕ) (s : State) (miss : Miss) → KeepsState today start s → Misses today start s miss → ⊥
keeps_all today start (Open earliest fixed) (Past day) kept misses = omega (arith, kept.0, misses.1)
keeps_all today start (Open earliest fixed) (Early date) kept misses = omega (arith, kept.1, misses.2)
keeps_all today start (Open earliest fixed) (Moved instant date) kept misses =
    misses.4 (subst (λ (o : Option ℕ). KeepsAppointment start o) misses.1 kept.2)
keeps_all today start (Begun began remaining) miss kept misses = misses
keeps_all today start (Done ended) miss kept misses = misses

-- an appointment that isn't missed is kept
appointment_kept : (today start earliest : ℕ) (fixed : Option ℕ) → today ≤ start → earliest ≤ start
    → ((miss : Miss) → Misses today start (Open earliest fixed) miss → ⊥) → KeepsAppointment start fixed
appointment_kept today start earliest None since after none = tt
appointment_kept today start earliest (Some date) since after none = elim (cases_eq start date) [
  | inl same ↦ same
  | inr other ↦ absurd (none (Moved start date) (refl, refl, since, after, other))
]

-- a start that misses no date keeps its state
pub misses_none : (today start : ℕ) (s : State) → (IsFalse (is_open s) → KeepsState today start s)
    → ((miss : Miss) → Misses today start s miss → ⊥) → KeepsState today start s
misses_none today start (Open earliest fixed) settled none =
    let since : today ≤ start = elim (cases_lt start today) [
      | inl before ↦ absurd (none (Past today) (refl, before))
      | inr since ↦ since
    ] in
    let after : earliest ≤ start = elim (cases_lt start earliest) [
      | inl before ↦ absurd (none (Early earliest) (refl, since, before))
      | inr after ↦ after
    ] in
    (since, after, appointment_kept today start earliest fixed since after none)
misses_none today start (Begun began remaining) settled none = settled refl
misses_none today start (Done ended) settled none = settled refl

-- a start misses its dates in one way only
pub miss_once : (today start : ℕ) (s : State) (a b : Miss) → Misses today start s a → Misses today start s b → a ≡ b
miss_once today start (Open earliest fixed) (Past day) (Past other) a b = ap (λ (n : ℕ). Past n) (a.0 ∙ sym b.0)
miss_once today start (Open earliest fixed) (Past day) (Early date) a b = absurd (omega (arith, a.1, b.1))
miss_once today start (Open earliest fixed) (Past day) (Moved instant date) a b = absurd (omega (arith, a.1, b.2))
miss_once today start (Open earliest fixed) (Early date) (Past day) a b = absurd (omega (arith, a.1, b.1))
miss_once today start (Open earliest fixed) (Early date) (Early other) a b = ap (λ (n : ℕ). Early n) (a.0 ∙ sym b.0)
miss_once today start (Open earliest fixed) (Early date) (Moved instant other) a b = absurd (omega (arith, a.2, b.3))
miss_once today start (Open earliest fixed) (Moved instant date) (Past day) a b = absurd (omega (arith, a.2, b.1))
miss_once today start (Open earliest fixed) (Moved instant date) (Early other) a b = absurd (omega (arith, a.3, b.2))
miss_once today start (Open earliest fixed) (Moved instant date) (Moved other day) a b =
    let same : date ≡ day = ap (λ (o : Option ℕ). date_or 0 o) (sym a.1 ∙ b.1) in
    ap (λ (n : ℕ). Moved n date) (a.0 ∙ sym b.0) ∙ ap (λ (n : ℕ). Moved other n) same
miss_once today start (Begun began remaining) a b misses others = absurd misses
miss_once today start (Done ended) a b misses others = absurd misses

-- the miss of an appointment, for a start that is neither before today nor too early
pub moved_misses : (today start earliest : ℕ) (fixed : Option ℕ) (result : Option Miss) → today ≤ start → earliest ≤ start
    → IsMoveFrom fixed start result → IfSome result (Misses today start (Open earliest fixed))
moved_misses today start earliest None result since after is =
    subst (λ (r : Option Miss). IfSome r (Misses today start (Open earliest None))) (sym is) tt
moved_misses today start earliest (Some date) result since after is = elim (cases_eq start date) [
  | inl same ↦ subst (λ (r : Option Miss). IfSome r (Misses today start (Open earliest (Some date)))) (sym (is.0 same)) tt
  | inr other ↦ subst (λ (r : Option Miss). IfSome r (Misses today start (Open earliest (Some date)))) (sym (is.1 other))
      (refl, refl, since, after, other)
]

pub not_moved : (today start earliest : ℕ) (fixed : Option ℕ) (result : Option Miss) → today ≤ start → earliest ≤ start
    → IsMoveFrom fixed start result → IfNone result ((miss : Miss) → Misses today start (Open earliest fixed) miss → ⊥)
not_moved today start earliest None result since after is =
    subst (λ (r : Option Miss). IfNone r ((miss : Miss) → Misses today start (Open earliest None) miss → ⊥)) (sym is)
    (λ miss misses. keeps_all today start (Open earliest None) miss (since, after, tt) misses)
not_moved today start earliest (Some date) result since after is = elim (cases_eq start date) [
  | inl same ↦ subst (λ (r : Option Miss). IfNone r ((miss : Miss) → Misses today start (Open earliest (Some date)) miss → ⊥)) (sym (is.0 same))
      (λ miss misses. keeps_all today start (Open earliest (Some date)) miss (since, after, same) misses)
  | inr other ↦ subst (λ (r : Option Miss). IfNone r ((miss : Miss) → Misses today start (Open earliest (Some date)) miss → ⊥)) (sym (is.1 other)) tt
]

-- the activity at a place misses its dates, by the values in the program
pub misses_at : (week : Week) (starts : List ℕ) (i start : ℕ) (s : State) (miss : Miss) → i < count (project_of week) → start ≡ get_or starts i 0 → s ≡ state_of week i
    → Misses week.today start s miss → MissesAt week starts i miss
misses_at week starts i start s miss inside same is misses = (
  inside,
  subst (λ (x : ℕ). Misses week.today x (state_of week i) miss) same (subst (λ (x : State). Misses week.today start x miss) is misses),
)

-- it is the first one
pub first_miss_at : (week : Week) (starts : List ℕ) (i : ℕ) (miss : Miss) → ((h : ℕ) → h < i → (other : Miss) → MissesAt week starts h other → ⊥)
    → MissesAt week starts i miss → IsFirstMiss week starts i miss
first_miss_at week starts i miss before here = record {
  here = here;
  first = λ h other has. elim (cases_lt h i) [
    | inl less ↦ absurd (before h less other has)
    | inr most ↦ most
  ];
}

-- none does
pub no_miss_at_all : (week : Week) (starts : List ℕ) (n : ℕ) → count (project_of week) ≤ n → ((h : ℕ) → h < n → (other : Miss) → MissesAt week starts h other → ⊥)
    → HasNoMiss week starts
no_miss_at_all week starts n all before i miss has = before i (omega (arith, has.0, all)) miss has
