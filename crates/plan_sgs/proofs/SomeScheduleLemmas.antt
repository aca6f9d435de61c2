-- An instance has a schedule by each rule, or a need is too much; and the schedule of each full
-- word ends in time.
use Rattle.std.proofs.Common.{ℕ, suc, ◌≡◌, ◌+◌, ◌-◌, ◌≤◌, ◌<◌, ◌⊎◌, inl, inr, List, length, get_or, refl, sym, subst, arith}
use Rattle.std.proofs.lemmas.Bool.{cases_lt, cases_order}
use Rattle.plan_net.specs.Network.{Net, count_of, duration_of, IsLeast}
use Rattle.plan_net.specs.Limits.{IsSound}
use Rattle.plan_net.proofs.SearchLemmas.{Decided, least_below}
use Rattle.plan_cpm.specs.Dates.{late_finish_of, total_float_of}
use Rattle.plan_cpm.specs.Successors.{AreTotals}
use Rattle.plan_cpm.proofs.SomeDateLemmas.{some_dates}
use Rattle.plan_cpm.proofs.SomeTotalLemmas.{some_totals}
use Rattle.plan_sgs.specs.Problem.{Problem, count, duration, need, capacity, greatest_below, IsActive, IsTooMuch, IsFirstTooMuch, NeedsFit}
use Rattle.plan_sgs.specs.Serial.{unplaced, serial}
use Rattle.plan_sgs.specs.Rules.{rule_list}
use Rattle.plan_sgs.specs.Instances.{Planned, IsInstance, problem_of, RefusesInstance}
use Rattle.plan_sgs.specs.Keys.{IsKeyOf, IsRuleSchedule}
use Rattle.plan_sgs.specs.Placement.{AllEndBy, latest_end}
use Rattle.plan_sgs.specs.ProjectWords.{placed_by, starts_by}
use Rattle.plan_sgs.specs.ProjectLaws.{IsFullWord, rule_word, RuleWordIsFull, ProjectFullIsActive}
use Rattle.plan_sgs.specs.declared.rule.Rule.{Rule}
use Rattle.plan_sgs.specs.declared.rule.Rule.TheVariants as rule
use Rattle.plan_sgs.specs.declared.fault.SgsFault.{SgsFault}
use Rattle.plan_sgs.specs.declared.fault.SgsFault.TheVariants as fault
use Rattle.plan_sgs.proofs.TotalLemmas.{greatest_above}
use Rattle.plan_sgs.proofs.BoundedLemmas.{bounded}
use Rattle.plan_sgs.proofs.MadeLemmas.{made}
use Rattle.plan_sgs.proofs.WordLemmas.{word_turns}
use Rattle.plan_sgs.proofs.FullWordLemmas.{full_list, full_is_active, rule_word_is_full}
use Rattle.plan_sgs.proofs.ProjectTurnLemmas.{word_ends}

-- ---- needs that are too much

-- an activity needs too much of a resource, or not
decide_too_much : (p : Problem) (i k : ℕ) → Decided (IsTooMuch p i k)
decide_too_much p i k = by_tests (cases_lt i (count p)) (cases_lt k (length p.capacities)) (cases_lt 0 (duration p i)) (cases_lt (capacity p k) (need p i k))
  where
    by_tests : (i < count p) ⊎ (count p ≤ i) → (k < length p.capacities) ⊎ (length p.capacities ≤ k) → (0 < duration p i) ⊎ (duration p i ≤ 0)
        → (capacity p k < need p i k) ⊎ (need p i k ≤ capacity p k) → Decided (IsTooMuch p i k)
    by_tests (inr past) b c d = inr (λ more. omega (arith, past, more.0))
    by_tests (inl a) (inr past) c d = inr (λ more. omega (arith, past, more.1))
    by_tests (inl a) (inl b) (inr short) d = inr (λ more. omega (arith, short, more.2))
    by_tests (inl a) (inl b) (inl c) (inr few) = inr (λ more. omega (arith, few, more.3))
    by_tests (inl a) (inl b) (inl c) (inl d) = inl (a, b, c, d)

-- the least resource of which an activity needs too much, if there is one
too_much_of : (p : Problem) (i : ℕ) → ((k : ℕ) × IsLeast (IsTooMuch p i) k) ⊎ ((k : ℕ) → IsTooMuch p i k → ⊥)
too_much_of p i = by_search (least_below (IsTooMuch p i) (decide_too_much p i) (length p.capacities))
  where
    by_search : ((k : ℕ) × IsLeast (IsTooMuch p i) k) ⊎ ((k : ℕ) → k < length p.capacities → IsTooMuch p i k → ⊥)
        → ((k : ℕ) × IsLeast (IsTooMuch p i) k) ⊎ ((k : ℕ) → IsTooMuch p i k → ⊥)
    by_search (inl found) = inl found
    by_search (inr none) = inr (λ k more. none k more.1 more)

-- an activity needs too much of some resource
abbrev NeedsTooMuch : Problem → ℕ → Type 0
NeedsTooMuch p i = (k : ℕ) × IsTooMuch p i k

decide_needs : (p : Problem) (i : ℕ) → Decided (NeedsTooMuch p i)
decide_needs p i = by_resource (too_much_of p i)
  where
    by_resource : ((k : ℕ) × IsLeast (IsTooMuch p i) k) ⊎ ((k : ℕ) → IsTooMuch p i k → ⊥) → Decided (NeedsTooMuch p i)
    by_resource (inl (k, least)) = inl (k, least.0)
    by_resource (inr none) = inr (λ needs. none needs.0 needs.1)

-- some need is the first that is too much, or all fit
pub some_too_much : (p : Problem) → ((act : ℕ) × (res : ℕ) × IsFirstTooMuch p act res) ⊎ NeedsFit p
some_too_much p = by_activity (least_below (NeedsTooMuch p) (decide_needs p) (count p))
  where
    fits : ((i : ℕ) → i < count p → NeedsTooMuch p i → ⊥) → NeedsFit p
    fits none i k inside lasts within = elim (cases_lt (capacity p k) (need p i k)) [
      | inl much ↦ absurd (none i inside (k, (inside, within, lasts, much)))
      | inr few ↦ few
    ]

    first_of : (i : ℕ) → IsLeast (NeedsTooMuch p) i → ((k : ℕ) × IsLeast (IsTooMuch p i) k) ⊎ ((k : ℕ) → IsTooMuch p i k → ⊥) → (act : ℕ) × (res : ℕ) × IsFirstTooMuch p act res
    first_of i least (inr none) = absurd (none least.0.0 least.0.1)
    first_of i least (inl (k, here)) = (suc i, suc k, (i, k, refl, refl, here.0, λ h q more. at h q more (cases_order i h)))
      where
        at : (h q : ℕ) → IsTooMuch p h q → (i ≡ h) ⊎ ((i < h) ⊎ (h < i)) → (i < h) ⊎ ((i ≡ h) × (k ≤ q))
        at h q more (inl same) = inr (same, here.1 q (subst (λ (x : ℕ). IsTooMuch p x q) (sym same) more))
        at h q more (inr (inl later)) = inl later
        at h q more (inr (inr before)) = let low : i ≤ h = least.1 h (q, more) in absurd (omega (arith, low, before))

    by_activity : ((i : ℕ) × IsLeast (NeedsTooMuch p) i) ⊎ ((i : ℕ) → i < count p → NeedsTooMuch p i → ⊥) → ((act : ℕ) × (res : ℕ) × IsFirstTooMuch p act res) ⊎ NeedsFit p
    by_activity (inl (i, least)) = inl (first_of i least (too_much_of p i))
    by_activity (inr none) = inr (fits none)

-- a project with capacities has an error, or no activity needs too much
pub refused_or_fit : (i : Planned) → ((first : SgsFault) × RefusesInstance i first) ⊎ NeedsFit (problem_of i)
refused_or_fit i = by_needs (some_too_much (problem_of i))
  where
    by_needs : ((act : ℕ) × (res : ℕ) × IsFirstTooMuch (problem_of i) act res) ⊎ NeedsFit (problem_of i) → ((first : SgsFault) × RefusesInstance i first) ⊎ NeedsFit (problem_of i)
    by_needs (inl (act, res, first)) = inl (fault.NeedsTooMuch act res, first)
    by_needs (inr fit) = inr fit

-- ---- schedules by rules

-- a sound network has numbers by which each rule chooses
pub some_key : (net : Net) → IsSound net → (r : Rule) → (key : ℕ → ℕ) × IsKeyOf net r key
some_key net sound rule.LatestFinish =
    let made = some_dates net sound in
    (λ i. late_finish_of made.0 (i + 1), (made.0, made.1, λ i inside. refl))
some_key net sound rule.Slack =
    let made = some_dates net sound in
    (λ i. total_float_of made.0 (i + 1), (made.0, made.1, λ i inside. refl))
some_key net sound rule.ShortestTime = (λ i. duration_of net (i + 1), λ i inside. refl)
some_key net sound rule.MostSuccessors = by_totals (some_totals net sound)
  where
    by_totals : (totals : List ℕ) × AreTotals net totals → (key : ℕ → ℕ) × IsKeyOf net rule.MostSuccessors key
    by_totals (totals, are) = (
      λ i. most - get_or totals i 0,
      (
        totals,
        are,
        λ i j first second. (
          λ less. omega (arith, less, above i first, above j second),
          λ more. omega (arith, more, above i first, above j second),
        ),
      ),
    )
      where
        most : ℕ
        most = greatest_below (count_of net) (λ i. get_or totals i 0)

        above : (i : ℕ) → i < count_of net → get_or totals i 0 ≤ most
        above i inside = greatest_above (count_of net) (λ h. get_or totals h 0) i inside
some_key net sound rule.Number = (λ i. i, λ i inside. refl)

-- an instance has a schedule by each rule, and it is active
pub some_schedule : (i : Planned) → IsInstance i → (r : Rule) → (starts : List ℕ) × IsRuleSchedule i r starts × IsActive (problem_of i) starts
unfolding RuleWordIsFull ProjectFullIsActive
some_schedule i instance r =
    let key = some_key i.project.network instance.project.network r in
    let starts : List ℕ = serial (problem_of i) (rule_list (problem_of i) key.0) in
    let full = rule_word_is_full i key.0 instance in
    (starts, (key.0, key.1, refl), subst (IsActive (problem_of i)) full.1 (full_is_active i (rule_word i key.0) instance full.0))

-- ---- by when the schedule of a word ends

pub full_word_ends : (i : Planned) (w : List ℕ) → IsInstance i → IsFullWord i w → AllEndBy (problem_of i) (starts_by i w) latest_end
unfolding serial
full_word_ends i w instance full =
    (made (problem_of i) w (starts_by i w) (unplaced (count (problem_of i))) (placed_by i w)
    (bounded i instance) ((word_turns i _ w full.0).from_one, full_list i w full) refl refl
    (word_ends i w instance full.0) refl).ends
