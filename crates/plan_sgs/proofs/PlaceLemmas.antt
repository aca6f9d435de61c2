-- Facts of an instance for placing one of its activities.
use Rattle.std.proofs.Common.{ℕ, ◌≡◌, ◌+◌, ◌-◌, ◌≤◌, ◌<◌, List, length, get_or, map, Option, Some, None, refl, sym, ◌∙◌, ap, arith}
use Rattle.std.specs.List.{slice_get}
use Rattle.std.proofs.lemmas.List.{get_or-map}
use Rattle.plan_net.specs.Network.{duration_of, IsActivity}
use Rattle.plan_profile.specs.Usage.{FitsEmpty, IsEarliest as IsEarliestIn}
use Rattle.plan_sgs.specs.Problem.{Problem, count, duration, capacity, usage, NeedsFit}
use Rattle.plan_sgs.specs.Serial.{release, earliest, unplaced, start_or_zero}
use Rattle.plan_sgs.specs.Instances.{Planned, IsInstance, problem_of}
use Rattle.plan_sgs.specs.Placement.{EndsBy, AllEndBy}
use Rattle.plan_sgs.proofs.Bounds.{IsBounded}
use Rattle.plan_sgs.proofs.AmountLemmas.{usage_ended}
use Rattle.plan_sgs.proofs.InstanceLemmas.{count-problem, duration-problem, need-problem}
use Rattle.plan_sgs.proofs.SerialLemmas.{unplaced_at}
use Rattle.plan_sgs.proofs.StepLemmas.{AreNeeds, IsUsageOf, found_from, earliest_soon}
use Rattle.std.proofs.lemmas.Option.{none-some}

-- the place of an activity
pub activity_place : (i : Planned) (j : ℕ) → IsActivity i.project.network j → j - 1 < count (problem_of i)
activity_place i j activity = omega (arith, activity, count-problem i)

-- its duration
pub duration_place : (i : Planned) (j : ℕ) → IsActivity i.project.network j → duration_of i.project.network j ≡ duration (problem_of i) (j - 1)
duration_place i j activity = sym (duration-problem i (j - 1) j (omega (arith, activity)))

-- its needs
pub needs_place : (i : Planned) (j : ℕ) (row : List ℕ) → IsActivity i.project.network j → slice_get i.project.needs (j - 1) ≡ Some row → AreNeeds (problem_of i) (j - 1) row
needs_place i j row activity here = record { each = λ k. need-problem i (j - 1) j row (omega (arith, activity)) here k }

-- its needs are within the capacities if its duration is positive
pub fits_empty : (p : Problem) (h d : ℕ) (caps row : List ℕ) → NeedsFit p → h < count p → d ≡ duration p h → caps ≡ p.capacities → AreNeeds p h row → 0 < d → FitsEmpty caps row
fits_empty p h d caps row fit inside same_d same_caps needs lasts k within =
    let size : length caps ≡ length p.capacities = ap (λ (xs : List ℕ). length xs) same_caps in
    let cap : get_or caps k 0 ≡ capacity p k = ap (λ (xs : List ℕ). get_or xs k 0) same_caps in
    omega (arith, needs.each k, cap, fit h k inside (omega (arith, lasts, same_d)) (omega (arith, within, size)))

-- it ends in time
pub ends_in_time : (p : Problem) (placed : List (Option ℕ)) (h start d : ℕ) → IsBounded p → h < count p →
    EndsBy p placed 6020000 → d ≡ duration p h → start ≡ earliest p placed h → start + d ≤ 10000000
ends_in_time p placed h start d bounded inside ends same_d is =
    let limit : duration p h ≤ 10000 = bounded.lasting h in
    omega (arith, same_d, is, limit, earliest_soon p placed h 6020000 bounded inside ends)

-- the starts of the activities that have ended by an instant
pub all_end : (p : Problem) (placed : List (Option ℕ)) (last : ℕ) → length placed ≡ count p → EndsBy p placed last → ((i : ℕ) → duration p i ≤ last) → AllEndBy p (map start_or_zero placed) last
all_end p placed last size ends lasting i inside = by_start (get_or placed i None) refl where
  at : get_or (map start_or_zero placed) i 0 ≡ start_or_zero (get_or placed i None)
  at = get_or-map start_or_zero placed i None 0 (omega (arith, inside, size))

  by_start : (start : Option ℕ) → get_or placed i None ≡ start → get_or (map start_or_zero placed) i 0 + duration p i ≤ last
  by_start None is = let none : start_or_zero (get_or placed i None) ≡ 0 = ap start_or_zero is in omega (arith, at, none, lasting i)
  by_start (Some s) is = let here : start_or_zero (get_or placed i None) ≡ s = ap start_or_zero is in omega (arith, at, here, ends i s is)

-- a profile in which nothing is in use holds the empty schedule
pub none_used : (used : ℕ → ℕ → ℕ) (p : Problem) → ((t k : ℕ) → used t k ≡ 0) → IsUsageOf used p (unplaced (count p))
none_used used p none t k within =
    let first : usage p (unplaced (count p)) t k ≡ 0 = usage_ended p (unplaced (count p)) t k (λ i s is. absurd (none-some s (sym (unplaced_at (count p) i) ∙ is))) in
    omega (arith, first, none t k)

-- the result of a profile for an activity is its earliest start
pub start_is : (i : Planned) (used : ℕ → ℕ → ℕ) (caps : List ℕ) (placed : List (Option ℕ)) (j from d t : ℕ)
    (row : List ℕ) → IsInstance i → IsActivity i.project.network j → caps ≡ (problem_of i).capacities →
    d ≡ duration (problem_of i) (j - 1)
    → slice_get i.project.needs (j - 1) ≡ Some row → IsUsageOf used (problem_of i) placed →
    from ≡ release (problem_of i) placed (j - 1) → IsEarliestIn caps used from d row t →
    t ≡ earliest (problem_of i) placed (j - 1)
start_is i used caps placed j from d t row instance activity same_caps same_d here is released found =
    found_from used caps (problem_of i) placed (j - 1) from d t row instance.fit (activity_place i j activity) same_caps same_d (needs_place i j row activity here) is released found
