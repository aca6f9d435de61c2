-- Facts: the latest starts below an upper bound, and the ends that are reached.
use Rattle.std.proofs.Common.{◌≡◌, ℕ, ◌+◌, ◌-◌, ◌*◌, ◌≤◌, ◌<◌, ◌⊎◌, inl, inr, List, suc, min, max, Contains, length, get_or, ap, arith}
use Rattle.std.proofs.lemmas.Bool.{cases_eq}
use Rattle.std.proofs.lemmas.List.Elements.{All-contains}
use Rattle.plan_sgs.specs.Problem.{count, duration, greatest_below}
use Rattle.plan_sgs.proofs.TotalLemmas.{greatest_above}
use Rattle.plan_kernel.specs.declared.literal.TheConstants.{LIMIT}
use Rattle.plan_kernel.specs.declared.input.StartWindow.{StartWindow}
use Rattle.plan_kernel.specs.declared.input.Input.{Input}
use Rattle.plan_kernel.specs.Inputs.{problem_of}
use Rattle.plan_kernel.specs.Plans.{KeepsWindow, reach_of, cost}
use Rattle.plan_kernel.specs.Literals.{at, quantity, level}
use Rattle.plan_kernel.specs.Clauses.{AreFacts, IsRaisedTo, IsRaised}
use Rattle.plan_kernel.specs.Kernels.{IsCostReached, AreLatest}
use Rattle.plan_kernel.proofs.InputLemmas.{count_is, duration_is}
use Rattle.plan_kernel.proofs.LevelLemmas.{ends_before, quantity_start, quantity_cost, level_even, level_odd}

-- an activity ends, with its tail, before the upper bound, so that its start leaves at least a value
-- below the limit
pub latest_holds : (input : Input) (upper place value : ℕ) (old new : List ℕ) → upper ≤ LIMIT → place < length input.durations.items → AreFacts input upper old
    → value ≤ LIMIT - upper + 1 + at input.durations.items place + at input.tails.items place → IsRaisedTo old new (2 * place + 1) value → AreFacts input upper new
latest_holds input upper place value old new limit inside are small raised starts short half = elim (raised half) [
  | inl kept ↦ omega (arith, kept, are starts short half)
  | inr (same, most) ↦
      let activity : place < count (problem_of input) = omega (arith, inside, count_is input) in
      omega (
        arith,
        most,
        small,
        limit,
        ap (level input starts) same,
        level_odd input starts place,
        quantity_start input starts place activity,
        ends_before input upper starts place short activity,
        duration_is input place,
      )
]

-- the cost is below the upper bound, so that it leaves at least a value below the limit
pub cost_holds : (input : Input) (upper n value : ℕ) (old new : List ℕ) → upper ≤ LIMIT → n ≡ length input.durations.items → AreFacts input upper old
    → value ≤ LIMIT - upper + 1 → IsRaisedTo old new (2 * n + 1) value → AreFacts input upper new
cost_holds input upper n value old new limit is are small raised starts short half = elim (raised half) [
  | inl kept ↦ omega (arith, kept, are starts short half)
  | inr (same, most) ↦
      let all : n ≡ count (problem_of input) = omega (arith, is, count_is input) in
      omega (
        arith,
        most,
        small,
        limit,
        ap (level input starts) same,
        level_odd input starts n,
        ap (quantity input starts) all,
        quantity_cost input starts,
        short.less,
      )
]

-- the known cost is reached
pub cost_reached : (input : Input) (upper n greatest here new : ℕ) (facts : List ℕ) → n ≡ length input.durations.items → AreFacts input upper facts
    → IsCostReached input upper greatest → here ≡ at facts (2 * n) → new ≡ max greatest here → IsCostReached input upper new
cost_reached input upper n greatest here new facts is are reached fact most starts short =
    let all : n ≡ count (problem_of input) = omega (arith, is, count_is input) in
    omega (
      arith,
      most,
      fact,
      reached starts short,
      are starts short (2 * n),
      level_even input starts n,
      ap (quantity input starts) all,
      quantity_cost input starts,
    )

-- the facts of the activities are not less if facts rise
pub latest_risen : (input : Input) (upper n : ℕ) (old new : List ℕ) → length new ≡ length old → IsRaised old new → AreLatest input upper old n → AreLatest input upper new n
latest_risen input upper n old new same raised are i below inside = omega (arith, are i below (omega (arith, inside, same)), raised (2 * i + 1))

-- a known start with its duration and tail is reached
pub end_reached : (input : Input) (upper place greatest new : ℕ) (facts : List ℕ) → place < length input.durations.items → AreFacts input upper facts
    → IsCostReached input upper greatest → (new ≤ greatest) ⊎ (new ≤ at facts (2 * place) + at input.durations.items place + at input.tails.items place) → IsCostReached input upper new
end_reached input upper place greatest new facts inside are reached less starts short = elim less [
  | inl before ↦ omega (arith, before, reached starts short)
  | inr here ↦
      let p = problem_of input in
      let activity : place < count p = omega (arith, inside, count_is input) in
      let end : reach_of input starts place ≤ cost input starts = greatest_above (count p) (reach_of input starts) place activity in
      omega (arith, here, are starts short (2 * place), level_even input starts place, quantity_start input starts place activity, duration_is input place, end)
]

-- the greatest of one number more, where each is cut at a limit
pub end_more : (f : ℕ → ℕ) (n greatest here new limit : ℕ) → greatest ≡ min (greatest_below n f) limit → here ≡ min (f n) limit → new ≡ max greatest here
    → new ≡ min (greatest_below (n + 1) f) limit
end_more f n greatest here new limit before is most =
    let next : greatest_below (n + 1) f ≡ max (greatest_below n f) (f n) = let same : n + 1 ≡ suc n = omega arith in ap (λ (m : ℕ). greatest_below m f) same in
    omega (arith, before, is, most, next)

-- the fact of one activity more
pub latest_more : (input : Input) (upper place value : ℕ) (old new : List ℕ) → value ≡ min (LIMIT - upper + 1 + at input.durations.items place + at input.tails.items place) 4294967295
    → length new ≡ length old → AreLatest input upper old place → (2 * place + 1 < length new → value ≤ at new (2 * place + 1)) → IsRaised old new
    → AreLatest input upper new (place + 1)
latest_more input upper place value old new is same before risen raised i below inside = elim (cases_eq i place) [
  | inl here ↦
      let there : value ≤ at new (2 * place + 1) = risen (omega (arith, inside, here)) in
      omega (arith, there, is, ap (λ (j : ℕ). at new (2 * j + 1)) here, ap (at input.durations.items) here, ap (at input.tails.items) here)
  | inr apart ↦ omega (arith, before i (omega (arith, below, apart)) (omega (arith, inside, same)), raised (2 * i + 1))
]

-- those of all
pub latest_all : (input : Input) (upper : ℕ) (facts : List ℕ) (n count : ℕ) → count ≤ n → AreLatest input upper facts n → AreLatest input upper facts count
latest_all input upper facts n count most are i below inside = are i (omega (arith, below, most)) inside

-- a start keeps its window, so that it is at least the earliest start
pub earliest_holds : (input : Input) (upper place value : ℕ) (w : StartWindow) (old new : List ℕ) → place < length input.durations.items → Contains input.windows.items w
    → place ≡ w.activity → value ≤ w.earliest → AreFacts input upper old → IsRaisedTo old new (2 * place) value → AreFacts input upper new
earliest_holds input upper place value w old new inside there is small are raised starts short half = elim (raised half) [
  | inl kept ↦ omega (arith, kept, are starts short half)
  | inr (same, most) ↦
      let kept : KeepsWindow starts w = All-contains (KeepsWindow starts) input.windows.items w short.plan.windows there in
      omega (
        arith,
        most,
        small,
        kept.0,
        ap (at starts) is,
        ap (level input starts) same,
        level_even input starts place,
        quantity_start input starts place (omega (arith, inside, count_is input)),
      )
]

-- and leaves below the limit at least what the latest start leaves
pub latest_kept : (input : Input) (upper place value : ℕ) (w : StartWindow) (old new : List ℕ) → place < length input.durations.items → Contains input.windows.items w
    → place ≡ w.activity → value ≤ LIMIT - w.latest → AreFacts input upper old → IsRaisedTo old new (2 * place + 1) value → AreFacts input upper new
latest_kept input upper place value w old new inside there is small are raised starts short half = elim (raised half) [
  | inl kept ↦ omega (arith, kept, are starts short half)
  | inr (same, most) ↦
      let kept : KeepsWindow starts w = All-contains (KeepsWindow starts) input.windows.items w short.plan.windows there in
      omega (
        arith,
        most,
        small,
        kept.1,
        ap (at starts) is,
        ap (level input starts) same,
        level_odd input starts place,
        quantity_start input starts place (omega (arith, inside, count_is input)),
      )
]
