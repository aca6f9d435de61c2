-- Reasons: where all literals of their clauses fail, a list of starts isn't a plan.
use Rattle.std.proofs.Common.{◌≡◌, ◌∙◌, ℕ, ◌+◌, ◌-◌, ◌*◌, ◌≤◌, ◌<◌, ◌⊎◌, inl, inr, List, [], ◌∷◌, ◌++◌, nat_le, take, length, get_or, sym, ap, subst, arith}
use Rattle.std.specs.List.{All, AllPairs}
use Rattle.std.proofs.lemmas.Bool.{cases_eq, cases_Bool, cond-true, cond-false, leb-true, leb-false}
use Rattle.std.proofs.lemmas.List.Elements.{All-contains, All-more, All-weaker, Contains-append_left, Contains-push, Contains-get_or}
use Rattle.std.proofs.lemmas.List.{take_more, get_or-take, length-take, get_or_default}
use Rattle.std.proofs.lemmas.List.Quantifiers.{all_pairs_push}
use Rattle.plan_sgs.specs.Problem.{Problem, count, duration, need, total}
use Rattle.plan_sgs.proofs.TotalLemmas.{greatest_above}
use Rattle.plan_kernel.specs.declared.literal.TheConstants.{LIMIT}
use Rattle.plan_kernel.specs.declared.literal.Literal.{Literal}
use Rattle.plan_kernel.specs.declared.input.Arc.{Arc}
use Rattle.plan_kernel.specs.declared.input.Order.{Order}
use Rattle.plan_kernel.specs.declared.input.Input.{Input}
use Rattle.plan_kernel.specs.declared.reason.Member.{Member}
use Rattle.plan_kernel.specs.declared.reason.OrderAt.{OrderAt}
use Rattle.plan_kernel.specs.Inputs.{problem_of, KeepsArc, amount_at}
use Rattle.plan_kernel.specs.Plans.{reach_of, cost}
use Rattle.plan_kernel.specs.Literals.{at, order_of, quantity, Fails}
use Rattle.plan_kernel.specs.Clauses.{IsShorter}
use Rattle.plan_kernel.specs.Reasons.{IsWritable, IsOrder, pair_of, at_least, below, AreApart, IsMember, AreMembers, IsOverloaded, IsWithin}
use Rattle.plan_kernel.proofs.InputLemmas.{count_is, arc_kept, duration_is}
use Rattle.plan_kernel.proofs.LevelLemmas.{quantity_within, quantity_start, quantity_cost, quantity_order, level_even, level_odd}
use Rattle.plan_kernel.proofs.EnergyLemmas.{window_need, energy_within, overlap_within}

-- no member in particular
abbrev pub no_member : Member
no_member = record { activity = 0; time = 0 }

-- where all literals fail, so do the last one and those before it
pub fails_last : (P : Literal → Type 0) (old new : List Literal) (l : Literal) → new ≡ old ++ l ∷ [] → All P new → P l × All P old
fails_last P old new l is all =
    let both : All P (old ++ l ∷ []) = subst (λ (xs : List Literal). All P xs) is all in (
      All-contains P (old ++ l ∷ []) l both (Contains-push old l),
      λ k d inside. All-contains P (old ++ l ∷ []) (get_or old k d) both (Contains-append_left old (l ∷ []) (get_or old k d) (Contains-get_or old k d inside)),
    )

-- the literal that a quantity is at least a value fails where it is below it
pub least_fails : (input : Input) (starts : List ℕ) (x value : ℕ) → Fails input starts (at_least x value) → quantity input starts x < value
least_fails input starts x value fails = omega (arith, fails, level_even input starts x)

-- and the other way round
pub below_fails : (input : Input) (starts : List ℕ) (x value : ℕ) → IsShorter input LIMIT starts → Fails input starts (below x value) → value ≤ quantity input starts x
below_fails input starts x value short fails = omega (arith, fails, level_odd input starts x, quantity_within input LIMIT starts x short (omega arith))

-- the same of activities
start_least : (input : Input) (starts : List ℕ) (i value : ℕ) → IsWritable input i → Fails input starts (at_least i value) → at starts i < value
start_least input starts i value is fails = omega (arith, least_fails input starts i value fails, quantity_start input starts i is.0)

start_below : (input : Input) (starts : List ℕ) (i value : ℕ) → IsShorter input LIMIT starts → IsWritable input i → Fails input starts (below i value) → value ≤ at starts i
start_below input starts i value short is fails = omega (arith, below_fails input starts i value short fails, quantity_start input starts i is.0)

-- an arc's clause
pub arc_follows : (input : Input) (starts : List ℕ) (arc : Arc) (k value lasts weight later : ℕ) → IsShorter input LIMIT starts → k < length input.arcs.items
    → arc ≡ get_or input.arcs.items k arc → IsWritable input arc.from → IsWritable input arc.to → lasts ≡ at input.durations.items arc.from → weight ≤ lasts + arc.lag
    → later ≤ value + weight → Fails input starts (below arc.from value) → Fails input starts (at_least arc.to later) → ⊥
arc_follows input starts arc k value lasts weight later short inside is one other duration_at small most early late =
    let kept : KeepsArc (problem_of input) starts arc =
    subst (λ (a : Arc). KeepsArc (problem_of input) starts a) (sym is) (arc_kept input starts k arc short.plan.feasible.arcs inside) in
    omega (arith, kept, duration_at, duration_is input arc.from, small, most, start_below input starts arc.from value short one early, start_least input starts arc.to later other late)

-- the clause of an activity and the cost
pub end_follows : (input : Input) (starts : List ℕ) (i n value lasts later : ℕ) → IsShorter input LIMIT starts → IsWritable input i → n ≡ length input.durations.items
    → lasts ≡ at input.durations.items i → later ≤ value + lasts + at input.tails.items i → Fails input starts (below i value) → Fails input starts (at_least n later) → ⊥
end_follows input starts i n value lasts later short is all duration_at most early late =
    let p = problem_of input in
    let same : n ≡ count p = omega (arith, all, count_is input) in
    let end : reach_of input starts i ≤ cost input starts = greatest_above (count p) (reach_of input starts) i is.0 in
    omega (
      arith,
      end,
      duration_at,
      duration_is input i,
      most,
      start_below input starts i value short is early,
      least_fails input starts n later late,
      ap (quantity input starts) same,
      quantity_cost input starts,
    )

-- the clause of a start
pub start_follows : (input : Input) (starts : List ℕ) (i value : ℕ) → IsShorter input LIMIT starts → IsWritable input i
    → Fails input starts (below i value) → Fails input starts (at_least i value) → ⊥
start_follows input starts i value short is early late = omega (arith, start_below input starts i value short is early, start_least input starts i value is late)

-- an order that is 1
order_one : (p : Problem) (starts : List ℕ) (o : Order) → 1 ≤ order_of p starts o → at starts o.first + duration p o.first ≤ at starts o.second
order_one p starts o one = elim (cases_Bool (nat_le (at starts o.first + duration p o.first) (at starts o.second))) [
  | inl holds ↦ leb-true (at starts o.first + duration p o.first) (at starts o.second) holds
  | inr fails ↦ absurd (omega (arith, one, cond-false {A = ℕ} (nat_le (at starts o.first + duration p o.first) (at starts o.second)) 1 0 fails))
]

-- an order that is 0
order_none : (p : Problem) (starts : List ℕ) (o : Order) → order_of p starts o < 1 → at starts o.second < at starts o.first + duration p o.first
order_none p starts o none = elim (cases_Bool (nat_le (at starts o.first + duration p o.first) (at starts o.second))) [
  | inr fails ↦ leb-false (at starts o.first + duration p o.first) (at starts o.second) fails
  | inl holds ↦ absurd (omega (arith, none, cond-true {A = ℕ} (nat_le (at starts o.first + duration p o.first) (at starts o.second)) 1 0 holds))
]

-- the quantity of an order
quantity_of : (input : Input) (starts : List ℕ) (o : OrderAt) → IsOrder input o → quantity input starts o.quantity ≡ order_of (problem_of input) starts (pair_of o)
quantity_of input starts o (place, is, there, limit) = quantity_order input starts o.quantity place is ∙ ap (order_of (problem_of input) starts) there

-- the clause of an order that is 1
pub before_follows : (input : Input) (starts : List ℕ) (o : OrderAt) (value later : ℕ) → IsShorter input LIMIT starts → IsOrder input o
    → IsWritable input o.first → IsWritable input o.second → later ≤ value + duration (problem_of input) o.first
    → Fails input starts (below o.quantity 1) → Fails input starts (below o.first value) → Fails input starts (at_least o.second later) → ⊥
before_follows input starts o value later short is one other small first early late =
    let before : at starts o.first + duration (problem_of input) o.first ≤ at starts o.second =
    order_one (problem_of input) starts (pair_of o) (omega (arith, below_fails input starts o.quantity 1 short first, quantity_of input starts o is)) in
    omega (arith, before, small, start_below input starts o.first value short one early, start_least input starts o.second later other late)

-- the clause of an order that is 0
pub after_follows : (input : Input) (starts : List ℕ) (o : OrderAt) (value later : ℕ) → IsShorter input LIMIT starts → IsOrder input o
    → IsWritable input o.first → IsWritable input o.second → AreApart (problem_of input) o.first o.second → later ≤ value + duration (problem_of input) o.second
    → Fails input starts (at_least o.quantity 1) → Fails input starts (below o.second value) → Fails input starts (at_least o.first later) → ⊥
after_follows input starts o value later short is one other (differ, lasts, too, (k, resource, much)) small first early late =
    let p = problem_of input in
    let overlap : at starts o.second < at starts o.first + duration p o.first =
    order_none p starts (pair_of o) (omega (arith, least_fails input starts o.quantity 1 first, quantity_of input starts o is)) in
    let before : at starts o.first < at starts o.second + duration p o.second =
    omega (arith, small, start_below input starts o.second value short other early, start_least input starts o.first later one late) in
    omega (arith, much, overlap_within p starts k o.first o.second short.plan.feasible resource differ one.0 other.0 lasts too overlap before)

-- a member whose literals fail is in the window for its time
pub member_within : (input : Input) (from until : ℕ) (m : Member) (starts : List ℕ) → IsMember input from until m → from < until → until ≤ LIMIT
    → IsShorter input LIMIT starts → (from + m.time ≤ duration (problem_of input) m.activity) ⊎ Fails input starts (below m.activity (from + m.time - duration (problem_of input) m.activity))
    → Fails input starts (at_least m.activity (until - m.time + 1)) → IsWithin input from until starts m
member_within input from until m starts is window limit short early late = (
  elim early [
    | inl short_of ↦ omega (arith, short_of)
    | inr fails ↦ omega (arith, start_below input starts m.activity (from + m.time - duration (problem_of input) m.activity) short is.activity fails)
  ],
  omega (arith, is.inside, start_least input starts m.activity (until - m.time + 1) is.activity late),
)

-- the clause of a window
pub energy_follows : (input : Input) (k from until : ℕ) (members : List Member) (starts : List ℕ) → IsOverloaded input k from until members
    → IsShorter input LIMIT starts → All (IsWithin input from until starts) members → ⊥
energy_follows input k from until members starts over short within =
    let p = problem_of input in
    let inside : All (λ m. m.activity < count p) members = All-weaker (IsMember input from until) (λ m. m.activity < count p) (λ m is. is.activity.0) members over.each.each in
    let needs : All (λ m. need p m.activity k * m.time ≤ total (until - from) (λ t. amount_at p starts (from + t) k m.activity)) members =
    λ j d below. let m : Member = get_or members j d in let is : IsMember input from until m = over.each.each j d below in
    let at_m : IsWithin input from until starts m = within j d below in
    window_need p starts k from until m over.window is.lasts is.inside at_m.0 at_m.1 in
    omega (arith, over.more, energy_within input starts k from until members short.plan over.resource over.each.rising inside needs)

-- the clause with the literals of one member more
pub member_fills : (input : Input) (from until : ℕ) (m : Member) (starts : List ℕ) (old middle new : List Literal) (l : Literal) → IsMember input from until m
    → from < until → until ≤ LIMIT → IsShorter input LIMIT starts
    → (All (Fails input starts) middle → All (Fails input starts) old × ((from + m.time ≤ duration (problem_of input) m.activity)
    ⊎ Fails input starts (below m.activity (from + m.time - duration (problem_of input) m.activity))))
    → l ≡ at_least m.activity (until - m.time + 1) → new ≡ middle ++ l ∷ [] → All (Fails input starts) new
    → All (Fails input starts) old × IsWithin input from until starts m
member_fills input from until m starts old middle new l is window limit short early late added fail =
    let last = fails_last (Fails input starts) middle new l added fail in
    let first = early last.1 in
    (first.0, member_within input from until m starts is window limit short first.1 (subst (λ (o : Literal). Fails input starts o) late last.0))

-- one member more is in the window
pub within_more : (input : Input) (from until i : ℕ) (starts : List ℕ) (members : List Member) → i < length members
    → All (IsWithin input from until starts) (take i members) → IsWithin input from until starts (get_or members i no_member)
    → All (IsWithin input from until starts) (take (i + 1) members)
within_more input from until i starts members inside before here = All-more (IsWithin input from until starts) members i no_member inside before here

-- one member more that rises
pub members_more : (input : Input) (from until i : ℕ) (members : List Member) → i < length members → AreMembers input from until (take i members)
    → IsMember input from until (get_or members i no_member)
    → (0 < i → (get_or members (i - 1) no_member).activity < (get_or members i no_member).activity)
    → AreMembers input from until (take (i + 1) members)
members_more input from until i members inside before here rises = record {
  rising = subst (λ (xs : List Member). AllPairs Rising xs) (sym next) (all_pairs_push Rising (take i members) last before.rising below_last);
  each = All-more (IsMember input from until) members i no_member inside before.each here;
} where
  Rising : Member → Member → Type 0
  Rising m o = m.activity < o.activity

  last : Member
  last = get_or members i no_member

  next : take (i + 1) members ≡ take i members ++ last ∷ []
  next = take_more members i no_member inside

  below_last : (k : ℕ) (d : Member) → k < length (take i members) → Rising (get_or (take i members) k d) last
  below_last k d low =
      let short : length (take i members) ≤ i = omega (arith, length-take i members) in
      let low_k : k < i = omega (arith, low, short) in
      let some : 0 < i = omega (arith, low_k) in
      let same : get_or (take i members) k d ≡ get_or members k no_member =
      get_or-take i members k d low_k ∙ get_or_default members k d no_member (omega (arith, low_k, inside)) in
      let upto : (get_or members k no_member).activity ≤ (get_or members (i - 1) no_member).activity = elim (cases_eq k (i - 1)) [
        | inl here ↦ omega (arith, ap (λ (j : ℕ). (get_or members j no_member).activity) here)
        | inr apart ↦
            let within : i - 1 < length (take i members) = omega (arith, some, inside, length-take i members) in
            let less : Rising (get_or (take i members) k no_member) (get_or (take i members) (i - 1) no_member) = before.rising k (i - 1) no_member (omega (arith, apart, low_k)) within in
            let one : get_or (take i members) k no_member ≡ get_or members k no_member = get_or-take i members k no_member low_k in
            let other : get_or (take i members) (i - 1) no_member ≡ get_or members (i - 1) no_member = get_or-take i members (i - 1) no_member (omega (arith, some)) in
            omega (arith, less, ap (λ (m : Member). m.activity) one, ap (λ (m : Member). m.activity) other)
      ] in
      omega (arith, upto, rises some, ap (λ (m : Member). m.activity) same)
