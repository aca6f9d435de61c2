-- Placement of one more activity at its earliest start, and the facts that it keeps.
use Rattle.std.proofs.Common.{ℕ, max, true, cond, nat_eq, ◌≡◌, ◌≢◌, ◌+◌, ◌-◌, ◌≤◌, ◌<◌, ◌⊎◌, inl, inr, List, [], ◌∷◌, length, get_or, set, Option, Some, None, refl, sym, ◌∙◌, ap, subst, arith, get_or-set_same, get_or-set_other}
use Rattle.std.specs.List.{All, fold}
use Rattle.std.proofs.lemmas.List.{length-set, get_or-map}
use Rattle.std.proofs.lemmas.List.Elements.{All-nil, All-cons, All-head, All-tail}
use Rattle.std.proofs.lemmas.Bool.{cases_lt, cases_eq, cond_both, cond-true, eqb-true, eq-eqb}
use Rattle.std.proofs.lemmas.Option.{none-some, same_Some}
use Rattle.plan_sgs.specs.Problem.{Problem, Link, count, duration, need, capacity, amount_of, usage, all_placed, IsFeasible, KeepsCapacities, NeedsFit}
use Rattle.plan_sgs.specs.Serial.{release, end_of, end_from, fits, earliest, IsEarliest}
use Rattle.plan_sgs.proofs.TotalLemmas.{total_grows, total_changed}
use Rattle.plan_sgs.proofs.AmountLemmas.{fits_at, fits_from, amount_ended, amount_before, amount_during, earliest_is}

-- the least start so far, raised by a link
abbrev pub later : Problem → List (Option ℕ) → ℕ → ℕ → Link → ℕ
later p placed j m a = cond (nat_eq a.to j) (max m (end_of p placed a.from + a.lag)) m

later_first : (p : Problem) (placed : List (Option ℕ)) (j m : ℕ) (a : Link) → m ≤ later p placed j m a
later_first p placed j m a = cond_both (nat_eq a.to j) (max m (end_of p placed a.from + a.lag)) m (λ x. m ≤ x) (λ yes. omega arith) (λ no. omega arith)

fold_first : (p : Problem) (placed : List (Option ℕ)) (j m : ℕ) (links : List Link) → m ≤ fold (later p placed j) m links
fold_first p placed j m [] = omega arith
fold_first p placed j m (a ∷ links) = omega (arith, later_first p placed j m a, fold_first p placed j (later p placed j m a) links)

later_above : (p : Problem) (placed : List (Option ℕ)) (j m : ℕ) (a : Link) → a.to ≡ j → end_of p placed a.from + a.lag ≤ later p placed j m a
later_above p placed j m a to =
    let is : later p placed j m a ≡ max m (end_of p placed a.from + a.lag) = cond-true (nat_eq a.to j) (max m (end_of p placed a.from + a.lag)) m (eq-eqb a.to j to) in
    omega (arith, is)

fold_above : (p : Problem) (placed : List (Option ℕ)) (j m : ℕ) (links : List Link) → All (λ a. a.to ≡ j → end_of p placed a.from + a.lag ≤ fold (later p placed j) m links) links
fold_above p placed j m [] = All-nil (λ a. a.to ≡ j → end_of p placed a.from + a.lag ≤ m)
fold_above p placed j m (a ∷ links) =
    let after : later p placed j m a ≤ fold (later p placed j) (later p placed j m a) links = fold_first p placed j (later p placed j m a) links in
    All-cons (λ b. b.to ≡ j → end_of p placed b.from + b.lag ≤ fold (later p placed j) (later p placed j m a) links) a links
    (λ to. omega (arith, after, later_above p placed j m a to)) (fold_above p placed j (later p placed j m a) links)

fold_least : (p : Problem) (placed : List (Option ℕ)) (j u m : ℕ) (links : List Link) → m ≤ u → All (λ a. a.to ≡ j → end_of p placed a.from + a.lag ≤ u) links → fold (later p placed j) m links ≤ u
fold_least p placed j u m [] low all = low
fold_least p placed j u m (a ∷ links) low all =
    fold_least p placed j u (later p placed j m a) links
    (cond_both (nat_eq a.to j) (max m (end_of p placed a.from + a.lag)) m (λ x. x ≤ u)
    (λ yes. omega (
      arith,
      low,
      All-head (λ b. b.to ≡ j → end_of p placed b.from + b.lag ≤ u) a links all
          (eqb-true a.to j yes),
    )) (λ no. low))
    (All-tail (λ b. b.to ≡ j → end_of p placed b.from + b.lag ≤ u) a links all)

-- a release is no earlier than each predecessor's end and lag, and is the least such
pub release_above : (p : Problem) (placed : List (Option ℕ)) (j : ℕ) → All (λ a. a.to ≡ j → end_of p placed a.from + a.lag ≤ release p placed j) p.links
release_above p placed j = fold_above p placed j 0 p.links

pub release_least : (p : Problem) (placed : List (Option ℕ)) (j u : ℕ) → All (λ a. a.to ≡ j → end_of p placed a.from + a.lag ≤ u) p.links → release p placed j ≤ u
release_least p placed j u all = fold_least p placed j u 0 p.links (omega arith) all

-- the end of a placed activity
pub end_of-placed : (p : Problem) (placed : List (Option ℕ)) (i s : ℕ) → get_or placed i None ≡ Some s → end_of p placed i ≡ s + duration p i
end_of-placed p placed i s is = ap (end_from (duration p i)) is

-- placing one more adds its amount
pub usage_set : (p : Problem) (placed : List (Option ℕ)) (j t u k : ℕ) → length placed ≡ count p →
    j < count p → get_or placed j None ≡ None → usage p placed u k + amount_of p u k j (Some t) ≡ usage p
    (set placed j (Some t)) u k
unfolding usage
usage_set p placed j t u k size inside open_place =
    total_changed (count p) (λ i. amount_of p u k i (get_or placed i None)) (λ i. amount_of p u k i (get_or (set placed j (Some t)) i None)) j (amount_of p u k j (Some t)) inside
    (λ i below other. ap (amount_of p u k i) (sym (get_or-set_other placed j i (Some t) None other)))
    (let before : amount_of p u k j (get_or placed j None) ≡ 0 = ap (amount_of p u k j) open_place in
    let after : amount_of p u k j (get_or (set placed j (Some t)) j None) ≡ amount_of p u k j (Some t) =
    ap (amount_of p u k j) (get_or-set_same placed j (Some t) None (omega (arith, size, inside))) in
    omega (arith, before, after))

-- placing an activity where it fits keeps the capacities
pub keeps_set : (p : Problem) (placed : List (Option ℕ)) (j t : ℕ) → length placed ≡ count p → j < count p →
    get_or placed j None ≡ None → KeepsCapacities p placed → fits p placed j t ≡ true →
    KeepsCapacities p (set placed j (Some t))
keeps_set p placed j t size inside open_place keeps fit u k within = by_time (cases_lt u t) (cases_lt u (t + duration p j)) where
  more : usage p placed u k + amount_of p u k j (Some t) ≡ usage p (set placed j (Some t)) u k
  more = usage_set p placed j t u k size inside open_place

  by_time : (u < t) ⊎ (t ≤ u) → (u < t + duration p j) ⊎ (t + duration p j ≤ u) → usage p (set placed j (Some t)) u k ≤ capacity p k
  by_time (inl early) other = omega (arith, more, amount_before p u k j t early, keeps u k within)
  by_time (inr begun) (inr ended) = omega (arith, more, amount_ended p u k j (Some t) (λ s is. omega (arith, same_Some t s is, ended)), keeps u k within)
  by_time (inr begun) (inl runs) =
      let place : t + (u - t) ≡ u = omega (arith, begun) in
      let here : usage p placed (t + (u - t)) k + need p j k ≤ capacity p k = fits_at p placed j t (u - t) k fit (omega (arith, begun, runs)) within in
      let there : usage p placed u k + need p j k ≤ capacity p k = subst (λ (v : ℕ). usage p placed v k + need p j k ≤ capacity p k) place here in
      omega (arith, more, there, amount_during p u k j t begun runs)

-- the predecessors of an activity are placed
abbrev pub IsReady : Problem → List (Option ℕ) → ℕ → Type 0
IsReady p placed j = All (λ a. a.to ≡ j → (s : ℕ) × (get_or placed a.from None ≡ Some s)) p.links

-- The placed activities keep capacities and links, predecessors are placed first, and in no
-- feasible list does one of them start earlier if the others start as here.
pub record IsPartial (p : Problem) (placed : List (Option ℕ)) : Type 0 where
  pub size : length placed ≡ count p
  pub capacities : KeepsCapacities p placed
  pub links : All (λ a. (s t : ℕ) → get_or placed a.from None ≡ Some s → get_or placed a.to None ≡ Some t → s + duration p a.from + a.lag ≤ t) p.links
  pub before : All (λ a. (t : ℕ) → get_or placed a.to None ≡ Some t → (s : ℕ) × (get_or placed a.from None ≡ Some s)) p.links
  pub left : (j t : ℕ) → get_or placed j None ≡ Some t → (other : List ℕ) → IsFeasible p other → ((i s : ℕ) → i ≢ j → get_or placed i None ≡ Some s → get_or other i 0 ≡ s) → t ≤ get_or other j 0

-- the entry at an index after another one was written
pub set_cases : (placed : List (Option ℕ)) (j t i s : ℕ) → j < length placed → get_or (set placed j (Some t)) i None ≡ Some s → ((i ≡ j) × (t ≡ s)) ⊎ ((i ≢ j) × (get_or placed i None ≡ Some s))
set_cases placed j t i s inside is = elim (cases_eq i j) [
  | inl same ↦
      let here : get_or (set placed j (Some t)) j None ≡ Some s = subst (λ (x : ℕ). get_or (set placed j (Some t)) x None ≡ Some s) same is in
      inl (same, same_Some t s (sym (get_or-set_same placed j (Some t) None inside) ∙ here))
  | inr other ↦ inr (other, sym (get_or-set_other placed j i (Some t) None other) ∙ is)
]

-- the need is at most a limit if it is so whenever the activity is placed
amount_least : (p : Problem) (t k i most : ℕ) (start : Option ℕ) → ((s : ℕ) → start ≡ Some s → amount_of p t k i (Some s) ≤ most) → amount_of p t k i start ≤ most
amount_least p t k i most None limit = omega arith
amount_least p t k i most (Some s) limit = limit s refl

-- One more activity fits at its start in a list of starts that keeps the capacities, if the placed
-- activities need no more from that instant on than in the list.
pub fits_beside : (p : Problem) (placed : List (Option ℕ)) (other : List ℕ) (j : ℕ) →
    length placed ≡ count p → length other ≡ count p → j < count p → get_or placed j None ≡ None →
    KeepsCapacities p (all_placed other)
    → ((i s t k : ℕ) → get_or placed i None ≡ Some s → get_or other j 0 ≤ t → amount_of p t k i (Some s) ≤ amount_of p t k i (Some (get_or other i 0))) → fits p placed j (get_or other j 0) ≡ true
unfolding usage
fits_beside p placed other j size other_size inside open_place keeps less = fits_from p placed j (get_or other j 0) (λ x k low within.
    let more : usage p placed (get_or other j 0 + x) k + amount_of p (get_or other j 0 + x) k j
    (Some (get_or other j 0)) ≡ usage p (set placed j (Some (get_or other j 0)))
    (get_or other j 0 + x) k = usage_set p placed j (get_or other j 0)
    (get_or other j 0 + x) k size inside open_place in
    let all : usage p (set placed j (Some (get_or other j 0))) (get_or other j 0 + x) k ≤ usage p (all_placed other) (get_or other j 0 + x) k = grows (get_or other j 0 + x) k (omega arith) in
    let runs : amount_of p (get_or other j 0 + x) k j (Some (get_or other j 0)) ≡ need p j k = amount_during p (get_or other j 0 + x) k j (get_or other j 0) (omega arith) (omega (arith, low)) in
    omega (arith, more, all, runs, keeps (get_or other j 0 + x) k within)) where
      each : (t k i : ℕ) → get_or other j 0 ≤ t → i < count p → amount_of p t k i (get_or (set placed j (Some (get_or other j 0))) i None) ≤ amount_of p t k i (Some (get_or other i 0))
      each t k i late below = elim (cases_eq i j) [
        | inr apart ↦
            amount_least p t k i (amount_of p t k i (Some (get_or other i 0))) (get_or (set placed j (Some (get_or other j 0))) i None)
            (λ s is. less i s t k (sym (get_or-set_other placed j i (Some (get_or other j 0)) None apart) ∙ is) late)
        | inl same ↦
            let here : get_or (set placed j (Some (get_or other j 0))) i None ≡ Some (get_or other i 0) =
            subst (λ (x : ℕ). get_or (set placed j (Some (get_or other j 0))) x None ≡ Some
            (get_or other x 0)) (sym same) (get_or-set_same placed j (Some (get_or other j 0)) None
            (omega (arith, size, inside))) in
            let equal : amount_of p t k i (get_or (set placed j (Some (get_or other j 0))) i None) ≡ amount_of p t k i (Some (get_or other i 0)) = ap (amount_of p t k i) here in
            omega (arith, equal)
      ]

      grows : (t k : ℕ) → get_or other j 0 ≤ t → usage p (set placed j (Some (get_or other j 0))) t k ≤ usage p (all_placed other) t k
      grows t k late = total_grows (count p) (λ i. amount_of p t k i (get_or (set placed j (Some (get_or other j 0))) i None)) (λ i. amount_of p t k i (get_or (all_placed other) i None)) (λ i below.
          let there : get_or (all_placed other) i None ≡ Some (get_or other i 0) = get_or-map Some other i 0 None (omega (arith, other_size, below)) in
          let equal : amount_of p t k i (get_or (all_placed other) i None) ≡ amount_of p t k i (Some (get_or other i 0)) = ap (amount_of p t k i) there in
          omega (arith, equal, each t k i late below))

-- in a list of starts that keeps the links, no activity starts before its release, if its
-- predecessors are placed no later than there
pub release_beside : (p : Problem) (placed : List (Option ℕ)) (other : List ℕ) (j : ℕ) → All (λ a. get_or other a.from 0 + duration p a.from + a.lag ≤ get_or other a.to 0) p.links → IsReady p placed j
    → ((i s : ℕ) → get_or placed i None ≡ Some s → s ≤ get_or other i 0) → release p placed j ≤ get_or other j 0
release_beside p placed other j keeps ready early = release_least p placed j (get_or other j 0) (λ k d within to.
    let a = get_or p.links k d in
    let from = ready k d within to in
    let start : from.0 ≤ get_or other (get_or p.links k d).from 0 = early (get_or p.links k d).from from.0 from.1 in
    let same : get_or other (get_or p.links k d).to 0 ≡ get_or other j 0 = ap (λ (x : ℕ). get_or other x 0) to in
    omega (arith, end_of-placed p placed (get_or p.links k d).from from.0 from.1, start, same, keeps k d within))

-- the facts that one placement keeps
pub partial_set : (p : Problem) (placed : List (Option ℕ)) (j : ℕ) → NeedsFit p → IsPartial p placed →
    j < count p → get_or placed j None ≡ None → IsReady p placed j →
    IsPartial p (set placed j (Some (earliest p placed j)))
partial_set p placed j fit partial inside open_place ready = record {
  size = length-set placed j (Some (earliest p placed j)) ∙ partial.size;
  capacities = keeps_set p placed j (earliest p placed j) partial.size inside open_place partial.capacities least.fitting;
  links = links;
  before = before;
  left = left;
} where
  least : IsEarliest p placed j (earliest p placed j)
  least = earliest_is p placed j fit inside

  within : j < length placed
  within = omega (arith, partial.size, inside)

  -- a placed activity differs from one that isn't placed
  apart : (i s : ℕ) → get_or placed i None ≡ Some s → i ≢ j
  apart i s is same = none-some s (sym open_place ∙ (ap (λ (x : ℕ). get_or placed x None) (sym same) ∙ is))

  kept : (i s : ℕ) → get_or placed i None ≡ Some s → get_or (set placed j (Some (earliest p placed j))) i None ≡ Some s
  kept i s is = get_or-set_other placed j i (Some (earliest p placed j)) None (apart i s is) ∙ is

  links : All (λ a. (s t : ℕ) → get_or (set placed j (Some (earliest p placed j))) a.from None ≡ Some s →
      get_or (set placed j (Some (earliest p placed j))) a.to None ≡ Some t →
      s + duration p a.from + a.lag ≤ t) p.links
  links k d low s t from_is to_is =
      let a = get_or p.links k d in
      let from = set_cases placed j (earliest p placed j) (get_or p.links k d).from s within from_is in
      elim (set_cases placed j (earliest p placed j) (get_or p.links k d).to t within to_is) [
        | inl to ↦
            let pred = ready k d low to.0 in
            elim from [
              | inl here ↦ absurd (apart (get_or p.links k d).from pred.0 pred.1 here.0)
              | inr there ↦ omega (arith, end_of-placed p placed (get_or p.links k d).from s there.1, release_above p placed j k d low to.0, least.released, to.1)
            ]
        | inr to ↦
            elim from [
              | inl here ↦ let pred = partial.before k d low t to.1 in absurd (apart (get_or p.links k d).from pred.0 pred.1 here.0)
              | inr there ↦ partial.links k d low s t there.1 to.1
            ]
      ]

  before : All (λ a. (t : ℕ) → get_or (set placed j (Some (earliest p placed j))) a.to None ≡ Some t → (s : ℕ) × (get_or (set placed j (Some (earliest p placed j))) a.from None ≡ Some s)) p.links
  before k d low t to_is = elim (set_cases placed j (earliest p placed j) (get_or p.links k d).to t within to_is) [
    | inl to ↦ let pred = ready k d low to.0 in (pred.0, kept (get_or p.links k d).from pred.0 pred.1)
    | inr to ↦ let pred = partial.before k d low t to.1 in (pred.0, kept (get_or p.links k d).from pred.0 pred.1)
  ]

  here_least : (other : List ℕ) → IsFeasible p other → ((i s : ℕ) → get_or placed i None ≡ Some s → get_or other i 0 ≡ s) → earliest p placed j ≤ get_or other j 0
  here_least other feasible agree =
      least.least (get_or other j 0)
      (release_beside p placed other j feasible.arcs ready (λ i s is. omega (arith, agree i s is)))
      (fits_beside p placed other j partial.size feasible.each_started inside open_place feasible.capacities (λ i s t k is late.
      let equal : amount_of p t k i (Some s) ≡ amount_of p t k i (Some (get_or other i 0)) = ap (λ (x : ℕ). amount_of p t k i (Some x)) (sym (agree i s is)) in
      omega (arith, equal)))

  left : (i t : ℕ) → get_or (set placed j (Some (earliest p placed j))) i None ≡ Some t → (other : List ℕ) →
      IsFeasible p other → ((h s : ℕ) → h ≢ i → get_or
      (set placed j (Some (earliest p placed j))) h None ≡ Some s → get_or other h 0 ≡ s) →
      t ≤ get_or other i 0
  left i t is other feasible agree = elim (set_cases placed j (earliest p placed j) i t within is) [
    | inl here ↦
        let low : earliest p placed j ≤ get_or other j 0 = here_least other feasible (λ h s there. agree h s (λ same. apart h s there (same ∙ here.0)) (kept h s there)) in
        omega (arith, low, here.1, ap (λ (x : ℕ). get_or other x 0) here.0)
    | inr there ↦ partial.left i t there.1 other feasible (λ h s other_place placed_there. agree h s other_place (kept h s placed_there))
  ]
