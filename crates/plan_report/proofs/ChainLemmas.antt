-- Chains, from the activities that were reached.
use Rattle.std.proofs.Common.{ℕ, zero, suc, ◌≡◌, ◌+◌, ◌-◌, ◌≤◌, ◌<◌, inl, inr, List, [], ◌∷◌, ◌++◌, length, get_or, None, refl, sym, ◌∙◌, ap, subst, arith}
use Rattle.std.specs.Prelude.{All}
use Rattle.std.proofs.lemmas.Bool.{cases_eq}
use Rattle.std.proofs.lemmas.List.{length_push, get_or_append_left, get_or_push}
use Rattle.std.proofs.lemmas.List.Elements.{All-from_get_or}
use Rattle.plan_sgs.specs.Problem.{Problem, count, duration, makespan}
use Rattle.plan_report.specs.Chain.{IsChain, NoChain, Leads, IsLinked, IsListed, AreAllReached}

-- the activities of a chain are reached, the last one first
chain_listed : (p : Problem) (s slacks reached nexts chain : List ℕ) → AreAllReached p s slacks reached nexts → IsChain p s slacks chain
    → (n m : ℕ) → n + (m + 1) ≡ length chain → IsListed reached (get_or chain m 0)
chain_listed p s slacks reached nexts chain all is zero m left =
    let below : m < length chain = omega (arith, left) in
    let inside = is.inside m below in
    let place : get_or chain m 0 - 1 + 1 ≡ get_or chain m 0 = omega (arith, inside.0) in
    let last : length chain - 1 ≡ m = omega (arith, left) in
    subst (IsListed reached) place (all.ends (get_or chain m 0 - 1) (omega (arith, inside.0, inside.1)) (is.tight m below)
    (subst (λ (x : ℕ). get_or s (get_or chain x 0 - 1) 0 + duration p (get_or chain x 0 - 1) ≡ makespan p s) last is.last))
chain_listed p s slacks reached nexts chain all is (suc n) m left =
    let below : m < length chain = omega (arith, left) in
    let inside = is.inside m below in
    let place : get_or chain m 0 - 1 + 1 ≡ get_or chain m 0 = omega (arith, inside.0) in
    let next = chain_listed p s slacks reached nexts chain all is n (m + 1) (omega (arith, left)) in
    let linked : IsLinked p s (get_or chain m 0 - 1) (get_or chain (m + 1) 0 - 1) = is.linked m (omega (arith, left)) in
    subst (IsListed reached) place (all.closed next.0 (get_or chain m 0 - 1) next.1 (omega (arith, inside.0, inside.1)) (is.tight m below)
    (subst (λ (x : ℕ). IsLinked p s (get_or chain m 0 - 1) (x - 1)) (sym next.2) linked))

-- if none of the activities that were reached starts at 0, there is no chain
pub no_chain : (p : Problem) (s slacks reached nexts : List ℕ) → AreAllReached p s slacks reached nexts → ((m : ℕ) → m < length reached
    → get_or s (get_or reached m 0 - 1) 0 ≡ 0 → ⊥) → NoChain p s slacks
no_chain p s slacks reached nexts all none chain is =
    let first = chain_listed p s slacks reached nexts chain all is (length chain - 1) 0 (omega (arith, is.some)) in
    none first.0 first.1 (subst (λ (x : ℕ). get_or s (x - 1) 0 ≡ 0) (sym first.2) is.first)

-- a chain without its end: the activities from one that starts at 0
pub record IsStretch (p : Problem) (s slacks stretch : List ℕ) : Type 0 where
  pub some : 1 ≤ length stretch
  pub inside : (m : ℕ) → m < length stretch → (1 ≤ get_or stretch m 0) × (get_or stretch m 0 ≤ count p)
  pub tight : (m : ℕ) → m < length stretch → get_or slacks (get_or stretch m 0 - 1) 0 ≡ 0
  pub first : get_or s (get_or stretch 0 0 - 1) 0 ≡ 0
  pub linked : (m : ℕ) → m + 1 < length stretch → IsLinked p s (get_or stretch m 0 - 1) (get_or stretch (m + 1) 0 - 1)

-- one more activity, which the last one lets start
pub stretch_push : (p : Problem) (s slacks stretch : List ℕ) (x y : ℕ) → IsStretch p s slacks (stretch ++ x ∷ []) → (1 ≤ y) × (y ≤ count p) → get_or slacks (y - 1) 0 ≡ 0 → IsLinked p s (x - 1) (y - 1)
    → IsStretch p s slacks ((stretch ++ x ∷ []) ++ y ∷ [])
stretch_push p s slacks stretch x y is inside free linked = record {
  some = omega (arith, longer);
  inside = λ m below. each (λ z. (1 ≤ z) × (z ≤ count p)) m below (is.inside m) inside;
  tight = λ m below. each (λ z. get_or slacks (z - 1) 0 ≡ 0) m below (is.tight m) free;
  first = subst (λ (z : ℕ). get_or s (z - 1) 0 ≡ 0) (sym (get_or_append_left before (y ∷ []) 0 0 (omega (arith, is.some)))) is.first;
  linked = λ m below. elim (cases_eq (m + 1) (length before)) [
    | inl last ↦
        let at : m ≡ length stretch = omega (arith, last, length_push stretch x) in
        let a : x ≡ get_or (before ++ y ∷ []) m 0 = sym (get_or_append_left before (y ∷ []) 0 m (omega (arith, last)) ∙ get_or_push stretch x 0 m (sym at)) in
        let b : y ≡ get_or (before ++ y ∷ []) (m + 1) 0 = sym (get_or_push before y 0 (m + 1) (sym last)) in
        subst (λ (z : ℕ). IsLinked p s (get_or (before ++ y ∷ []) m 0 - 1) (z - 1)) b (subst (λ (z : ℕ). IsLinked p s (z - 1) (y - 1)) a linked)
    | inr other ↦
        let low : m + 1 < length before = omega (arith, below, other, longer) in
        let a = sym (get_or_append_left before (y ∷ []) 0 m (omega (arith, low))) in
        let b = sym (get_or_append_left before (y ∷ []) 0 (m + 1) low) in
        subst (λ (z : ℕ). IsLinked p s (get_or (before ++ y ∷ []) m 0 - 1) (z - 1)) b (subst (λ (z : ℕ). IsLinked p s (z - 1) (get_or before (m + 1) 0 - 1)) a (is.linked m low))
  ];
} where
  before : List ℕ
  before = stretch ++ x ∷ []

  longer : length (before ++ y ∷ []) ≡ length before + 1
  longer = length_push before y

  each : (P : ℕ → Type 0) (m : ℕ) → m < length (before ++ y ∷ []) → (m < length before → P (get_or before m 0)) → P y → P (get_or (before ++ y ∷ []) m 0)
  each P m below old new = elim (cases_eq m (length before)) [
    | inl last ↦ subst P (sym (get_or_push before y 0 m (sym last))) new
    | inr other ↦
        let low : m < length before = omega (arith, below, other, longer) in
        subst P (sym (get_or_append_left before (y ∷ []) 0 m low)) (old low)
  ]

-- a stretch whose last activity ends the schedule is a chain
pub chain_from_stretch : (p : Problem) (s slacks stretch : List ℕ) (x : ℕ) → IsStretch p s slacks (stretch ++ x ∷ []) → Leads p s None (x - 1) → IsChain p s slacks (stretch ++ x ∷ [])
chain_from_stretch p s slacks stretch x is ends =
    let at : length (stretch ++ x ∷ []) - 1 ≡ length stretch = omega (arith, length_push stretch x) in
    let last : x ≡ get_or (stretch ++ x ∷ []) (length (stretch ++ x ∷ []) - 1) 0 = sym (ap (λ (m : ℕ). get_or (stretch ++ x ∷ []) m 0) at ∙ get_or_push stretch x 0 (length stretch) refl) in
    record {
      some = is.some;
      inside = is.inside;
      tight = is.tight;
      first = is.first;
      last = subst (λ (z : ℕ). get_or s (z - 1) 0 + duration p (z - 1) ≡ makespan p s) last ends;
      linked = is.linked;
    }

-- the next one of an activity that has one
pub follow_next : (p : Problem) (s slacks reached nexts stretch : List ℕ) (m : ℕ) → AreAllReached p s slacks reached nexts → m < length reached → get_or nexts m 0 < m
    → IsStretch p s slacks (stretch ++ get_or reached m 0 ∷ []) → IsStretch p s slacks ((stretch ++ get_or reached m 0 ∷ []) ++ get_or reached (get_or nexts m 0) 0 ∷ [])
follow_next p s slacks reached nexts stretch m all below later is =
    let here = all.sound m below in
    let next = all.sound (get_or nexts m 0) (omega (arith, below, later)) in
    elim here.leads [
      | inl own ↦ absurd (omega (arith, own.0, later))
      | inr leads ↦ stretch_push p s slacks stretch (get_or reached m 0) (get_or reached (get_or nexts m 0) 0) is next.inside next.tight leads.1
    ]

-- an activity that has none ends the chain
pub follow_end : (p : Problem) (s slacks reached nexts stretch : List ℕ) (m : ℕ) → AreAllReached p s slacks reached nexts → m < length reached → m ≤ get_or nexts m 0
    → IsStretch p s slacks (stretch ++ get_or reached m 0 ∷ []) → IsChain p s slacks (stretch ++ get_or reached m 0 ∷ [])
follow_end p s slacks reached nexts stretch m all below last is = elim (all.sound m below).leads [
  | inl own ↦ chain_from_stretch p s slacks stretch (get_or reached m 0) is own.1
  | inr leads ↦ absurd (omega (arith, leads.0, last))
]

-- those that were reached are activities
pub reached_inside : (p : Problem) (s slacks reached nexts : List ℕ) (n : ℕ) → AreAllReached p s slacks reached nexts → count p ≡ n → All (λ j. (1 ≤ j) × (j ≤ n)) reached
reached_inside p s slacks reached nexts n all counted =
    All-from_get_or (λ j. (1 ≤ j) × (j ≤ n)) reached 0 (λ m below.
    let here = (all.sound m below).inside in
    (here.0, omega (arith, here.1, counted)))
