-- The changes that steps keep are exactly those of the usage.
use Rattle.std.proofs.Common.{◌≡◌, ◌≢◌, ℕ, zero, suc, ◌-◌, ◌*◌, ◌≤◌, ◌<◌, List, [], ◌∷◌, length, get_or, take, drop, replicate, refl, sym, ◌∙◌, ap, inl, inr, arith}
use Rattle.std.specs.Prelude.{Contains}
use Rattle.std.proofs.lemmas.List.{get_or_past, get_or-replicate, length-replicate, take_all}
use Rattle.std.proofs.lemmas.Bool.{cases_lt, cases_eq}
use Rattle.plan_profile.specs.Usage.{IsChange, used_before}
use Rattle.plan_profile.specs.Steps.{changes_until, lists, amount_at, amount, IsSteps, AreChanges, IsEndedBy}
use Rattle.plan_profile.proofs.SegmentLemmas.{within, until_within, until_mono, until_above, there_at}
use Rattle.plan_profile.proofs.StepLemmas.{amount_is, amount_row}

-- if not all numbers below n agree, some number differs
pub some_differs : (n : ℕ) (f g : ℕ → ℕ) → (((k : ℕ) → k < n → f k ≡ g k) → ⊥) → (k : ℕ) × (k < n) × (f k ≢ g k)
some_differs zero f g differ = absurd (differ (λ k below. absurd (omega arith)))
some_differs (suc n) f g differ =
    elim (cases_eq (f n) (g n)) [
      | inr other ↦ (n, omega arith, other)
      | inl same ↦
          (let rest = some_differs n f g (λ agree. differ (λ k below. elim (cases_eq k n) [
            | inl last ↦ rw last same
            | inr before ↦ agree k (omega arith)
          ])) in
          let below = rest.1 in
          (rest.0, omega arith, rest.2))
    ]

-- beyond the resources there is no amount
pub amount_past : (changes : List ℕ) (rows : List (List ℕ)) (t k : ℕ) → IsSteps changes rows → length (get_or rows 0 []) ≤ k → amount changes rows t k ≡ 0
amount_past changes rows t k steps past =
    let most = until_within changes t in
    let size = steps.one_more in
    let even = steps.even (changes_until changes t) (omega arith) in
    amount_row changes rows t k ∙ get_or_past (get_or rows (changes_until changes t) []) k 0 (omega arith)

before_past : (changes : List ℕ) (rows : List (List ℕ)) (t k : ℕ) → IsSteps changes rows → length (get_or rows 0 []) ≤ k → used_before (amount changes rows) t k ≡ 0
before_past changes rows zero k steps past = refl
before_past changes rows (suc t) k steps past = amount_past changes rows t k steps past

pub change_from_there : (changes : List ℕ) (rows : List (List ℕ)) (n t : ℕ) → IsSteps changes rows → length (get_or rows 0 []) ≡ n → AreChanges changes (amount changes rows)
    → Contains changes t → IsChange n (amount changes rows) t
change_from_there changes rows n t steps wide true_changes there =
    some_differs n (amount changes rows t) (used_before (amount changes rows) t) (λ agree. true_changes t there (λ k. elim (cases_lt k n) [
      | inl below ↦ agree k below
      | inr past ↦ amount_past changes rows t k steps (omega arith) ∙ sym (before_past changes rows t k steps (omega arith))
    ]))

-- an instant that isn't a change has the amounts of the instant before
unchanged : (changes : List ℕ) (rows : List (List ℕ)) (t k : ℕ) → IsSteps changes rows → ((i : ℕ) → i < changes_until changes t → get_or changes i 0 < t)
    → amount changes rows t k ≡ used_before (amount changes rows) t k
unchanged changes rows zero k steps before =
    let none : changes_until changes 0 ≡ 0 = (elim (cases_lt 0 (changes_until changes 0)) [
      | inl some ↦ (let e = before 0 some in omega arith)
      | inr not ↦ omega arith
    ]) in
    amount_is changes rows 0 k 0 none ∙ steps.none_first k
unchanged changes rows (suc t) k steps before =
    let most = until_within changes (suc t) in
    let least = until_above changes t (changes_until changes (suc t)) most (λ i below. let e = before i below in omega arith) in
    let mono = until_mono changes t (suc t) steps.rising (omega arith) in
    amount_row changes rows (suc t) k ∙ ap (λ n. amount_at rows n k) (omega arith) ∙ sym (amount_row changes rows t k)

pub there_from_change : (changes : List ℕ) (rows : List (List ℕ)) (n t : ℕ) → IsSteps changes rows → IsChange n (amount changes rows) t → Contains changes t
there_from_change changes rows n t steps change =
    let most = until_within changes t in
    let last = changes_until changes t - 1 in
    elim (cases_lt 0 (changes_until changes t)) [
      | inr none ↦ absurd (change.2 (unchanged changes rows t change.0 steps (λ i below. absurd (omega arith))))
      | inl some ↦ elim (cases_eq (get_or changes last 0) t) [
        | inl same ↦ there_at changes last t (omega arith) same
        | inr other ↦
            (let came = within changes t last steps.rising (omega arith) in
            absurd (change.2 (unchanged changes rows t change.0 steps (λ i below. elim (cases_lt i last) [
              | inl before ↦ (let r = steps.rising i last before (omega arith) in omega arith)
              | inr not ↦ (let e : i ≡ last = omega arith in let same = ap (λ n. get_or changes n 0) e in omega arith)
            ]))))
      ]
    ]

-- no change comes after the end
pub changes_end : (last : ℕ) (changes : List ℕ) (rows : List (List ℕ)) → IsSteps changes rows → AreChanges changes (amount changes rows) → IsEndedBy last changes rows
    → (t : ℕ) → Contains changes t → t ≤ last
changes_end last changes rows steps true_changes ended zero there = omega arith
changes_end last changes rows steps true_changes ended (suc t) there =
    elim (cases_lt t last) [
      | inl before ↦ omega arith
      | inr after ↦ absurd (true_changes (suc t) there (λ k. ended (suc t) k (omega arith) ∙ sym (ended t k after)))
    ]

-- the one row of a profile in which nothing is in use
abbrev pub zero_row : ℕ → List ℕ
zero_row width = replicate width 0

zero_row-get_or : (width k : ℕ) → get_or (zero_row width) k 0 ≡ 0
zero_row-get_or width k =
    elim (cases_lt k width) [
      | inl below ↦ get_or-replicate width k 0 0 below
      | inr past ↦ get_or_past (zero_row width) k 0 (let size : length (zero_row width) ≡ width = length-replicate width 0 in omega arith)
    ]

pub zero_amounts : (width t k : ℕ) → amount [] (zero_row width ∷ []) t k ≡ 0
zero_amounts width t k = amount_is [] (zero_row width ∷ []) t k 0 refl ∙ zero_row-get_or width k

pub zero_steps : (width : ℕ) → IsSteps [] (zero_row width ∷ [])
zero_steps width = record {
  one_more = refl;
  even = λ i inside. (let e : i ≡ 0 = omega arith in ap (λ j. length (get_or (zero_row width ∷ []) j [])) e);
  rising = λ i j less inside. absurd (omega arith);
  none_first = zero_row-get_or width;
}

-- the list of one zero row
pub zero_lists : (width : ℕ) → lists width [] (zero_row width) ≡ zero_row width ∷ []
unfolding lists
zero_lists width =
    let none : 0 * width ≡ 0 = omega arith in
    ap (λ (n : ℕ). take width (drop n (zero_row width)) ∷ []) none
    ∙ ap (λ (r : List ℕ). r ∷ []) (take_all width (zero_row width)
    (let size : length (zero_row width) ≡ width = length-replicate width 0 in omega arith))

pub none_change : (changes : List ℕ) (used : ℕ → ℕ → ℕ) → changes ≡ [] → AreChanges changes used
none_change changes used none c there = let inside = there.1 in let size = ap length none in absurd (omega arith)
