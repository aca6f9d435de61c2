-- The usage if all activities have a start.
use Rattle.std.proofs.Common.{ℕ, zero, suc, ◌≡◌, ◌+◌, ◌*◌, ◌≤◌, ◌<◌, ◌⊎◌, inl, inr, ◌&&◌, cond, nat_le, nat_lt, List, length, get_or, Some, None, sym, ◌∙◌, ap, arith}
use Rattle.std.proofs.lemmas.Bool.{cases_lt, cond-true, cond-false, and_from, and_left, and_right, le-leb, lt-leb, lt-ltb, le-ltb}
use Rattle.std.proofs.lemmas.List.{get_or-map}
use Rattle.plan_sgs.specs.Problem.{Problem, count, duration, need, total, amount_of, usage, all_placed, KeepsCapacities}
use Rattle.plan_sgs.specs.Checks.{AreNeedsAt}
use Rattle.plan_profile.specs.Usage.{Fits, used_with}
use Rattle.plan_sgs.proofs.AmountLemmas.{amount_during, amount_before}
use Rattle.plan_sgs.proofs.TotalLemmas.{total_same}

-- the need of an activity of a list of starts at an instant
abbrev pub amount_at : Problem → List ℕ → ℕ → ℕ → ℕ → ℕ
amount_at p s t k i = amount_of p t k i (Some (get_or s i 0))

-- from its end on its need is 0
pub amount_late : (p : Problem) (t k i start : ℕ) → start + duration p i ≤ t → amount_of p t k i (Some start) ≡ 0
amount_late p t k i start late =
    cond-false (nat_le start t && nat_lt t (start + duration p i)) (need p i k) 0
    (and_right (nat_le start t) (nat_lt t (start + duration p i)) (le-ltb t (start + duration p i) late))

-- its need at an instant is at most its need while it lasts
pub amount_most : (p : Problem) (t k i start : ℕ) → amount_of p t k i (Some start) ≤ need p i k
amount_most p t k i start = elim (cases_lt t start) [
  | inl early ↦ omega (arith, amount_before p t k i start early)
  | inr since ↦ elim (cases_lt t (start + duration p i)) [
    | inl before ↦ omega (arith, amount_during p t k i start since before)
    | inr late ↦ omega (arith, amount_late p t k i start late)
  ]
]

-- it needs more than at the instant before at its start alone
pub amount_rise : (p : Problem) (t k i start : ℕ) → amount_of p t k i (Some start) < amount_of p (suc t) k i (Some start) → start ≡ suc t
amount_rise p t k i start rise = elim (cases_lt t start) [
  | inr since ↦ elim (cases_lt t (start + duration p i)) [
    | inl before ↦ absurd (omega (arith, rise, amount_during p t k i start since before, amount_most p (suc t) k i start))
    | inr late ↦ absurd (omega (arith, rise, amount_late p (suc t) k i start (omega (arith, late))))
  ]
  | inl early ↦ elim (cases_lt (suc t) start) [
    | inl still ↦ absurd (omega (arith, rise, amount_before p (suc t) k i start still))
    | inr here ↦ omega (arith, early, here)
  ]
]

-- if it needs something at instant 0, it starts there
pub amount_first : (p : Problem) (k i start : ℕ) → 0 < amount_of p 0 k i (Some start) → start ≡ 0
amount_first p k i start some = elim (cases_lt 0 start) [
  | inl early ↦ absurd (omega (arith, some, amount_before p 0 k i start early))
  | inr here ↦ omega (arith, here)
]

-- from a later start on it needs no less than from an earlier one
pub amount_left : (p : Problem) (t k i start later : ℕ) → start ≤ later → later ≤ t → amount_of p t k i (Some start) ≤ amount_of p t k i (Some later)
amount_left p t k i start later order since = elim (cases_lt t (start + duration p i)) [
  | inl before ↦ omega (arith, amount_most p t k i start, amount_during p t k i later since (omega (arith, before, order)))
  | inr late ↦ omega (arith, amount_late p t k i start late)
]

-- the usage if all activities are placed
pub usage_is : (p : Problem) (s : List ℕ) (t k : ℕ) → length s ≡ count p → usage p (all_placed s) t k ≡ total (count p) (amount_at p s t k)
unfolding usage
usage_is p s t k whole =
    total_same (count p) (λ i. amount_of p t k i (get_or (all_placed s) i None)) (amount_at p s t k)
    (λ i below. ap (amount_of p t k i) (get_or-map Some s i 0 None (omega (arith, below, whole))))

-- a sum over one number more
pub total_next : (n : ℕ) (f : ℕ → ℕ) → total (n + 1) f ≡ total n f + f n
total_next n f = let same : n + 1 ≡ suc n = omega arith in ap (λ (m : ℕ). total m f) same

-- a sum over more numbers is no less
pub total_longer : (m n : ℕ) (f : ℕ → ℕ) → m ≤ n → total m f ≤ total n f
total_longer m zero f order = let same : m ≡ 0 = omega (arith, order) in omega (arith, ap (λ (x : ℕ). total x f) same)
total_longer m (suc n) f order = elim (cases_lt n m) [
  | inl whole ↦ let same : m ≡ suc n = omega (arith, order, whole) in omega (arith, ap (λ (x : ℕ). total x f) same)
  | inr less ↦ omega (arith, total_longer m n f less)
]

-- how much the first n activities need of each resource at an instant
pub record AreSums (p : Problem) (s : List ℕ) (t n : ℕ) (sums : List ℕ) : Type 0 where
  pub wide : length sums ≡ length p.capacities
  pub each : (k : ℕ) → k < length p.capacities → get_or sums k 0 ≡ total n (amount_at p s t k)
  pub limit : (k : ℕ) → get_or sums k 0 ≤ 10000 * n

-- the needs of one activity more
pub sums_with : (p : Problem) (s : List ℕ) (t n : ℕ) (sums row new : List ℕ) → AreSums p s t n sums → get_or s n 0 ≤ t → t < get_or s n 0 + duration p n
    → ((k : ℕ) → need p n k ≡ get_or row k 0) → ((k : ℕ) → get_or row k 0 ≤ 10000) →
    length new ≡ length sums → ((k : ℕ) → get_or new k 0 ≡ get_or sums k 0 + get_or row k 0) →
    AreSums p s t (n + 1) new
sums_with p s t n sums row new are since before needs small wide each = record {
  wide = wide ∙ are.wide;
  each = λ k within. omega (arith, each k, are.each k within, needs k, amount_during p t k n (get_or s n 0) since before, total_next n (amount_at p s t k));
  limit = λ k. omega (arith, each k, are.limit k, small k);
}

-- an activity that isn't under way adds nothing
pub sums_without : (p : Problem) (s : List ℕ) (t n : ℕ) (sums : List ℕ) → AreSums p s t n sums → (t < get_or s n 0) ⊎ (get_or s n 0 + duration p n ≤ t) → AreSums p s t (n + 1) sums
sums_without p s t n sums are outside = record {
  wide = are.wide;
  each = λ k within. omega (arith, are.each k within, none k outside, total_next n (amount_at p s t k));
  limit = λ k. omega (arith, are.limit k);
} where
  none : (k : ℕ) → (t < get_or s n 0) ⊎ (get_or s n 0 + duration p n ≤ t) → amount_at p s t k n ≡ 0
  none k (inl early) = amount_before p t k n (get_or s n 0) early
  none k (inr late) = amount_late p t k n (get_or s n 0) late

-- the sums over all activities are the usage
pub sums_whole : (p : Problem) (s : List ℕ) (t n : ℕ) (sums : List ℕ) → length s ≡ count p → n ≡ count p → AreSums p s t n sums → AreNeedsAt p s t sums
sums_whole p s t n sums whole all are = record {
  whole = are.wide;
  each = λ k within. are.each k within ∙ ap (λ (m : ℕ). total m (amount_at p s t k)) all ∙ sym (usage_is p s t k whole);
}

-- before an instant, a usage is the sum of the needs of the first n activities
abbrev pub IsUsedByFirst : ℕ → Problem → List ℕ → ℕ → (ℕ → ℕ → ℕ) → Type 0
IsUsedByFirst end p s n used = (t k : ℕ) → t < end → k < length p.capacities → used t k ≡ total n (amount_at p s t k)

-- if all needs keep the capacities, those of one more activity fit beside those of the first n
-- before an instant
pub next_fits : (end : ℕ) (p : Problem) (s : List ℕ) (n d : ℕ) (row caps : List ℕ) (used : ℕ → ℕ → ℕ) →
    length s ≡ count p → n < count p → caps ≡ p.capacities → ((k : ℕ) → need p n k ≡ get_or row k 0) →
    d ≤ duration p n → get_or s n 0 + d ≤ end
    → KeepsCapacities p (all_placed s) → IsUsedByFirst end p s n used → Fits caps used (get_or s n 0) d row
next_fits end p s n d row caps used whole inside caps_are needs lasts ends kept first x k below within =
    let t = get_or s n 0 + x in
    let within' : k < length p.capacities = omega (arith, within, ap length caps_are) in
    let here : amount_at p s t k n ≡ need p n k = amount_during p t k n (get_or s n 0) (omega arith) (omega (arith, below, lasts)) in
    let longer : total (n + 1) (amount_at p s t k) ≤ total (count p) (amount_at p s t k) = total_longer (n + 1) (count p) (amount_at p s t k) (omega (arith, inside)) in
    omega (
      arith,
      first t k (omega (arith, below, ends)) within',
      needs k,
      here,
      total_next n
          (amount_at p s t k),
      longer,
      usage_is p s t k whole,
      kept t k within',
      ap
          (λ (xs : List ℕ). get_or xs k 0) caps_are,
    )

-- an interval that is cut off at an instant adds before it the needs of the activity
pub next_used : (end : ℕ) (p : Problem) (s : List ℕ) (n d : ℕ) (row : List ℕ) (used after : ℕ → ℕ → ℕ) →
    ((k : ℕ) → need p n k ≡ get_or row k 0) → d ≤ duration p n → (d ≡ duration p n) ⊎ (end ≤ get_or s n 0 + d)
    → IsUsedByFirst end p s n used → ((t k : ℕ) → after t k ≡ used_with used (get_or s n 0) d row t k) → IsUsedByFirst end p s (n + 1) after
next_used end p s n d row used after needs lasts cut first added t k before within =
    omega (arith, added t k, first t k before within, total_next n (amount_at p s t k), same) where
      start : ℕ
      start = get_or s n 0

      lasting : t < start + duration p n → t < start + d
      lasting under = elim cut [ inl whole ↦ omega (arith, under, whole) | inr ended ↦ omega (arith, ended, before) ]

      same : cond (nat_le start t && nat_lt t (start + d)) (get_or row k 0) 0 ≡ amount_at p s t k n
      same = elim (cases_lt t start) [
        | inl early ↦
            cond-false (nat_le start t && nat_lt t (start + d)) (get_or row k 0) 0 (and_left (nat_le start t) (nat_lt t (start + d)) (lt-leb start t early)) ∙ sym (amount_before p t k n start early)
        | inr since ↦ elim (cases_lt t (start + duration p n)) [
          | inl under ↦
              cond-true (nat_le start t && nat_lt t (start + d)) (get_or row k 0) 0 (and_from (nat_le start t) (nat_lt t (start + d)) (le-leb start t since) (lt-ltb t (start + d) (lasting under)))
              ∙ (sym (needs k) ∙ sym (amount_during p t k n start since under))
          | inr late ↦
              cond-false (nat_le start t && nat_lt t (start + d)) (get_or row k 0) 0
              (and_right (nat_le start t) (nat_lt t (start + d))
              (le-ltb t (start + d) (omega (arith, late, lasts)))) ∙ sym (amount_late p t k n start late)
        ]
      ]
