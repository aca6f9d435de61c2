-- One placement through a profile, and the instant by which the placed activities have ended.
use Rattle.std.proofs.Common.{ℕ, Bool, true, false, cond, nat_le, nat_lt, ◌&&◌, ◌≡◌, ◌+◌, ◌≤◌, ◌<◌, inl, inr, List, [], ◌∷◌, ◌++◌, length, get_or, set, Option, Some, None, refl, sym, ◌∙◌, ap, arith}
use Rattle.std.proofs.lemmas.List.{length_push}
use Rattle.std.proofs.lemmas.Bool.{cond-true, cond-false}
use Rattle.plan_profile.specs.Usage.{Fits, IsEarliest as IsEarliestIn, used_with}
use Rattle.plan_sgs.specs.Problem.{Problem, count, duration, need, capacity, amount_of, usage, total, NeedsFit}
use Rattle.plan_sgs.specs.Serial.{release, end_of, end_from, fits, earliest, IsEarliest}
use Rattle.plan_sgs.specs.Rules.{is_member}
use Rattle.plan_sgs.specs.Placement.{EndsBy}
use Rattle.plan_sgs.proofs.Bounds.{IsBounded, bound_of}
use Rattle.plan_sgs.proofs.TotalLemmas.{total_changed, total_grows}
use Rattle.plan_sgs.proofs.AmountLemmas.{fits_at, fits_from, usage_ended, earliest_is}
use Rattle.plan_sgs.proofs.PlacingLemmas.{release_least, usage_set, set_cases}
use Rattle.plan_sgs.proofs.SerialLemmas.{member_other, member_last}

-- the needs of an activity, as a profile takes them
pub record AreNeeds (p : Problem) (j : ℕ) (needs : List ℕ) : Type 0 where
  pub each : (k : ℕ) → need p j k ≡ get_or needs k 0

-- usage that is that of the placed activities, for each resource
abbrev pub IsUsageOf : (ℕ → ℕ → ℕ) → Problem → List (Option ℕ) → Type 0
IsUsageOf used p placed = (t k : ℕ) → k < length p.capacities → used t k ≡ usage p placed t k

-- an interval that fits in a profile fits by the definition
pub fits_same : (used : ℕ → ℕ → ℕ) (caps : List ℕ) (p : Problem) (placed : List (Option ℕ)) (j t d : ℕ)
    (needs : List ℕ) → caps ≡ p.capacities → d ≡ duration p j → AreNeeds p j needs → IsUsageOf used p placed →
    Fits caps used t d needs → fits p placed j t ≡ true
fits_same used caps p placed j t d needs same_caps same_d same_needs is fit = fits_from p placed j t (λ x k low within.
    let cap : get_or caps k 0 ≡ capacity p k = ap (λ (xs : List ℕ). get_or xs k 0) same_caps in
    let size : length caps ≡ length p.capacities = ap (λ (xs : List ℕ). length xs) same_caps in
    let here : used (t + x) k + get_or needs k 0 ≤ get_or caps k 0 = fit x k (omega (arith, low, same_d)) (omega (arith, within, size)) in
    omega (arith, here, cap, is (t + x) k within, same_needs.each k))

-- and the reverse
pub fits_back : (used : ℕ → ℕ → ℕ) (caps : List ℕ) (p : Problem) (placed : List (Option ℕ)) (j t d : ℕ)
    (needs : List ℕ) → caps ≡ p.capacities → d ≡ duration p j → AreNeeds p j needs → IsUsageOf used p placed →
    fits p placed j t ≡ true → Fits caps used t d needs
fits_back used caps p placed j t d needs same_caps same_d same_needs is fit x k low within =
    let cap : get_or caps k 0 ≡ capacity p k = ap (λ (xs : List ℕ). get_or xs k 0) same_caps in
    let size : length caps ≡ length p.capacities = ap (λ (xs : List ℕ). length xs) same_caps in
    let inside : k < length p.capacities = omega (arith, within, size) in
    let here : usage p placed (t + x) k + need p j k ≤ capacity p k = fits_at p placed j t x k fit (omega (arith, low, same_d)) inside in
    omega (arith, here, cap, is (t + x) k inside, same_needs.each k)

-- the result of a profile is the earliest start of the definition
pub found_from : (used : ℕ → ℕ → ℕ) (caps : List ℕ) (p : Problem) (placed : List (Option ℕ)) (j from d t : ℕ)
    (needs : List ℕ) → NeedsFit p → j < count p → caps ≡ p.capacities → d ≡ duration p j →
    AreNeeds p j needs → IsUsageOf used p placed → from ≡ release p placed j
    → IsEarliestIn caps used from d needs t → t ≡ earliest p placed j
found_from used caps p placed j from d t needs fit inside same_caps same_d same_needs is released found =
    let least : IsEarliest p placed j (earliest p placed j) = earliest_is p placed j fit inside in
    let low : earliest p placed j ≤ t = least.least t (omega (arith, released, found.since)) (fits_same used caps p placed j t d needs same_caps same_d same_needs is found.fitting) in
    let high : t ≤ earliest p placed j = found.least (earliest p placed j)
    (omega (arith, released, least.released)) (fits_back used caps p placed j
    (earliest p placed j) d needs same_caps same_d same_needs is least.fitting) in
    omega (arith, low, high)

-- an activity, placed or not, ends by each instant by which all placed activities end
pub end_of-limit : (p : Problem) (placed : List (Option ℕ)) (i last : ℕ) → EndsBy p placed last → end_of p placed i ≤ last
end_of-limit p placed i last ends = by_start (get_or placed i None) refl where
  by_start : (start : Option ℕ) → get_or placed i None ≡ start → end_of p placed i ≤ last
  by_start None is = let none : end_of p placed i ≡ 0 = ap (end_from (duration p i)) is in omega (arith, none)
  by_start (Some s) is = let here : end_of p placed i ≡ s + duration p i = ap (end_from (duration p i)) is in omega (arith, here, ends i s is)

-- the release of an activity is soon after the end of what is placed
pub release_soon : (p : Problem) (placed : List (Option ℕ)) (j last : ℕ) → IsBounded p → EndsBy p placed last → release p placed j ≤ last + 10000
release_soon p placed j last bounded ends =
    release_least p placed j (last + 10000) (λ k d within to.
    let lag : (get_or p.links k d).lag ≤ 10000 = bounded.lags k d within in
    omega (arith, end_of-limit p placed (get_or p.links k d).from last ends, lag))

-- an activity is placed soon after the end of what is placed
pub earliest_soon : (p : Problem) (placed : List (Option ℕ)) (j last : ℕ) → IsBounded p → j < count p → EndsBy p placed last → earliest p placed j ≤ last + 10000
earliest_soon p placed j last bounded inside ends =
    (earliest_is p placed j bounded.fit inside).least (last + 10000)
    (release_soon p placed j last bounded ends)
    (fits_from p placed j (last + 10000) (λ x k low within.
    let none : usage p placed (last + 10000 + x) k ≡ 0 = usage_ended p placed (last + 10000 + x) k (λ i s is. omega (arith, ends i s is)) in
    omega (arith, none, bounded.fit j k inside (omega (arith, low)) within)))

pub ends_set : (p : Problem) (placed : List (Option ℕ)) (j last : ℕ) → IsBounded p → length placed ≡ count p →
    j < count p → EndsBy p placed last → EndsBy p (set placed j (Some (earliest p placed j)))
    (last + 10000 + duration p j)
ends_set p placed j last bounded size inside ends i s is = elim (set_cases placed j (earliest p placed j) i s (omega (arith, size, inside)) is) [
  | inl here ↦ omega (arith, here.1, ap (duration p) here.0, earliest_soon p placed j last bounded inside ends)
  | inr there ↦ omega (arith, ends i s there.1)
]

-- the profile holds one more activity
pub held_after : (used after : ℕ → ℕ → ℕ) (p : Problem) (placed : List (Option ℕ)) (j s d : ℕ)
    (needs : List ℕ) → length placed ≡ count p → j < count p → get_or placed j None ≡ None →
    d ≡ duration p j → AreNeeds p j needs → IsUsageOf used p placed
    → ((t k : ℕ) → after t k ≡ used_with used s d needs t k) → IsUsageOf after p (set placed j (Some s))
held_after used after p placed j s d needs size inside open_place same_d same_needs is more t k within =
    let one : usage p placed t k + amount_of p t k j (Some s) ≡ usage p (set placed j (Some s)) t k = usage_set p placed j s t k size inside open_place in
    let added : amount_of p t k j (Some s) ≡ cond (nat_le s t && nat_lt t (s + d)) (get_or needs k 0) 0 =
    ap (λ (x : ℕ). cond (nat_le s t && nat_lt t (s + duration p j)) x 0) (same_needs.each k) ∙ ap (λ (x : ℕ). cond (nat_le s t && nat_lt t (s + x)) (get_or needs k 0) 0) (sym same_d) in
    let now : after t k ≡ used t k + cond (nat_le s t && nat_lt t (s + d)) (get_or needs k 0) 0 = more t k in
    omega (arith, one, added, now, is t k within)

-- the bound after one more entry
pub bound_more : (p : Problem) (taken : List ℕ) (j : ℕ) → j < count p → is_member j taken ≡ false → bound_of p taken + 10000 + duration p j ≡ bound_of p (taken ++ j ∷ [])
bound_more p taken j inside new =
    let before : cond (is_member j taken) (duration p j) 0 ≡ 0 = cond-false (is_member j taken) (duration p j) 0 new in
    let after : cond (is_member j (taken ++ j ∷ [])) (duration p j) 0 ≡ duration p j = cond-true (is_member j (taken ++ j ∷ [])) (duration p j) 0 (member_last j taken) in
    let sums : total (count p) (λ i. cond (is_member i taken) (duration p i) 0) + duration p j ≡ total (count p) (λ i. cond (is_member i (taken ++ j ∷ [])) (duration p i) 0) =
    total_changed (count p) (λ i. cond (is_member i taken) (duration p i) 0) (λ i. cond (is_member i (taken ++ j ∷ [])) (duration p i) 0) j (duration p j) inside
    (λ i below other. ap (λ (b : Bool). cond b (duration p i) 0) (sym (member_other i j taken other))) (omega (arith, before, after)) in
    omega (arith, sums, length_push taken j)

cond_limit : (b : Bool) (n : ℕ) → cond b n 0 ≤ n
cond_limit true n = omega arith
cond_limit false n = omega arith

-- no bound is beyond the sum of all durations and a greatest lag for each
pub bound_within : (p : Problem) (taken : List ℕ) → IsBounded p → length taken ≤ count p → bound_of p taken ≤ 6020000
bound_within p taken bounded few =
    let sums : total (count p) (λ i. cond (is_member i taken) (duration p i) 0) ≤ total (count p)
    (duration p) = total_grows (count p) (λ i. cond (is_member i taken) (duration p i) 0) (duration p)
    (λ i below. cond_limit (is_member i taken) (duration p i)) in
    omega (arith, sums, bounded.work, bounded.few, few)
