-- Rising lists, lists without duplicates, and the least number with a property.
use Rattle.std.proofs.Common.{ℕ, suc, zero, ◌≡◌, ◌≢◌, ◌+◌, ◌≤◌, ◌<◌, ◌↔◌, ◌⊎◌, inl, inr, List, [], ◌∷◌, ◌++◌, length, get_or, sym, ◌∙◌, subst, arith}
use Rattle.std.specs.List.{Contains}
use Rattle.std.specs.List.Sorted.{IsStrictlyIncreasing}
use Rattle.std.proofs.lemmas.List.{get_or_default, get_or_append_left, get_or_push, length_push}
use Rattle.std.proofs.lemmas.List.Elements.{Contains-get_or, Contains-push, Contains-push_cases, Contains-append_left}
use Rattle.std.proofs.lemmas.Bool.{cases_lt}
use Rattle.plan_net.specs.Network.{IsLeast, ListsRising}
use Rattle.plan_net.specs.Rows.{HoldsOnce}

-- the least number with P is unique
pub least_once : (P : ℕ → Type 0) (a b : ℕ) → IsLeast P a → IsLeast P b → a ≡ b
least_once P a b first second = let low : a ≤ b = first.1 b second.0 in let high : b ≤ a = second.1 a first.0 in omega arith

-- an element of a list has an index
pub place_in : (list : List ℕ) (x : ℕ) → Contains list x → (k : ℕ) × (k < length list) × (get_or list k 0 ≡ x)
place_in list x (k, within, is) = (k, within, get_or_default list k 0 x within ∙ is)

-- the entry at an index is an element
pub stands_in : (list : List ℕ) (x k : ℕ) → k < length list → get_or list k 0 ≡ x → Contains list x
stands_in list x k within is = subst (Contains list) is (Contains-get_or list k 0 within)

-- a new number is appended to a list without duplicates
pub HoldsOnce-push : (list : List ℕ) (x : ℕ) → HoldsOnce list → (Contains list x → ⊥) → HoldsOnce (list ++ x ∷ [])
HoldsOnce-push list x once fresh a b lower within = by_case (cases_lt b (length list)) where
  by_case : (b < length list) ⊎ (length list ≤ b) → get_or (list ++ x ∷ []) a 0 ≢ get_or (list ++ x ∷ []) b 0
  by_case (inl earlier) same =
      once a b lower earlier (sym (get_or_append_left list (x ∷ []) 0 a (omega arith)) ∙ same ∙ get_or_append_left list (x ∷ []) 0 b earlier)
  by_case (inr higher) same =
      let last : length list ≡ b = omega (arith, length_push list x) in
      let inside : a < length list = omega (arith, last) in
      fresh (stands_in list x a inside (sym (get_or_append_left list (x ∷ []) 0 a inside) ∙ same ∙ get_or_push list x 0 b last))

-- at a later index of a rising list the number is greater
pub rising_later : (list : List ℕ) → IsStrictlyIncreasing list → (a b : ℕ) → a < b → b < length list → get_or list a 0 < get_or list b 0
rising_later list rising a zero before within = absurd (omega arith)
rising_later list rising a (suc b) before within =
    let next : b + 1 < length list = omega arith in
    let same : b + 1 ≡ suc b = omega arith in
    let step : get_or list b 0 < get_or list (suc b) 0 = subst (λ (k : ℕ). get_or list b 0 < get_or list k 0) same (rising b next) in
    elim (cases_lt a b) [
      | inl lower ↦ let earlier : get_or list a 0 < get_or list b 0 = rising_later list rising a b lower (omega arith) in omega (arith, step, earlier)
      | inr equal ↦ let here : b ≡ a = omega arith in subst (λ (k : ℕ). get_or list k 0 < get_or list (suc b) 0) here step
    ]

-- the first number with O in a rising list of the numbers with P is the least with both
pub least_of_rising : (P O : ℕ → Type 0) (list : List ℕ) (at : ℕ) → ListsRising P list → at < length list →
    O (get_or list at 0) → ((k : ℕ) → k < at → O (get_or list k 0) → ⊥) →
    IsLeast (λ i. P i × O i) (get_or list at 0)
least_of_rising P O list at listed within here before =
    (((listed.exact (get_or list at 0)).0 (Contains-get_or list at 0 within), here), least) where
      at_place : (v k : ℕ) → O v → k < length list → get_or list k 0 ≡ v → (k < at) ⊎ (at ≤ k) → get_or list at 0 ≤ v
      at_place v k holds inside is (inl lower) = absurd (before k lower (subst O (sym is) holds))
      at_place v k holds inside is (inr higher) = by_order (cases_lt at k) where
        by_order : (at < k) ⊎ (k ≤ at) → get_or list at 0 ≤ v
        by_order (inl later) = let up : get_or list at 0 < get_or list k 0 = rising_later list listed.rising at k later inside in omega (arith, up, is)
        by_order (inr equal) = let same : k ≡ at = omega arith in let here' : get_or list at 0 ≡ v = subst (λ (x : ℕ). get_or list x 0 ≡ v) same is in omega (arith, here')

      least : (v : ℕ) → P v × O v → get_or list at 0 ≤ v
      least v both = let place = place_in list v ((listed.exact v).1 both.0) in at_place v place.0 both.1 place.1 place.2 (cases_lt place.0 at)

-- a fact at each index of a rising list of the numbers with P is a fact of each number with P
pub each_of_rising : (P Q : ℕ → Type 0) (list : List ℕ) → ListsRising P list → ((k : ℕ) → k < length list → Q (get_or list k 0)) → (i : ℕ) → P i → Q i
each_of_rising P Q list listed holds i has =
    let place = place_in list i ((listed.exact i).1 has) in subst Q place.2 (holds place.0 place.1)

-- rising lists for equivalent properties
pub ListsRising-same : (P Q : ℕ → Type 0) (list : List ℕ) → ((i : ℕ) → P i ↔ Q i) → ListsRising P list → ListsRising Q list
ListsRising-same P Q list same listed = record {
  rising = listed.rising;
  exact = λ i. (λ has. (same i).0 ((listed.exact i).0 has), λ holds. (listed.exact i).1 ((same i).1 holds));
}

-- there is no number from 1 to 0
pub ListsRising-nil : (Q : ℕ → Type 0) → ListsRising (λ i. (1 ≤ i) × (i ≤ 0) × Q i) []
ListsRising-nil Q = record {
  rising = λ k within. absurd (omega arith);
  exact = λ i. (λ has. absurd (empty has.1), λ holds. absurd (none i holds.0 holds.1));
} where
  empty : {k : ℕ} → k < 0 → ⊥
  empty lower = omega arith

  none : (i : ℕ) → 1 ≤ i → i ≤ 0 → ⊥
  none i low high = omega arith

-- the next number is without Q
pub ListsRising-skip : (Q : ℕ → Type 0) (n : ℕ) (list : List ℕ) → (Q (n + 1) → ⊥) → ListsRising (λ i. (1 ≤ i) × (i ≤ n) × Q i) list → ListsRising (λ i. (1 ≤ i) × (i ≤ n + 1) × Q i) list
ListsRising-skip Q n list misses listed = record {
  rising = listed.rising;
  exact = λ i. (λ has. let here = (listed.exact i).0 has in (here.0, omega (arith, here.1), here.2), λ holds. (listed.exact i).1 (holds.0, lower i holds.1 holds.2 (cases_lt n i), holds.2));
} where
  lower : (i : ℕ) → i ≤ n + 1 → Q i → (n < i) ⊎ (i ≤ n) → i ≤ n
  lower i high holds (inr low) = low
  lower i high holds (inl above) = let same : i ≡ n + 1 = omega arith in absurd (misses (subst Q same holds))

-- the next number has Q and is appended
pub ListsRising-push : (Q : ℕ → Type 0) (n : ℕ) (list : List ℕ) → Q (n + 1) → ListsRising (λ i. (1 ≤ i) × (i ≤ n) × Q i) list → ListsRising (λ i. (1 ≤ i) × (i ≤ n + 1) × Q i) (list ++ (n + 1) ∷ [])
ListsRising-push Q n list holds listed = record {
  rising = λ k within. rising k within (cases_lt (k + 1) (length list));
  exact = λ i. (λ has. from i (Contains-push_cases list (n + 1) i has), λ here. to i here (cases_lt n i));
} where
  rising : (k : ℕ) → k + 1 < length (list ++ (n + 1) ∷ []) → (k + 1 < length list) ⊎ (length list ≤ k + 1) → get_or (list ++ (n + 1) ∷ []) k 0 < get_or (list ++ (n + 1) ∷ []) (k + 1) 0
  rising k within (inl inside) =
      let up : get_or list k 0 < get_or list (k + 1) 0 = listed.rising k inside in
      omega (arith, up, get_or_append_left list ((n + 1) ∷ []) 0 k (omega arith), get_or_append_left list ((n + 1) ∷ []) 0 (k + 1) inside)
  rising k within (inr last) =
      let long = length_push list (n + 1) in
      let inside : k < length list = omega (arith, long) in
      let here = (listed.exact (get_or list k 0)).0 (Contains-get_or list k 0 inside) in
      let same : length list ≡ k + 1 = omega (arith, long) in
      omega (arith, here.1, get_or_append_left list ((n + 1) ∷ []) 0 k inside, get_or_push list (n + 1) 0 (k + 1) same)

  from : (i : ℕ) → Contains list i ⊎ (n + 1 ≡ i) → (1 ≤ i) × (i ≤ n + 1) × Q i
  from i (inl has) = let here = (listed.exact i).0 has in (here.0, omega (arith, here.1), here.2)
  from i (inr same) = (omega arith, omega arith, subst Q same holds)

  to : (i : ℕ) → (1 ≤ i) × (i ≤ n + 1) × Q i → (n < i) ⊎ (i ≤ n) → Contains (list ++ (n + 1) ∷ []) i
  to i here (inr low) = Contains-append_left list ((n + 1) ∷ []) i ((listed.exact i).1 (here.0, low, here.2))
  to i here (inl above) = let same : n + 1 ≡ i = omega (arith, here.1) in subst (Contains (list ++ (n + 1) ∷ [])) same (Contains-push list (n + 1))

-- at an index of a rising list that isn't earlier, the number isn't smaller
pub rising_at_most : (list : List ℕ) → IsStrictlyIncreasing list → (a b : ℕ) → a ≤ b → b < length list → get_or list a 0 ≤ get_or list b 0
rising_at_most list rising a b order within = by_case (cases_lt a b) where
  by_case : (a < b) ⊎ (b ≤ a) → get_or list a 0 ≤ get_or list b 0
  by_case (inl lower) = let up : get_or list a 0 < get_or list b 0 = rising_later list rising a b lower within in omega arith
  by_case (inr equal) = let same : a ≡ b = omega arith in subst (λ (k : ℕ). get_or list a 0 ≤ get_or list k 0) same (omega arith)
