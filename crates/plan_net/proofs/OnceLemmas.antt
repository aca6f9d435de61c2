-- Unique things: greatest numbers, rising lists of the same members, the named cycle.
use Rattle.std.proofs.Common.{ℕ, suc, zero, ◌≡◌, ◌+◌, ◌-◌, ◌≤◌, ◌<◌, ◌⊎◌, inl, inr, List, [], ◌∷◌, length, get_or, sym, ◌∙◌, ap, subst, arith}
use Rattle.std.specs.List.{Contains}
use Rattle.std.proofs.lemmas.List.{get_or_default, same_lists}
use Rattle.std.proofs.lemmas.List.Elements.{Contains-get_or, Contains-push_cases, Contains-append_cases, Contains-append_right}
use Rattle.std.proofs.lemmas.Bool.{cases_lt, cases_eq}
use Rattle.plan_net.specs.Network.{Net, IsArc, IsGreatest, ListsRising}
use Rattle.plan_net.specs.Cycle.{IsLeastCaughtBefore, IsCaught, IsNamedCycle}
use Rattle.plan_net.specs.Limits.{IsSound}
use Rattle.plan_net.proofs.RisingLemmas.{least_once, place_in, rising_later, rising_at_most}
use Rattle.plan_net.proofs.PathLemmas.{IsCycle-from_named}

-- the greatest number with P is unique
pub greatest_once : (P : ℕ → Type 0) (a b : ℕ) → IsGreatest P a → IsGreatest P b → a ≡ b
greatest_once P a b first second = let low : b ≤ a = first.1 b second.0 in let high : a ≤ b = second.1 a first.0 in omega arith

-- lists of equal length that agree at each index are equal
pub same_entries : (xs ys : List ℕ) → length xs ≡ length ys → ((k : ℕ) → k < length xs → get_or xs k 0 ≡ get_or ys k 0) → xs ≡ ys
same_entries xs ys long same =
    same_lists xs ys long (λ k d within. get_or_default xs k d 0 within ∙ same k within ∙ get_or_default ys k 0 d (omega (arith, long)))

-- if two rising lists agree before an index, they agree at the index
same_place : (xs ys : List ℕ) (P : ℕ → Type 0) → ListsRising P xs → ListsRising P ys → (k : ℕ) → k < length xs
    → ((j : ℕ) → j < k → j < length xs → (j < length ys) × (get_or ys j 0 ≡ get_or xs j 0))
    → (m : ℕ) → m < length ys → get_or ys m 0 ≡ get_or xs k 0 → (k < length ys) × (get_or ys k 0 ≡ get_or xs k 0)
same_place xs ys P first second k within before m inside is =
    elim (cases_lt m k) [
      | inl lower ↦
          let agree : get_or ys m 0 ≡ get_or xs m 0 = (before m lower (omega arith)).1 in
          let up : get_or xs m 0 < get_or xs k 0 = rising_later xs first.rising m k lower within in
          absurd (omega (arith, agree, up, is))
      | inr higher ↦ at_most (cases_lt k m) higher
    ]
  where
    meets : k < m → (q : ℕ) × (q < length xs) × (get_or xs q 0 ≡ get_or ys k 0) → ⊥
    meets later (q, there, same) =
        let up : get_or ys k 0 < get_or ys m 0 = rising_later ys second.rising k m later inside in
        elim (cases_lt q k) [
          | inl lower ↦
              let agree : get_or ys q 0 ≡ get_or xs q 0 = (before q lower there).1 in
              let rise : get_or ys q 0 < get_or ys k 0 = rising_later ys second.rising q k lower (omega arith) in
              omega (arith, agree, rise, same)
          | inr higher ↦
              let rise : get_or xs k 0 ≤ get_or xs q 0 = rising_at_most xs first.rising k q higher there in
              omega (arith, rise, up, same, is)
        ]

    at_most : (k < m) ⊎ (m ≤ k) → k ≤ m → (k < length ys) × (get_or ys k 0 ≡ get_or xs k 0)
    at_most (inl later) higher =
        let x = get_or ys k 0 in
        let has = (second.exact x).0 (Contains-get_or ys k 0 (omega arith)) in
        absurd (meets later (place_in xs x ((first.exact x).1 has)))
    at_most (inr low) higher =
        let same : m ≡ k = omega arith in
        (omega arith, subst (λ (p : ℕ). get_or ys p 0 ≡ get_or xs k 0) same is)

-- rising lists of the same members agree at each place
agree : (P : ℕ → Type 0) (xs ys : List ℕ) → ListsRising P xs → ListsRising P ys → (n k : ℕ) → k < n → k < length xs → (k < length ys) × (get_or ys k 0 ≡ get_or xs k 0)
agree P xs ys first second zero k lower within = absurd (omega (arith, lower))
agree P xs ys first second (suc n) k lower within =
    let x = get_or xs k 0 in
    let place = place_in ys x ((second.exact x).1 ((first.exact x).0 (Contains-get_or xs k 0 within))) in
    same_place xs ys P first second k within (λ j earlier inside. agree P xs ys first second n j (omega arith) inside) place.0 place.1 place.2

-- one is at most as long as the other
not_longer : (P : ℕ → Type 0) (xs ys : List ℕ) → ListsRising P xs → ListsRising P ys → length xs ≤ length ys
not_longer P xs ys first second = by_length (cases_lt 0 (length xs)) where
  by_length : (0 < length xs) ⊎ (length xs ≤ 0) → length xs ≤ length ys
  by_length (inr none) = omega arith
  by_length (inl some) =
      let last = (agree P xs ys first second (length xs) (length xs - 1) (omega arith) (omega arith)).0 in
      omega (arith, last)

-- there is one rising list of the numbers with P
pub rising_once : (P : ℕ → Type 0) (xs ys : List ℕ) → ListsRising P xs → ListsRising P ys → xs ≡ ys
rising_once P xs ys first second =
    let there = not_longer P xs ys first second in
    let back = not_longer P ys xs second first in
    same_entries xs ys (omega (arith, there, back)) (λ k within. sym (agree P xs ys first second (length xs) k within within).1)

-- a list contains an arc from j, or none
arc_or_none : (arcs : List (ℕ × ℕ)) (j : ℕ) → ((k : ℕ) × Contains arcs (j, k)) ⊎ ((k : ℕ) → Contains arcs (j, k) → ⊥)
arc_or_none [] j = inr (λ k has. absurd (omega (arith, has.1)))
arc_or_none ((a, b) ∷ arcs) j = by_first (cases_eq a j) (arc_or_none arcs j) where
  no_other : (a ≡ j → ⊥) → ((k : ℕ) → Contains arcs (j, k) → ⊥) → (k : ℕ) → Contains ((a, b) ∷ arcs) (j, k) → ⊥
  no_other differs none k has = elim (Contains-append_cases ((a, b) ∷ []) arcs (j, k) has) [
    | inl here ↦ elim (Contains-push_cases [] (a, b) (j, k) here) [
      | inl nothing ↦ absurd (omega (arith, nothing.1))
      | inr same ↦ differs (ap (λ (arc : ℕ × ℕ). arc.0) same)
    ]
    | inr later ↦ none k later
  ]

  by_first : (a ≡ j) ⊎ (a ≡ j → ⊥) → ((k : ℕ) × Contains arcs (j, k)) ⊎ ((k : ℕ) → Contains arcs (j, k) → ⊥)
      → ((k : ℕ) × Contains ((a, b) ∷ arcs) (j, k)) ⊎ ((k : ℕ) → Contains ((a, b) ∷ arcs) (j, k) → ⊥)
  by_first (inl same) others = inl (b, (0, omega arith, ap (λ (x : ℕ). (x, b)) same))
  by_first (inr differs) (inl (k, later)) = inl (k, Contains-append_right ((a, b) ∷ []) arcs (j, k) later)
  by_first (inr differs) (inr none) = inr (no_other differs none)

-- an activity has a successor or none
pub next_or_none : (net : Net) (j : ℕ) → ((k : ℕ) × IsArc net j k) ⊎ ((k : ℕ) → IsArc net j k → ⊥)
next_or_none net j = arc_or_none net.arcs j

-- an activity has at most one least predecessor in the largest set
before_once : (net : Net) (a b i j : ℕ) → IsLeastCaughtBefore net a i → IsLeastCaughtBefore net b j → a ≡ b → i ≡ j
before_once net a b i j first second same =
    least_once (λ h. IsCaught net h × IsArc net h b) i j (subst (λ (k : ℕ). IsLeastCaughtBefore net k i) same first) second

-- two named cycles begin with the same activity
first_once : (net : Net) (xs ys : List ℕ) → IsNamedCycle net xs → IsNamedCycle net ys → get_or xs 0 0 ≡ get_or ys 0 0
first_once net xs ys first second =
    let x = get_or xs 0 0 in
    let y = get_or ys 0 0 in
    let some_x = first.some in
    let some_y = second.some in
    let low : y ≤ x = second.least x ((second.recurring x).1 ((first.recurring x).0 (Contains-get_or xs 0 0 (omega arith)))) in
    let high : x ≤ y = first.least y ((first.recurring y).1 ((second.recurring y).0 (Contains-get_or ys 0 0 (omega arith)))) in
    omega (arith, low, high)

-- from their last members back they agree
back_once : (net : Net) (xs ys : List ℕ) → IsNamedCycle net xs → IsNamedCycle net ys → (k p q : ℕ) → p + k + 1 ≡ length xs → q + k + 1 ≡ length ys → get_or xs p 0 ≡ get_or ys q 0
back_once net xs ys first second zero p q here there =
    let last_x : length xs - 1 ≡ p = omega (arith, here) in
    let last_y : length ys - 1 ≡ q = omega (arith, there) in
    let before_x = subst (λ (k : ℕ). IsLeastCaughtBefore net (get_or xs 0 0) (get_or xs k 0)) last_x first.around in
    let before_y = subst (λ (k : ℕ). IsLeastCaughtBefore net (get_or ys 0 0) (get_or ys k 0)) last_y second.around in
    before_once net (get_or xs 0 0) (get_or ys 0 0) (get_or xs p 0) (get_or ys q 0) before_x before_y (first_once net xs ys first second)
back_once net xs ys first second (suc k) p q here there =
    let next = back_once net xs ys first second k (p + 1) (q + 1) (omega (arith, here)) (omega (arith, there)) in
    before_once net (get_or xs (p + 1) 0) (get_or ys (q + 1) 0) (get_or xs p 0) (get_or ys q 0) (first.along p (omega (arith, here))) (second.along q (omega (arith, there))) next

-- so the longer one isn't longer: otherwise it would contain its first member twice
as_long : (net : Net) (xs ys : List ℕ) → IsNamedCycle net xs → IsNamedCycle net ys → length xs ≤ length ys → length xs ≡ length ys
as_long net xs ys first second order = by_order (cases_lt (length xs) (length ys)) where
  by_order : (length xs < length ys) ⊎ (length ys ≤ length xs) → length xs ≡ length ys
  by_order (inr equal) = omega arith
  by_order (inl longer) =
      let some = first.some in
      let q = length ys - length xs in
      let again : get_or xs 0 0 ≡ get_or ys q 0 = back_once net xs ys first second (length xs - 1) 0 q (omega (arith, some)) (omega (arith, some)) in
      absurd (second.once 0 q (omega arith) (omega (arith, some)) (sym (first_once net xs ys first second) ∙ again))

same_members : (net : Net) (xs ys : List ℕ) → IsNamedCycle net xs → IsNamedCycle net ys → length xs ≡ length ys → xs ≡ ys
same_members net xs ys first second long =
    same_entries xs ys long (λ k within. back_once net xs ys first second (length xs - 1 - k) k k (omega arith) (omega (arith, long)))

-- a network has one named cycle
pub cycle_once : (net : Net) (xs ys : List ℕ) → IsNamedCycle net xs → IsNamedCycle net ys → xs ≡ ys
cycle_once net xs ys first second = by_order (cases_lt (length ys) (length xs)) where
  by_order : (length ys < length xs) ⊎ (length xs ≤ length ys) → xs ≡ ys
  by_order (inr order) = same_members net xs ys first second (as_long net xs ys first second order)
  by_order (inl longer) = same_members net xs ys first second (sym (as_long net ys xs second first (omega arith)))

-- and a sound one has none
pub sound_unnamed : (net : Net) (xs : List ℕ) → IsSound net → IsNamedCycle net xs → ⊥
sound_unnamed net xs sound named = sound.acyclic _ _ (IsCycle-from_named net xs sound.limits named)
