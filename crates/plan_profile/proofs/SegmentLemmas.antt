-- The number of changes up to an instant, in a rising list.
use Rattle.std.proofs.Common.{◌≡◌, ℕ, zero, suc, ◌+◌, ◌-◌, ◌≤◌, ◌<◌, cond, List, [], ◌∷◌, length, get_or, take, drop, nat_le, ◌∙◌, ap, inl, inr, add-one, arith}
use Rattle.std.specs.Prelude.{Contains, insert, remove}
use Rattle.std.proofs.lemmas.List.{get_or_default}
use Rattle.std.proofs.lemmas.List.Sums.{sum_by-cons, sum_by-append, sum_by-take-drop, sum_by-drop_more, count_by-le-length}
use Rattle.std.proofs.lemmas.Bool.{cases_lt, cases_order, le-leb, lt-leb, cond-true, cond-false}
use Rattle.plan_profile.specs.Usage.{IsRising}
use Rattle.plan_profile.specs.Steps.{changes_until}

-- 1 for a change up to t
abbrev pub come : ℕ → ℕ → ℕ
come t c = cond (nat_le c t) 1 0

pub come_yes : (t c : ℕ) → c ≤ t → come t c ≡ 1
come_yes t c h = cond-true _ _ _ (le-leb c t h)

pub come_no : (t c : ℕ) → t < c → come t c ≡ 0
come_no t c h = cond-false _ _ _ (lt-leb c t h)

pub until_cons : (x : ℕ) (xs : List ℕ) (t : ℕ) → changes_until (x ∷ xs) t ≡ come t x + changes_until xs t
until_cons x xs t = sum_by-cons (come t) x xs

pub until_within : (xs : List ℕ) (t : ℕ) → changes_until xs t ≤ length xs
until_within xs t = count_by-le-length (λ c. nat_le c t) xs

-- if the first n changes are at most t, at least n changes are at most t
pub until_above : (xs : List ℕ) (t n : ℕ) → n ≤ length xs → ((i : ℕ) → i < n → get_or xs i 0 ≤ t) → n ≤ changes_until xs t
until_above [] t n le h = le
until_above (x ∷ xs) t zero le h = omega arith
until_above (x ∷ xs) t (suc n) le h =
    let first : come t x ≡ 1 = come_yes t x (h 0 (omega arith)) in
    let others : n ≤ changes_until xs t = until_above xs t n (omega arith) (λ i below. h (suc i) (omega arith)) in
    let step : changes_until (x ∷ xs) t ≡ come t x + changes_until xs t = until_cons x xs t in
    omega arith

-- if the changes from index n on are after t, at most n changes are at most t
pub until_below : (xs : List ℕ) (t n : ℕ) → ((i : ℕ) → n ≤ i → i < length xs → t < get_or xs i 0) → changes_until xs t ≤ n
until_below [] t n h = omega arith
until_below (x ∷ xs) t zero h =
    let first : come t x ≡ 0 = come_no t x (h 0 (omega arith) (omega arith)) in
    let others : changes_until xs t ≤ 0 = until_below xs t 0 (λ i from below. h (suc i) (omega arith) (omega arith)) in
    let step : changes_until (x ∷ xs) t ≡ come t x + changes_until xs t = until_cons x xs t in
    omega arith
until_below (x ∷ xs) t (suc n) h =
    let first : come t x ≤ 1 = elim (cases_lt t x) [ inl after ↦ (let e = come_no t x after in omega arith) | inr by ↦ (let e = come_yes t x by in omega arith) ] in
    let others : changes_until xs t ≤ n = until_below xs t n (λ i from below. h (suc i) (omega arith) (omega arith)) in
    let step : changes_until (x ∷ xs) t ≡ come t x + changes_until xs t = until_cons x xs t in
    omega arith

-- each of the first changes up to t is at most t
pub within : (xs : List ℕ) (t i : ℕ) → IsRising xs → i < changes_until xs t → get_or xs i 0 ≤ t
within xs t i rising below =
    elim (cases_lt t (get_or xs i 0)) [
      | inr by ↦ by
      | inl after ↦
          (let none : changes_until xs t ≤ i = until_below xs t i (λ j from inside. elim (cases_order i j) [
            | inl same ↦ (let e = ap (λ n. get_or xs n 0) same in omega arith)
            | inr (inl before) ↦ (let e = rising i j before inside in omega arith)
            | inr (inr behind) ↦ absurd (omega arith)
          ]) in
          absurd (omega arith))
    ]

-- a change at an index from the number of changes up to t on is after t
pub beyond : (xs : List ℕ) (t i : ℕ) → IsRising xs → changes_until xs t ≤ i → i < length xs → t < get_or xs i 0
beyond xs t i rising from inside =
    elim (cases_lt t (get_or xs i 0)) [
      | inl after ↦ after
      | inr by ↦
          (let more : i + 1 ≤ changes_until xs t = until_above xs t (i + 1) (omega arith) (λ j below. elim (cases_order i j) [
            | inl same ↦ (let e = ap (λ n. get_or xs n 0) same in omega arith)
            | inr (inl before) ↦ absurd (omega arith)
            | inr (inr behind) ↦ (let e = rising j i behind inside in omega arith)
          ]) in
          absurd (omega arith))
    ]

pub until_change : (xs : List ℕ) (i : ℕ) → IsRising xs → i < length xs → changes_until xs (get_or xs i 0) ≡ i + 1
until_change xs i rising inside =
    let least : i + 1 ≤ changes_until xs (get_or xs i 0) = until_above xs (get_or xs i 0) (i + 1) (omega arith) (λ j below. elim (cases_order i j) [
      | inl same ↦ (let e = ap (λ n. get_or xs n 0) same in omega arith)
      | inr (inl before) ↦ absurd (omega arith)
      | inr (inr behind) ↦ (let e = rising j i behind inside in omega arith)
    ]) in
    let most : changes_until xs (get_or xs i 0) ≤ i + 1 = until_below xs (get_or xs i 0) (i + 1) (λ j from below. rising i j (omega arith) below) in
    omega arith

-- there are no fewer changes up to a later instant
pub until_mono : (xs : List ℕ) (s t : ℕ) → IsRising xs → s ≤ t → changes_until xs s ≤ changes_until xs t
until_mono xs s t rising le =
    let inside = until_within xs s in
    until_above xs t (changes_until xs s) inside (λ i below. let e = within xs s i rising below in omega arith)

-- there are fewer changes before a change than up to it
pub until_before : (xs : List ℕ) (t i : ℕ) → IsRising xs → i < length xs → t < get_or xs i 0 → changes_until xs t ≤ i
until_before xs t i rising inside before =
    elim (cases_lt i (changes_until xs t)) [
      | inl above ↦ (let e = within xs t i rising above in absurd (omega arith))
      | inr below ↦ below
    ]

-- a change that is in the list, with its index
pub place_of : (xs : List ℕ) (c : ℕ) → Contains xs c → (i : ℕ) × (i < length xs) × (get_or xs i 0 ≡ c)
place_of xs c (i, inside, is) = (i, inside, get_or_default xs i 0 c inside ∙ is)

pub there_at : (xs : List ℕ) (i c : ℕ) → i < length xs → get_or xs i 0 ≡ c → Contains xs c
there_at xs i c inside is = (i, inside, get_or_default xs i c 0 inside ∙ is)

-- a change is at most t if there are at least as many changes up to t as up to the change
pub until_from : (xs : List ℕ) (c t : ℕ) → IsRising xs → Contains xs c → changes_until xs c ≤ changes_until xs t → c ≤ t
until_from xs c t rising there more =
    let at = place_of xs c there in
    elim (cases_lt t c) [
      | inr from ↦ from
      | inl before ↦
          (let e = until_before xs t at.0 rising at.1 (let same = at.2 in omega arith) in
          let n = until_change xs at.0 rising at.1 in
          let m = ap (changes_until xs) at.2 in
          absurd (omega arith))
    ]

pub until_there : (xs : List ℕ) (c : ℕ) → IsRising xs → Contains xs c → 0 < changes_until xs c
until_there xs c rising there =
    let at = place_of xs c there in
    let n = until_change xs at.0 rising at.1 in
    let m = ap (changes_until xs) at.2 in
    omega arith

-- the last change up to c is c, if c is a change
pub last_there : (xs : List ℕ) (c : ℕ) → IsRising xs → Contains xs c → get_or xs (changes_until xs c - 1) 0 ≡ c
last_there xs c rising there =
    let at = place_of xs c there in
    let n = until_change xs at.0 rising at.1 in
    let m = ap (changes_until xs) at.2 in
    let e : changes_until xs c - 1 ≡ at.0 = omega arith in
    ap (λ j. get_or xs j 0) e ∙ at.2

pub until_insert : (xs : List ℕ) (i x t : ℕ) → changes_until (insert xs i x) t ≡ changes_until xs t + come t x
until_insert xs i x t =
    let joined = sum_by-append (come t) (take i xs) (x ∷ drop i xs) in
    let behind = sum_by-cons (come t) x (drop i xs) in
    let parts = sum_by-take-drop (come t) xs i in
    omega arith

pub until_remove : (xs : List ℕ) (i t : ℕ) → i < length xs → changes_until (remove xs i) t + come t (get_or xs i 0) ≡ changes_until xs t
until_remove xs i t inside =
    let joined = sum_by-append (come t) (take i xs) (drop (suc i) xs) in
    let rest = rw add-one at (sum_by-drop_more (come t) xs i 0 inside) in
    let parts = sum_by-take-drop (come t) xs i in
    omega arith

-- the instant at a later index isn't earlier
pub rising_order : (xs : List ℕ) → IsRising xs → (i j : ℕ) → i ≤ j → j < length xs → get_or xs i 0 ≤ get_or xs j 0
rising_order xs rising i j le inside =
    elim (cases_order i j) [
      | inl same ↦ (let e = ap (λ n. get_or xs n 0) same in omega arith)
      | inr (inl before) ↦ (let r = rising i j before inside in omega arith)
      | inr (inr behind) ↦ absurd (omega arith)
    ]
