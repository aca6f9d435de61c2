-- Rising lists after an instant is inserted or removed.
use Rattle.std.proofs.Common.{◌≡◌, ◌≢◌, ℕ, ◌+◌, ◌-◌, ◌≤◌, ◌<◌, ◌⊎◌, List, length, get_or, sym, ◌∙◌, ap, inl, inr, arith}
use Rattle.std.specs.Prelude.{Contains, insert, remove}
use Rattle.std.proofs.lemmas.List.Edits.{length-insert, get_or-insert_below, get_or-insert_at, get_or-insert_above, length-remove, get_or-remove_below, get_or-remove_above}
use Rattle.std.proofs.lemmas.Bool.{cases_lt, cases_order}
use Rattle.plan_profile.specs.Usage.{IsRising}
use Rattle.plan_profile.proofs.SegmentLemmas.{place_of, there_at}

-- the entry at an index after an insert: the old entry there, the inserted one, or the old entry
-- one index before
pub insert_cases : {X : Type 0} (xs : List X) (i : ℕ) (y d : X) (j : ℕ) → i ≤ length xs
    → ((j < i) × (get_or (insert xs i y) j d ≡ get_or xs j d))
    ⊎ (((j ≡ i) × (get_or (insert xs i y) j d ≡ y))
    ⊎ ((i < j) × (get_or (insert xs i y) j d ≡ get_or xs (j - 1) d)))
insert_cases xs i y d j within =
    elim (cases_order j i) [
      | inl same ↦ inr (inl (same, rw same (get_or-insert_at xs i y d within)))
      | inr (inl before) ↦ inl (before, get_or-insert_below xs i y d j before within)
      | inr (inr behind) ↦ inr (inr (behind, (let e : j - 1 + 1 ≡ j = omega arith in ap (λ n. get_or (insert xs i y) n d) (sym e) ∙ get_or-insert_above xs i y d (j - 1) (omega arith) within)))
    ]

-- the entry at an index after a removal: the old entry there, or the old one at the next index
pub remove_cases : {X : Type 0} (xs : List X) (i : ℕ) (d : X) (j : ℕ) → i < length xs
    → ((j < i) × (get_or (remove xs i) j d ≡ get_or xs j d))
    ⊎ ((i ≤ j) × (get_or (remove xs i) j d ≡ get_or xs (j + 1) d))
remove_cases xs i d j inside =
    elim (cases_lt j i) [
      | inl before ↦ inl (before, get_or-remove_below xs i d j before inside)
      | inr behind ↦ inr (behind, get_or-remove_above xs i d j behind inside)
    ]

pub rising_insert : (xs : List ℕ) (i y : ℕ) → IsRising xs → i ≤ length xs
    → ((j : ℕ) → j < i → get_or xs j 0 < y) → ((j : ℕ) → i ≤ j → j < length xs → y < get_or xs j 0) → IsRising (insert xs i y)
rising_insert xs i y rising within below above a b less inside =
    let size = length-insert xs i y within in
    elim (insert_cases xs i y 0 a within) [
      | inl (fa, ea) ↦ elim (insert_cases xs i y 0 b within) [
        | inl (fb, eb) ↦ (let r = rising a b less (omega arith) in omega arith)
        | inr (inl (fb, eb)) ↦ (let r = below a fa in omega arith)
        | inr (inr (fb, eb)) ↦ (elim (cases_lt a (b - 1)) [
          | inl before ↦ (let r = rising a (b - 1) before (omega arith) in omega arith)
          | inr not ↦ absurd (omega arith)
        ])
      ]
      | inr (inl (fa, ea)) ↦ elim (insert_cases xs i y 0 b within) [
        | inl (fb, eb) ↦ absurd (omega arith)
        | inr (inl (fb, eb)) ↦ absurd (omega arith)
        | inr (inr (fb, eb)) ↦ (let r = above (b - 1) (omega arith) (omega arith) in omega arith)
      ]
      | inr (inr (fa, ea)) ↦ elim (insert_cases xs i y 0 b within) [
        | inl (fb, eb) ↦ absurd (omega arith)
        | inr (inl (fb, eb)) ↦ absurd (omega arith)
        | inr (inr (fb, eb)) ↦ (let r = rising (a - 1) (b - 1) (omega arith) (omega arith) in omega arith)
      ]
    ]

pub rising_remove : (xs : List ℕ) (i : ℕ) → IsRising xs → i < length xs → IsRising (remove xs i)
rising_remove xs i rising within a b less inside =
    let size = length-remove xs i within in
    elim (remove_cases xs i 0 a within) [
      | inl (fa, ea) ↦ elim (remove_cases xs i 0 b within) [
        | inl (fb, eb) ↦ (let r = rising a b less (omega arith) in omega arith)
        | inr (fb, eb) ↦ (let r = rising a (b + 1) (omega arith) (omega arith) in omega arith)
      ]
      | inr (fa, ea) ↦ elim (remove_cases xs i 0 b within) [
        | inl (fb, eb) ↦ absurd (omega arith)
        | inr (fb, eb) ↦ (let r = rising (a + 1) (b + 1) (omega arith) (omega arith) in omega arith)
      ]
    ]

pub contains_insert : (xs : List ℕ) (i y c : ℕ) → i ≤ length xs → Contains (insert xs i y) c → Contains xs c ⊎ (c ≡ y)
contains_insert xs i y c within there =
    let at = place_of (insert xs i y) c there in
    let size = length-insert xs i y within in
    elim (insert_cases xs i y 0 at.0 within) [
      | inl (f, e) ↦ inl (there_at xs at.0 c (let inside = at.1 in omega arith) (sym e ∙ at.2))
      | inr (inl (f, e)) ↦ inr (sym at.2 ∙ e)
      | inr (inr (f, e)) ↦ inl (there_at xs (at.0 - 1) c (let inside = at.1 in omega arith) (sym e ∙ at.2))
    ]

pub inserted_there : (xs : List ℕ) (i y : ℕ) → i ≤ length xs → Contains (insert xs i y) y
inserted_there xs i y within =
    let size = length-insert xs i y within in
    there_at (insert xs i y) i y (omega arith) (get_or-insert_at xs i y 0 within)

pub insert_keeps : (xs : List ℕ) (i y c : ℕ) → i ≤ length xs → Contains xs c → Contains (insert xs i y) c
insert_keeps xs i y c within there =
    let at = place_of xs c there in
    let inside = at.1 in
    let size = length-insert xs i y within in
    elim (cases_lt at.0 i) [
      | inl before ↦ there_at (insert xs i y) at.0 c (omega arith) (get_or-insert_below xs i y 0 at.0 before within ∙ at.2)
      | inr behind ↦ there_at (insert xs i y) (at.0 + 1) c (omega arith) (get_or-insert_above xs i y 0 at.0 behind within ∙ at.2)
    ]

pub contains_remove : (xs : List ℕ) (i c : ℕ) → i < length xs → Contains (remove xs i) c → Contains xs c
contains_remove xs i c within there =
    let at = place_of (remove xs i) c there in
    let inside = at.1 in
    let size = length-remove xs i within in
    elim (remove_cases xs i 0 at.0 within) [
      | inl (f, e) ↦ there_at xs at.0 c (omega arith) (sym e ∙ at.2)
      | inr (f, e) ↦ there_at xs (at.0 + 1) c (omega arith) (sym e ∙ at.2)
    ]

pub remove_keeps : (xs : List ℕ) (i c : ℕ) → i < length xs → Contains xs c → c ≢ get_or xs i 0 → Contains (remove xs i) c
remove_keeps xs i c within there other =
    let at = place_of xs c there in
    let inside = at.1 in
    let size = length-remove xs i within in
    elim (cases_order at.0 i) [
      | inl same ↦ absurd (other (sym at.2 ∙ ap (λ n. get_or xs n 0) same))
      | inr (inl before) ↦ there_at (remove xs i) at.0 c (omega arith) (get_or-remove_below xs i 0 at.0 before within ∙ at.2)
      | inr (inr behind) ↦ there_at (remove xs i) (at.0 - 1) c (omega arith)
          (get_or-remove_above xs i 0 (at.0 - 1) (omega arith) within
          ∙ (let e : at.0 - 1 + 1 ≡ at.0 = omega arith in ap (λ n. get_or xs n 0) e) ∙ at.2)
    ]

-- a number that was removed from a rising list is no longer in it
pub removed_gone : (xs : List ℕ) (i : ℕ) → IsRising xs → i < length xs → Contains (remove xs i) (get_or xs i 0) → ⊥
removed_gone xs i rising within there =
    let at = place_of (remove xs i) (get_or xs i 0) there in
    let inside = at.1 in
    let is = at.2 in
    let size = length-remove xs i within in
    elim (remove_cases xs i 0 at.0 within) [
      | inl (f, e) ↦ (let r = rising at.0 i f within in omega arith)
      | inr (f, e) ↦ (let r = rising i (at.0 + 1) (omega arith) (omega arith) in omega arith)
    ]
