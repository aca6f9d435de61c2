-- The search for an instant at which an interval fits, from change to change.
use Rattle.std.proofs.Common.{◌≡◌, ℕ, ◌+◌, ◌-◌, ◌≤◌, ◌<◌, List, length, get_or, sym, ◌∙◌, subst, inl, inr, arith}
use Rattle.std.proofs.lemmas.Bool.{cases_lt, cases_eq}
use Rattle.plan_profile.specs.Usage.{Fits, FitsEmpty, IsEarliest, IsRising}
use Rattle.plan_profile.specs.Steps.{changes_until, amount_at, amount, IsEndedBy, HasRoomAt}
use Rattle.plan_profile.proofs.SegmentLemmas.{until_within, until_mono, until_above, until_before, until_change, rising_order}
use Rattle.plan_profile.proofs.StepLemmas.{amount_is}

-- an interval that fits keeps the capacities at each of its instants
pub fits_at : (caps : List ℕ) (used : ℕ → ℕ → ℕ) (start d : ℕ) (needs : List ℕ) (t k : ℕ) → Fits caps used start d needs → start ≤ t → t < start + d → k < length caps
    → used t k + get_or needs k 0 ≤ get_or caps k 0
fits_at caps used start d needs t k fits since before inside =
    let e : start + (t - start) ≡ t = omega arith in
    subst (λ u. used u k + get_or needs k 0 ≤ get_or caps k 0) e (fits (t - start) k (omega arith) inside)

-- needs keep the capacities from t on, up to the end of the rows before row n
abbrev pub HasRoomUntil : List ℕ → List ℕ → List (List ℕ) → List ℕ → ℕ → ℕ → Type 0
HasRoomUntil caps changes rows needs t n =
    (u k : ℕ) → t ≤ u → changes_until changes u < n → k < length caps → amount changes rows u k + get_or needs k 0 ≤ get_or caps k 0

pub room_none : (caps changes : List ℕ) (rows : List (List ℕ)) (needs : List ℕ) (t : ℕ) → IsRising changes → HasRoomUntil caps changes rows needs t (changes_until changes t)
room_none caps changes rows needs t rising u k since before inside = absurd (let m = until_mono changes t u rising since in omega arith)

pub room_more : (caps changes : List ℕ) (rows : List (List ℕ)) (needs : List ℕ) (t i : ℕ) →
    HasRoomUntil caps changes rows needs t i → HasRoomAt caps rows needs i →
    HasRoomUntil caps changes rows needs t (i + 1)
room_more caps changes rows needs t i room here u k since before inside =
    elim (cases_eq (changes_until changes u) i) [
      | inl same ↦ (let h = here k inside in let e = amount_is changes rows u k i same in omega arith)
      | inr other ↦ room u k since (omega arith) inside
    ]

-- an interval that ends by the change before row i fits
pub fits_before : (caps changes : List ℕ) (rows : List (List ℕ)) (needs : List ℕ) (t d i : ℕ) → IsRising changes → HasRoomUntil caps changes rows needs t i → 0 < i → i ≤ length changes
    → t + d ≤ get_or changes (i - 1) 0 → Fits caps (amount changes rows) t d needs
fits_before caps changes rows needs t d i rising room some last ends x k below inside =
    let fewer = until_before changes (t + x) (i - 1) rising (omega arith) (omega arith) in
    room (t + x) k (omega arith) (omega arith) inside

-- if all rows from t on have room, each interval from t on fits
pub fits_all : (caps changes : List ℕ) (rows : List (List ℕ)) (needs : List ℕ) (t d i : ℕ) → HasRoomUntil caps changes rows needs t i → length changes < i → Fits caps (amount changes rows) t d needs
fits_all caps changes rows needs t d i room all x k below inside =
    let most = until_within changes (t + x) in
    room (t + x) k (omega arith) (omega arith) inside

-- an interval that begins before the end of row i and lasts past its start doesn't fit if row i has
-- no room
pub stuck : (caps changes : List ℕ) (rows : List (List ℕ)) (needs : List ℕ) (from d u i : ℕ) → IsRising changes → changes_until changes from ≤ i → i ≤ length changes
    → from ≤ u → 0 < d → (i < length changes → u < get_or changes i 0) → (changes_until changes from < i → get_or changes (i - 1) 0 < u + d)
    → (HasRoomAt caps rows needs i → ⊥) → Fits caps (amount changes rows) u d needs → ⊥
stuck caps changes rows needs from d u i rising first last since long before reaches full fits =
    let met : (t : ℕ) → u ≤ t → t < u + d → changes_until changes t ≡ i → ⊥ = λ t begun early here.
    full (λ k inside. let f = fits_at caps (amount changes rows) u d needs t k fits begun early inside in let e = amount_is changes rows t k i here in omega arith) in
    let upto : (t : ℕ) → (i < length changes → t < get_or changes i 0) → changes_until changes t ≤ i = λ t early. elim (cases_lt i (length changes)) [
      | inl inside ↦ until_before changes t i rising inside (early inside)
      | inr all ↦ (let m = until_within changes t in omega arith)
    ] in
    let here_at : (i ≤ changes_until changes u) → ⊥ = λ more. met u (omega arith) (omega arith) (let m = upto u before in omega arith) in
    elim (cases_lt (changes_until changes u) i) [
      | inr more ↦ here_at more
      | inl less ↦
          (let m = until_mono changes from u rising since in
          let t = get_or changes (i - 1) 0 in
          let came : changes_until changes t ≡ i = (let e = until_change changes (i - 1) rising (omega arith) in omega arith) in
          let later : u ≤ t = (elim (cases_lt t u) [
            | inr after ↦ after
            | inl by ↦ absurd (let m2 = until_mono changes t u rising (omega arith) in omega arith)
          ]) in
          met t later (reaches (omega arith)) came)
    ]

-- the state of the search: t is sought from an instant on, and all rows before row i were tested
pub record IsSought (caps changes : List ℕ) (rows : List (List ℕ)) (needs : List ℕ) (from d first t i : ℕ) : Type 0 where
  pub since : from ≤ t
  pub later : (j : ℕ) → first ≤ j → i ≤ j + 1 → j < length changes → t ≤ get_or changes j 0
  pub room : HasRoomUntil caps changes rows needs t i
  pub none : (u : ℕ) → from ≤ u → u < t → Fits caps (amount changes rows) u d needs → ⊥

pub sought_first : (caps changes : List ℕ) (rows : List (List ℕ)) (needs : List ℕ) (from d first : ℕ) →
    IsRising changes → first ≡ changes_until changes from →
    IsSought caps changes rows needs from d first from first
sought_first caps changes rows needs from d first rising is = record {
  since = omega arith;
  later = λ j begun near inside. (elim (cases_lt (get_or changes j 0) from) [
    | inr after ↦ after
    | inl by ↦ absurd (let m = until_mono changes (get_or changes j 0) from rising (omega arith) in let n = until_change changes j rising inside in omega arith)
  ]);
  room = rw is (room_none caps changes rows needs from rising);
  none = λ u since before fits. omega arith;
}

pub sought_room : (caps changes : List ℕ) (rows : List (List ℕ)) (needs : List ℕ) (from d first t i : ℕ) → IsSought caps changes rows needs from d first t i → HasRoomAt caps rows needs i
    → IsSought caps changes rows needs from d first t (i + 1)
sought_room caps changes rows needs from d first t i sought here = record {
  since = sought.since;
  later = λ j begun near inside. sought.later j begun (omega arith) inside;
  room = room_more caps changes rows needs t i sought.room here;
  none = sought.none;
}

pub sought_stuck : (caps changes : List ℕ) (rows : List (List ℕ)) (needs : List ℕ) (from d first t i : ℕ) → IsRising changes → first ≡ changes_until changes from → first ≤ i → i < length changes
    → 0 < d → IsSought caps changes rows needs from d first t i → (first < i → get_or changes (i - 1) 0 < t + d) → (HasRoomAt caps rows needs i → ⊥)
    → IsSought caps changes rows needs from d first (get_or changes i 0) (i + 1)
sought_stuck caps changes rows needs from d first t i rising is begun inside long sought reaches full =
    let ahead = sought.later i begun (omega arith) inside in
    let since = sought.since in
    record {
      since = omega arith;
      later = λ j from_first near within. rising_order changes rising i j (omega arith) within;
      room = λ u k after before within. absurd (let m = until_mono changes (get_or changes i 0) u rising after in let n = until_change changes i rising inside in omega arith);
      none = λ u start_since early fits. (elim (cases_lt u t) [
        | inl less ↦ sought.none u start_since less fits
        | inr more ↦ stuck caps changes rows needs from d u i rising (omega arith) (omega arith) start_since long (λ _. early) (λ gone. let r = reaches (omega arith) in omega arith) full fits
      ]);
    }

pub sought_found : (caps changes : List ℕ) (rows : List (List ℕ)) (needs : List ℕ) (from d first t i : ℕ) →
    IsSought caps changes rows needs from d first t i → Fits caps (amount changes rows) t d needs
    → IsEarliest caps (amount changes rows) from d needs t
sought_found caps changes rows needs from d first t i sought fits = record {
  since = sought.since;
  fitting = fits;
  least = λ u since other. (elim (cases_lt u t) [
    | inr more ↦ more
    | inl less ↦ absurd (sought.none u since less other)
  ]);
}

-- after the last change nothing is in use
pub last_empty : (last : ℕ) (changes : List ℕ) (rows : List (List ℕ)) (k : ℕ) → IsRising changes → IsEndedBy last changes rows → amount_at rows (length changes) k ≡ 0
last_empty last changes rows k rising ended =
    let t = last + get_or changes (length changes - 1) 0 in
    let all : changes_until changes t ≡ length changes =
    (let least = until_above changes t (length changes) (omega arith) (λ i below. let e = rising_order changes rising i (length changes - 1) (omega arith) (omega arith) in omega arith) in
    let most = until_within changes t in
    omega arith) in
    sym (amount_is changes rows t k (length changes) all) ∙ ended t k (omega arith)

-- after the last change, needs within the capacities have room
pub last_room : (last : ℕ) (caps changes : List ℕ) (rows : List (List ℕ)) (needs : List ℕ) →
    IsRising changes → IsEndedBy last changes rows → FitsEmpty caps needs →
    HasRoomAt caps rows needs (length changes)
last_room last caps changes rows needs rising ended empty k inside =
    let none = last_empty last changes rows k rising ended in
    let fits = empty k inside in
    omega arith

-- a row without room isn't the last
pub not_last : (last : ℕ) (caps changes : List ℕ) (rows : List (List ℕ)) (needs : List ℕ) (i : ℕ) → IsRising changes → IsEndedBy last changes rows → FitsEmpty caps needs → i ≤ length changes
    → (HasRoomAt caps rows needs i → ⊥) → i < length changes
not_last last caps changes rows needs i rising ended empty within full =
    elim (cases_lt i (length changes)) [
      | inl before ↦ before
      | inr at_end ↦
          (let e : length changes ≡ i = omega arith in
          absurd (full (subst (HasRoomAt caps rows needs) e (last_room last caps changes rows needs rising ended empty))))
    ]
