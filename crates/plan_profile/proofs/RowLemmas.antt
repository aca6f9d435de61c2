-- Rows of a profile: the row in force, and rows to which needs are added.
use Rattle.std.proofs.Common.{◌≡◌, ◌≢◌, ℕ, ◌+◌, ◌-◌, ◌*◌, ◌++◌, ◌≤◌, ◌<◌, ◌&&◌, Bool, true, false, cond, nat_le, nat_lt, List, [], length, get_or, take, drop, refl, sym, ◌∙◌, ap, inl, inr, arith}
use Rattle.std.proofs.lemmas.List.{get_or_past, get_or-take, get_or-drop, get_or_append_left, get_or-append_right, length-take-le, length-drop, length-append}
use Rattle.std.proofs.lemmas.Nat.{row_fits}
use borrow.Rule.Slice.PartMut.{put_mid}
use Rattle.std.proofs.lemmas.Bool.{cases_lt, cases_eq, le-leb, lt-leb, lt-ltb, le-ltb, cond-true, cond-false, and_from, and_left, and_right}
use Rattle.plan_profile.specs.Steps.{lists, amount_at, changes_until, AreRows, IsSteps}
use Rattle.plan_profile.specs.Changes.{IsRowOf, IsRowWith, AreRaised, IsRaised, HasSums, HaveSums}
use Rattle.plan_profile.proofs.FlatLemmas.{length_lists, list_at, list_past, amount_there, amount_beside, row_within, length-row_at}
use Rattle.plan_profile.proofs.StepLemmas.{amount_row}

cond_zero : (b : Bool) (n : ℕ) → n ≡ 0 → cond b n 0 ≡ 0
cond_zero true n none = none
cond_zero false n none = refl

-- the row in force
pub row_copied : (changes : List ℕ) (rows : List (List ℕ)) (t i : ℕ) (row : List ℕ) → IsSteps changes rows →
    i ≡ changes_until changes t → i < length rows → get_or rows i [] ≡ row → IsRowOf changes rows t row
row_copied changes rows t i row steps is inside same = record {
  even = ap length (sym same) ∙ steps.even i inside;
  each = λ k. ap (λ r. get_or r k 0) (sym same) ∙ ap (λ n. amount_at rows n k) is ∙ sym (amount_row changes rows t k);
}

pub inside_yes : (from to i n : ℕ) → from ≤ i → i < to → cond (nat_le from i && nat_lt i to) n 0 ≡ n
inside_yes from to i n first last = cond-true _ _ _ (and_from _ _ (le-leb from i first) (lt-ltb i to last))

pub inside_before : (from to i n : ℕ) → i < from → cond (nat_le from i && nat_lt i to) n 0 ≡ 0
inside_before from to i n before = cond-false _ _ _ (and_left _ _ (lt-leb from i before))

pub inside_after : (from to i n : ℕ) → to ≤ i → cond (nat_le from i && nat_lt i to) n 0 ≡ 0
inside_after from to i n after = cond-false _ _ _ (and_right _ _ (le-ltb i to after))

-- the next row to be raised is unchanged so far
pub raised_next : (amounts : List ℕ) (from i : ℕ) (needs amounts2 : List ℕ) (k : ℕ) → AreRaised amounts from i needs amounts2 → k < length needs
    → get_or amounts2 (i * length needs + k) 0 ≡ get_or amounts (i * length needs + k) 0
raised_next amounts from i needs amounts2 k raised below =
    let e = inside_after from i i (get_or needs k 0) (omega arith) in
    let old = raised.each i k below in
    omega arith

-- amounts in which only those of row i changed
pub record IsWithRow (amounts : List ℕ) (i : ℕ) (row amounts2 : List ℕ) : Type 0 where
  pub size : length amounts2 ≡ length amounts
  pub here : (k : ℕ) → k < length row → get_or amounts2 (i * length row + k) 0 ≡ get_or row k 0
  pub others : (j k : ℕ) → k < length row → j ≢ i → get_or amounts2 (j * length row + k) 0 ≡ get_or amounts (j * length row + k) 0

-- a row of width w is written
pub with_row : (xs : List ℕ) (i w : ℕ) (ys : List ℕ) → length ys ≡ w → i * w + w ≤ length xs → IsWithRow xs i ys (put_mid (i * w) w xs ys)
with_row xs i w ys wide fits =
    let front = length-take-le (i * w) xs (omega arith) in
    let rest = length-drop w (drop (i * w) xs) in
    let behind = length-drop (i * w) xs in
    let back = length-append ys (drop w (drop (i * w) xs)) in
    let all = length-append (take (i * w) xs) (ys ++ drop w (drop (i * w) xs)) in
    record {
      size = omega arith;
      here = λ k below. rw wide
          (get_or-append_right (take (i * w) xs) (ys ++ drop w (drop (i * w) xs)) (i * w) (i * w + k) 0 front (omega arith)
          ∙ (let e : i * w + k - i * w ≡ k = omega arith in ap (λ n. get_or (ys ++ drop w (drop (i * w) xs)) n 0) e)
          ∙ get_or_append_left ys (drop w (drop (i * w) xs)) 0 k below);
      others = λ j k below other. rw wide (elim (cases_lt j i) [
        | inl before ↦
            (let ends = row_fits j w i w before (omega arith) in
            get_or_append_left (take (i * w) xs) (ys ++ drop w (drop (i * w) xs)) 0 (j * w + k) (omega arith) ∙ get_or-take (i * w) xs (j * w + k) 0 (omega arith))
        | inr from ↦
            (let ends = row_fits i w j w (omega arith) (omega arith) in
            get_or-append_right (take (i * w) xs) (ys ++ drop w (drop (i * w) xs)) (i * w) (j * w + k) 0 front (omega arith)
            ∙ get_or-append_right ys (drop w (drop (i * w) xs)) w (j * w + k - i * w) 0 wide (omega arith)
            ∙ get_or-drop w (drop (i * w) xs) (j * w + k - i * w - w) 0
            ∙ get_or-drop (i * w) xs (w + (j * w + k - i * w - w)) 0
            ∙ (let e : i * w + (w + (j * w + k - i * w - w)) ≡ j * w + k = omega arith in ap (λ n. get_or xs n 0) e))
      ]);
    }

-- one more row is raised
pub raised_more : (amounts : List ℕ) (from i : ℕ) (needs amounts2 row sums amounts3 : List ℕ) → from ≤ i → length row ≡ length needs → AreRaised amounts from i needs amounts2
    → ((k : ℕ) → k < length needs → get_or row k 0 ≡ get_or amounts2 (i * length needs + k) 0) →
    IsRowWith row needs sums → IsWithRow amounts2 i sums amounts3 →
    AreRaised amounts from (i + 1) needs amounts3
raised_more amounts from i needs amounts2 row sums amounts3 first even raised is with put =
    let wide : length sums ≡ length needs = with.even ∙ even in
    record {
      size = put.size ∙ raised.size;
      each = λ j k below. elim (cases_eq j i) [
        | inl same ↦
            (let here = rw wide at (put.here k (omega arith)) in
            let place = ap (λ n. get_or amounts3 (n * length needs + k) 0) same in
            let start = ap (λ n. get_or amounts (n * length needs + k) 0) same in
            let was = is k below in
            let sum = with.each k in
            let old = raised_next amounts from i needs amounts2 k raised below in
            let now = inside_yes from (i + 1) j (get_or needs k 0) (omega arith) (omega arith) in
            omega arith)
        | inr other ↦
            (let there = rw wide at (put.others j k (omega arith) other) in
            let old = raised.each j k below in
            elim (cases_lt j from) [
              | inl before ↦
                  (let e = inside_before from i j (get_or needs k 0) before in
                  let f = inside_before from (i + 1) j (get_or needs k 0) before in
                  omega arith)
              | inr since ↦ elim (cases_lt j i) [
                | inl early ↦
                    (let e = inside_yes from i j (get_or needs k 0) since early in
                    let f = inside_yes from (i + 1) j (get_or needs k 0) since (omega arith) in
                    omega arith)
                | inr late ↦
                    (let e = inside_after from i j (get_or needs k 0) late in
                    let f = inside_after from (i + 1) j (get_or needs k 0) (omega arith) in
                    omega arith)
              ]
            ])
      ];
    }

-- amounts that are raised are raised rows
pub raised_rows : (changes amounts : List ℕ) (from to : ℕ) (needs amounts2 : List ℕ) → AreRows (length needs) changes amounts → to ≤ length changes + 1 → AreRaised amounts from to needs amounts2
    → IsRaised (lists (length needs) changes amounts) from to needs (lists (length needs) changes amounts2)
raised_rows changes amounts from to needs amounts2 whole within raised = record {
  size = length_lists (length needs) changes amounts2 ∙ sym (length_lists (length needs) changes amounts);
  even = λ i. elim (cases_lt i (length changes + 1)) [
    | inl inside ↦
        (let here = list_at (length needs) changes amounts i (omega arith) in
        let now = list_at (length needs) changes amounts2 i (omega arith) in
        let fits = row_within (length needs) changes amounts i whole (omega arith) in
        let size = raised.size in
        ap length now ∙ length-row_at (length needs) amounts2 i (omega arith) ∙ sym (ap length here ∙ length-row_at (length needs) amounts i fits))
    | inr past ↦ ap length (list_past (length needs) changes amounts2 i past ∙ sym (list_past (length needs) changes amounts i past))
  ];
  each = λ i k. elim (cases_lt i (length changes + 1)) [
    | inl inside ↦ elim (cases_lt k (length needs)) [
      | inl below ↦
          (let here = amount_there (length needs) changes amounts i k (omega arith) below in
          let now = amount_there (length needs) changes amounts2 i k (omega arith) below in
          let sum = raised.each i k below in
          omega arith)
      | inr wide ↦
          (let size = raised.size in
          let fits = row_within (length needs) changes amounts i whole (omega arith) in
          let here = amount_beside (length needs) changes amounts i k (omega arith) fits wide in
          let now = amount_beside (length needs) changes amounts2 i k (omega arith) (omega arith) wide in
          let none = get_or_past needs k 0 wide in
          let added = cond_zero (nat_le from i && nat_lt i to) (get_or needs k 0) none in
          omega arith)
    ]
    | inr past ↦
        (let here = ap (λ r. get_or r k 0) (list_past (length needs) changes amounts i past) in
        let now = ap (λ r. get_or r k 0) (list_past (length needs) changes amounts2 i past) in
        let none = inside_after from to i (get_or needs k 0) (omega arith) in
        omega arith)
  ];
}

-- the sums of amounts fit into 64 bits if those of the rows do
pub sums_flat : (changes amounts : List ℕ) (from to : ℕ) (needs : List ℕ) → to ≤ length changes + 1 → HasSums (lists (length needs) changes amounts) from to needs → HaveSums amounts from to needs
sums_flat changes amounts from to needs within sums i k first last below =
    let there = amount_there (length needs) changes amounts i k (omega arith) below in
    let sum = sums i k first last below in
    omega arith
