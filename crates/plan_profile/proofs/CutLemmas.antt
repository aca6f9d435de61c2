-- Steps after an instant is inserted or removed.
use Rattle.std.proofs.Common.{◌≡◌, ◌≢◌, ℕ, ◌+◌, ◌-◌, ◌≤◌, ◌<◌, List, [], length, get_or, refl, sym, ◌∙◌, ap, inl, inr, arith}
use Rattle.std.specs.Prelude.{Contains, insert, remove}
use Rattle.std.proofs.lemmas.List.{ext_get_or}
use Rattle.std.proofs.lemmas.List.Edits.{length-insert, get_or-insert_below, get_or-insert_at, get_or-insert_above, length-remove, get_or-remove_below, get_or-remove_above}
use Rattle.std.proofs.lemmas.Bool.{cases_lt, cases_eq}
use Rattle.plan_profile.specs.Steps.{changes_until, amount_at, amount, IsSteps}
use Rattle.plan_profile.specs.Changes.{IsRowOf, IsCut, IsMerged}
use Rattle.plan_profile.proofs.SegmentLemmas.{come, come_yes, come_no, within, beyond, until_mono, until_within, until_insert, until_remove, until_there, last_there}
use Rattle.plan_profile.proofs.EditLemmas.{insert_cases, remove_cases, rising_insert, rising_remove, contains_insert, inserted_there, insert_keeps, contains_remove, remove_keeps, removed_gone}
use Rattle.plan_profile.proofs.StepLemmas.{amount_is, before_change, from_change}

-- the amounts after a copy of row i is inserted after it
inserted_amounts : (changes : List ℕ) (rows : List (List ℕ)) (at i t k : ℕ) (row : List ℕ) → IsSteps changes rows → IsRowOf changes rows at row → i ≡ changes_until changes at
    → amount (insert changes i at) (insert rows (i + 1) row) t k ≡ amount changes rows t k
inserted_amounts changes rows at i t k row steps copy is =
    let most = until_within changes at in
    let size = steps.one_more in
    let within_rows : i + 1 ≤ length rows = omega arith in
    let n = changes_until changes t in
    let counted = until_insert changes i at t in
    elim (cases_lt t at) [
      | inl before ↦
          (let none = come_no t at before in
          let fewer : n ≤ i = (let m = until_mono changes t at steps.rising (omega arith) in omega arith) in
          let same : changes_until (insert changes i at) t ≡ n = omega arith in
          amount_is (insert changes i at) (insert rows (i + 1) row) t k n same
          ∙ ap (λ r. get_or r k 0) (get_or-insert_below rows (i + 1) row [] n (omega arith) within_rows)
          ∙ sym (amount_is changes rows t k n refl))
      | inr from ↦
          (let one = come_yes t at from in
          let no_fewer : i ≤ n = (let m = until_mono changes at t steps.rising from in omega arith) in
          let more : changes_until (insert changes i at) t ≡ n + 1 = omega arith in
          amount_is (insert changes i at) (insert rows (i + 1) row) t k (n + 1) more
          ∙ elim (cases_eq n i) [
            | inl same ↦
                (let e : n + 1 ≡ i + 1 = omega arith in
                ap (λ j. amount_at (insert rows (i + 1) row) j k) e
                ∙ ap (λ r. get_or r k 0) (get_or-insert_at rows (i + 1) row [] within_rows)
                ∙ copy.each k
                ∙ amount_is changes rows at k i (sym is)
                ∙ sym (amount_is changes rows t k i same))
            | inr other ↦
                (ap (λ r. get_or r k 0) (get_or-insert_above rows (i + 1) row [] n (omega arith) within_rows)
                ∙ sym (amount_is changes rows t k n refl))
          ])
    ]

even_insert : (rows : List (List ℕ)) (i w : ℕ) (row : List ℕ) → i ≤ length rows → length row ≡ w → ((j : ℕ) → j < length rows → length (get_or rows j []) ≡ w)
    → (j : ℕ) → j < length (insert rows i row) → length (get_or (insert rows i row) j []) ≡ w
even_insert rows i w row within same even j inside =
    let size = length-insert rows i row within in
    elim (insert_cases rows i row [] j within) [
      | inl (f, e) ↦ ap length e ∙ even j (omega arith)
      | inr (inl (f, e)) ↦ ap length e ∙ same
      | inr (inr (f, e)) ↦ ap length e ∙ even (j - 1) (omega arith)
    ]

-- an instant that is new
pub cut_new : (changes : List ℕ) (rows : List (List ℕ)) (at i : ℕ) (row : List ℕ) → IsSteps changes rows → IsRowOf changes rows at row → i ≡ changes_until changes at
    → (0 < i → get_or changes (i - 1) 0 ≢ at) → IsCut changes rows at (insert changes i at) (insert rows (i + 1) row)
cut_new changes rows at i row steps copy is new =
    let most = until_within changes at in
    let size = steps.one_more in
    let within_changes : i ≤ length changes = omega arith in
    let within_rows : i + 1 ≤ length rows = omega arith in
    let more_changes = length-insert changes i at within_changes in
    let more_rows = length-insert rows (i + 1) row within_rows in
    let first : get_or (insert rows (i + 1) row) 0 [] ≡ get_or rows 0 [] = get_or-insert_below rows (i + 1) row [] 0 (omega arith) within_rows in
    let in_front : (j : ℕ) → j < i → get_or changes j 0 < at = λ j below.
    (let came = within changes at j steps.rising (omega arith) in
    let last = within changes at (i - 1) steps.rising (omega arith) in
    let not_last = new (omega arith) in
    elim (cases_lt j (i - 1)) [
      | inl before ↦ (let r = steps.rising j (i - 1) before (omega arith) in omega arith)
      | inr not ↦ (let e : j ≡ i - 1 = omega arith in let same = ap (λ n. get_or changes n 0) e in omega arith)
    ]) in
    record {
      usage = record {
        steps = record {
          one_more = omega arith;
          even = λ j inside. even_insert rows (i + 1) (length (get_or rows 0 [])) row within_rows copy.even steps.even j inside ∙ sym (ap length first);
          rising = rising_insert changes i at steps.rising within_changes in_front (λ j from inside. beyond changes at j steps.rising (omega arith) inside);
          none_first = λ k. ap (λ r. get_or r k 0) first ∙ steps.none_first k;
        };
        first = first;
        same = λ t k. inserted_amounts changes rows at i t k row steps copy is;
      };
      there = inserted_there changes i at within_changes;
      kept = λ c there. insert_keeps changes i at c within_changes there;
      only = λ c there. contains_insert changes i at c within_changes there;
    }

-- an instant at which the rows differ is kept
pub merge_stay : (changes : List ℕ) (rows : List (List ℕ)) (at i : ℕ) → IsSteps changes rows → Contains changes at → i ≡ changes_until changes at
    → get_or rows (i - 1) [] ≢ get_or rows i [] → IsMerged changes rows at changes rows
merge_stay changes rows at i steps there is differ =
    let some = until_there changes at steps.rising there in
    let most = until_within changes at in
    let last : get_or changes (i - 1) 0 ≡ at = (let e = last_there changes at steps.rising there in rw is e) in
    let size = steps.one_more in
    let inside : i - 1 < length changes = omega arith in
    record {
      usage = record { steps = steps; first = refl; same = λ t k. refl };
      kept = λ c has other. has;
      only = λ c has. has;
      true_change = λ has same. differ (ext_get_or 0 (get_or rows (i - 1) []) (get_or rows i [])
          (steps.even (i - 1) (omega arith) ∙ sym (steps.even i (omega arith)))
          (λ k below.
          sym (before_change changes rows (i - 1) at k steps inside last)
          ∙ sym (same k)
          ∙ from_change changes rows (i - 1) at k steps inside last
          ∙ (let e : i - 1 + 1 ≡ i = omega arith in ap (λ n. amount_at rows n k) e)));
    }

-- the amounts after a row that equals the row before it is removed
removed_amounts : (changes : List ℕ) (rows : List (List ℕ)) (at i t k : ℕ) → IsSteps changes rows → i + 1 ≡ changes_until changes at → i < length changes → get_or changes i 0 ≡ at
    → get_or rows i [] ≡ get_or rows (i + 1) [] → amount (remove changes i) (remove rows (i + 1)) t k ≡ amount changes rows t k
removed_amounts changes rows at i t k steps is inside last alike =
    let size = steps.one_more in
    let within_rows : i + 1 < length rows = omega arith in
    let n = changes_until changes t in
    let counted = until_remove changes i t inside in
    let here : come t (get_or changes i 0) ≡ come t at = ap (come t) last in
    elim (cases_lt t at) [
      | inl before ↦
          (let none = come_no t at before in
          let fewer : n ≤ i = (elim (cases_lt i n) [
            | inl above ↦ (let e = within changes t i steps.rising above in absurd (omega arith))
            | inr below ↦ below
          ]) in
          let same : changes_until (remove changes i) t ≡ n = omega arith in
          amount_is (remove changes i) (remove rows (i + 1)) t k n same
          ∙ ap (λ r. get_or r k 0) (get_or-remove_below rows (i + 1) [] n (omega arith) within_rows)
          ∙ sym (amount_is changes rows t k n refl))
      | inr from ↦
          (let one = come_yes t at from in
          let no_fewer : i + 1 ≤ n = (let m = until_mono changes at t steps.rising from in omega arith) in
          let less : changes_until (remove changes i) t ≡ n - 1 = omega arith in
          amount_is (remove changes i) (remove rows (i + 1)) t k (n - 1) less
          ∙ elim (cases_eq n (i + 1)) [
            | inl same ↦
                (let e : n - 1 ≡ i = omega arith in
                ap (λ j. amount_at (remove rows (i + 1)) j k) e
                ∙ ap (λ r. get_or r k 0) (get_or-remove_below rows (i + 1) [] i (omega arith) within_rows ∙ alike)
                ∙ sym (amount_is changes rows t k (i + 1) same))
            | inr other ↦
                (let e : n - 1 + 1 ≡ n = omega arith in
                ap (λ r. get_or r k 0) (get_or-remove_above rows (i + 1) [] (n - 1) (omega arith) within_rows)
                ∙ ap (λ j. amount_at rows j k) e
                ∙ sym (amount_is changes rows t k n refl))
          ])
    ]

even_remove : (rows : List (List ℕ)) (i w : ℕ) → i < length rows → ((j : ℕ) → j < length rows → length (get_or rows j []) ≡ w)
    → (j : ℕ) → j < length (remove rows i) → length (get_or (remove rows i) j []) ≡ w
even_remove rows i w within even j inside =
    let size = length-remove rows i within in
    elim (remove_cases rows i [] j within) [
      | inl (f, e) ↦ ap length e ∙ even j (omega arith)
      | inr (f, e) ↦ ap length e ∙ even (j + 1) (omega arith)
    ]

-- an instant at which the rows are equal is removed
pub merge_away : (changes : List ℕ) (rows : List (List ℕ)) (at i : ℕ) → IsSteps changes rows → Contains changes at → i ≡ changes_until changes at
    → get_or rows (i - 1) [] ≡ get_or rows i [] → IsMerged changes rows at (remove changes (i - 1)) (remove rows i)
merge_away changes rows at i steps there is alike =
    let some = until_there changes at steps.rising there in
    let most = until_within changes at in
    let last : get_or changes (i - 1) 0 ≡ at = (let e = last_there changes at steps.rising there in rw is e) in
    let size = steps.one_more in
    let inside : i - 1 < length changes = omega arith in
    let within_rows : i < length rows = omega arith in
    let fewer_changes = length-remove changes (i - 1) inside in
    let fewer_rows = length-remove rows i within_rows in
    let first : get_or (remove rows i) 0 [] ≡ get_or rows 0 [] = get_or-remove_below rows i [] 0 (omega arith) within_rows in
    let back : i - 1 + 1 ≡ i = omega arith in
    record {
      usage = record {
        steps = record {
          one_more = omega arith;
          even = λ j has. even_remove rows i (length (get_or rows 0 [])) within_rows steps.even j has ∙ sym (ap length first);
          rising = rising_remove changes (i - 1) steps.rising inside;
          none_first = λ k. ap (λ r. get_or r k 0) first ∙ steps.none_first k;
        };
        first = first;
        same = λ t k. ap (λ n. amount (remove changes (i - 1)) (remove rows n) t k) (sym back)
            ∙ removed_amounts changes rows at (i - 1) t k steps (back ∙ is) inside last (alike ∙ ap (λ n. get_or rows n []) (sym back));
      };
      kept = λ c has other. remove_keeps changes (i - 1) c inside has (λ e. other (e ∙ last));
      only = λ c has. contains_remove changes (i - 1) c inside has;
      true_change = λ has same. absurd (removed_gone changes (i - 1) steps.rising inside (rw last has));
    }
