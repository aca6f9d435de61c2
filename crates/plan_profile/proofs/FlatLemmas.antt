-- Rows in one list, one after another: their positions, and the rows after an edit of the list.
use Rattle.std.proofs.Common.{◌≡◌, ℕ, zero, suc, ◌+◌, ◌-◌, ◌*◌, ◌≤◌, ◌<◌, List, [], ◌++◌, length, get_or, take, drop, sym, ◌∙◌, ap, inl, inr, arith}
use Rattle.std.specs.Prelude.{insert, remove}
use Rattle.std.proofs.lemmas.List.{ext_get_or, get_or-take, get_or-drop, get_or_append_left, get_or-append_right, get_or_past, length-take-le, length-drop, length-append}
use Rattle.std.proofs.lemmas.List.FromFn.{length-map-range_with_len, get_or-map-range_with_len}
use Rattle.std.proofs.lemmas.List.Edits.{length-insert, length-remove}
use Rattle.std.proofs.lemmas.Nat.{mul-le, row_fits}
use Rattle.plan_profile.specs.Steps.{row_at, lists, amount_at, AreRows}
use Rattle.plan_profile.proofs.EditLemmas.{insert_cases, remove_cases}

pub length_lists : (width : ℕ) (changes amounts : List ℕ) → length (lists width changes amounts) ≡ length changes + 1
unfolding lists
length_lists width changes amounts = length-map-range_with_len (row_at width amounts) 0 (length changes + 1)

pub list_at : (width : ℕ) (changes amounts : List ℕ) (i : ℕ) → i ≤ length changes → get_or (lists width changes amounts) i [] ≡ row_at width amounts i
unfolding lists
list_at width changes amounts i inside = get_or-map-range_with_len (row_at width amounts) 0 (length changes + 1) i i [] (omega arith) (omega arith)

pub list_past : (width : ℕ) (changes amounts : List ℕ) (i : ℕ) → length changes + 1 ≤ i → get_or (lists width changes amounts) i [] ≡ []
list_past width changes amounts i past = get_or_past (lists width changes amounts) i [] (let e = length_lists width changes amounts in omega arith)

-- a row of whole rows ends within them
pub row_within : (width : ℕ) (changes amounts : List ℕ) (i : ℕ) → AreRows width changes amounts → i ≤ length changes → i * width + width ≤ length amounts
row_within width changes amounts i whole inside = let e = row_fits i width (length changes + 1) width (omega arith) (omega arith) in omega arith

pub length-row_at : (width : ℕ) (amounts : List ℕ) (i : ℕ) → i * width + width ≤ length amounts → length (row_at width amounts i) ≡ width
length-row_at width amounts i within = length-take-le width (drop (i * width) amounts) (let e = length-drop (i * width) amounts in omega arith)

pub get_or-row_at : (width : ℕ) (amounts : List ℕ) (i k : ℕ) → k < width → get_or (row_at width amounts i) k 0 ≡ get_or amounts (i * width + k) 0
get_or-row_at width amounts i k inside = get_or-take width (drop (i * width) amounts) k 0 inside ∙ get_or-drop (i * width) amounts k 0

-- an amount of a row, by its index in the list
pub amount_there : (width : ℕ) (changes amounts : List ℕ) (i k : ℕ) → i ≤ length changes → k < width → amount_at (lists width changes amounts) i k ≡ get_or amounts (i * width + k) 0
amount_there width changes amounts i k inside below = ap (λ r. get_or r k 0) (list_at width changes amounts i inside) ∙ get_or-row_at width amounts i k below

pub amount_beside : (width : ℕ) (changes amounts : List ℕ) (i k : ℕ) → i ≤ length changes → i * width + width ≤ length amounts → width ≤ k → amount_at (lists width changes amounts) i k ≡ 0
amount_beside width changes amounts i k inside within beside =
    ap (λ r. get_or r k 0) (list_at width changes amounts i inside)
    ∙ get_or_past (row_at width amounts i) k 0 (let e = length-row_at width amounts i within in omega arith)

-- two rows with the same amounts
pub same_rows : (width : ℕ) (xs : List ℕ) (i : ℕ) (ys : List ℕ) (j : ℕ) → i * width + width ≤ length xs → j * width + width ≤ length ys
    → ((k : ℕ) → k < width → get_or xs (i * width + k) 0 ≡ get_or ys (j * width + k) 0) → row_at width xs i ≡ row_at width ys j
same_rows width xs i ys j here there same =
    let first = length-row_at width xs i here in
    let second = length-row_at width ys j there in
    ext_get_or 0 (row_at width xs i) (row_at width ys j) (first ∙ sym second)
    (λ k inside. get_or-row_at width xs i k (omega arith) ∙ same k (omega arith) ∙ sym (get_or-row_at width ys j k (omega arith)))

-- the front of one list and the end of another
joined_front : (xs ys : List ℕ) (m k : ℕ) → m ≤ length xs → k < m → get_or (take m xs ++ ys) k 0 ≡ get_or xs k 0
joined_front xs ys m k within before =
    get_or_append_left (take m xs) ys 0 k (let e = length-take-le m xs within in omega arith) ∙ get_or-take m xs k 0 before

joined_back : (xs : List ℕ) (m n k : ℕ) → m ≤ length xs → m ≤ k → get_or (take m xs ++ drop n xs) k 0 ≡ get_or xs (n + (k - m)) 0
joined_back xs m n k within behind =
    get_or-append_right (take m xs) (drop n xs) m k 0 (length-take-le m xs within) behind ∙ get_or-drop n xs (k - m) 0

length-joined : (xs : List ℕ) (m n : ℕ) → m ≤ length xs → length (take m xs ++ drop n xs) ≡ m + (length xs - n)
length-joined xs m n within =
    let front = length-take-le m xs within in
    let back = length-drop n xs in
    let both = length-append (take m xs) (drop n xs) in
    omega arith

joined_row_front : (width : ℕ) (xs : List ℕ) (m n j : ℕ) → m ≤ length xs → j * width + width ≤ m → row_at width (take m xs ++ drop n xs) j ≡ row_at width xs j
joined_row_front width xs m n j within before =
    let size = length-joined xs m n within in
    same_rows width (take m xs ++ drop n xs) j xs j (omega arith) (omega arith)
    (λ k inside. joined_front xs (drop n xs) m (j * width + k) within (omega arith))

joined_row_back : (width : ℕ) (xs : List ℕ) (m n j l : ℕ) → m ≤ length xs → m ≤ j * width → j * width + n ≡ l * width + m → l * width + width ≤ length xs
    → row_at width (take m xs ++ drop n xs) j ≡ row_at width xs l
joined_row_back width xs m n j l within behind moved inside =
    let size = length-joined xs m n within in
    same_rows width (take m xs ++ drop n xs) j xs l (omega arith) inside
    (λ k below. joined_back xs m n (j * width + k) within (omega arith) ∙ (let e : n + (j * width + k - m) ≡ l * width + k = omega arith in ap (λ p. get_or xs p 0) e))

-- a row ends where the next one begins
row_before : (j w : ℕ) → 0 < j → (j - 1) * w + w ≡ j * w
row_before zero w some = absurd (omega arith)
row_before (suc j) w some = let e : suc j - 1 ≡ j = omega arith in rw e (omega arith)

-- the entry at an index after a copy of row i is inserted after it
repeated_at : (width : ℕ) (changes amounts : List ℕ) (i j : ℕ) → AreRows width changes amounts → i ≤ length changes → j ≤ length changes + 1
    → row_at width (take (i * width + width) amounts ++ drop (i * width) amounts) j ≡ get_or (insert (lists width changes amounts) (i + 1) (row_at width amounts i)) j []
repeated_at width changes amounts i j whole inside below =
    let size = length_lists width changes amounts in
    let within = row_within width changes amounts i whole inside in
    elim (insert_cases (lists width changes amounts) (i + 1) (row_at width amounts i) [] j (omega arith)) [
      | inl (before, is) ↦
          (let fits = row_fits j width (i + 1) width before (omega arith) in
          joined_row_front width amounts (i * width + width) (i * width) j within (omega arith) ∙ sym (is ∙ list_at width changes amounts j (omega arith)))
      | inr (inl (same, is)) ↦
          (let e : j * width ≡ i * width + width = (let f = ap (λ n. n * width) same in omega arith) in
          joined_row_back width amounts (i * width + width) (i * width) j i within (omega arith) (omega arith) within ∙ sym is)
      | inr (inr (behind, is)) ↦
          (let e = row_before j width (omega arith) in
          let f = mul-le (i + 1) width j width (omega arith) (omega arith) in
          let last = row_within width changes amounts (j - 1) whole (omega arith) in
          joined_row_back width amounts (i * width + width) (i * width) j (j - 1) within (omega arith) (omega arith) last ∙ sym (is ∙ list_at width changes amounts (j - 1) (omega arith)))
    ]

-- the rows after a copy of row i is inserted after it
pub lists_repeated : (width : ℕ) (changes changes2 amounts : List ℕ) (i : ℕ) → AreRows width changes amounts → i ≤ length changes → length changes2 ≡ length changes + 1
    → lists width changes2 (take (i * width + width) amounts ++ drop (i * width) amounts) ≡ insert (lists width changes amounts) (i + 1) (row_at width amounts i)
lists_repeated width changes changes2 amounts i whole inside more =
    let amounts2 = take (i * width + width) amounts ++ drop (i * width) amounts in
    let size = length_lists width changes amounts in
    let size2 = length_lists width changes2 amounts2 in
    let inserted = length-insert (lists width changes amounts) (i + 1) (row_at width amounts i) (omega arith) in
    ext_get_or [] (lists width changes2 amounts2) (insert (lists width changes amounts) (i + 1) (row_at width amounts i)) (omega arith)
    (λ j below. list_at width changes2 amounts2 j (omega arith) ∙ repeated_at width changes amounts i j whole inside (omega arith))

pub whole_repeated : (width : ℕ) (changes changes2 amounts : List ℕ) (i : ℕ) → AreRows width changes amounts → i ≤ length changes → length changes2 ≡ length changes + 1
    → AreRows width changes2 (take (i * width + width) amounts ++ drop (i * width) amounts)
whole_repeated width changes changes2 amounts i whole inside more =
    let within = row_within width changes amounts i whole inside in
    let size = length-joined amounts (i * width + width) (i * width) within in
    rw more (omega arith)

-- the entry at an index after row i is removed
removed_at : (width : ℕ) (changes amounts : List ℕ) (i j : ℕ) → AreRows width changes amounts → i ≤ length changes → j < length changes
    → row_at width (take (i * width) amounts ++ drop (i * width + width) amounts) j ≡ get_or (remove (lists width changes amounts) i) j []
removed_at width changes amounts i j whole inside below =
    let size = length_lists width changes amounts in
    let within = row_within width changes amounts i whole inside in
    elim (remove_cases (lists width changes amounts) i [] j (omega arith)) [
      | inl (before, is) ↦
          (let fits = row_fits j width i width before (omega arith) in
          joined_row_front width amounts (i * width) (i * width + width) j (omega arith) fits ∙ sym (is ∙ list_at width changes amounts j (omega arith)))
      | inr (behind, is) ↦
          (let f = mul-le i width j width behind (omega arith) in
          let last = row_within width changes amounts (j + 1) whole (omega arith) in
          joined_row_back width amounts (i * width) (i * width + width) j (j + 1) (omega arith) f (omega arith) last ∙ sym (is ∙ list_at width changes amounts (j + 1) (omega arith)))
    ]

-- the rows after row i is removed
pub lists_removed : (width : ℕ) (changes changes2 amounts : List ℕ) (i : ℕ) → AreRows width changes amounts → i ≤ length changes → length changes2 + 1 ≡ length changes
    → lists width changes2 (take (i * width) amounts ++ drop (i * width + width) amounts) ≡ remove (lists width changes amounts) i
lists_removed width changes changes2 amounts i whole inside fewer =
    let amounts2 = take (i * width) amounts ++ drop (i * width + width) amounts in
    let size = length_lists width changes amounts in
    let size2 = length_lists width changes2 amounts2 in
    let removed = length-remove (lists width changes amounts) i (omega arith) in
    ext_get_or [] (lists width changes2 amounts2) (remove (lists width changes amounts) i) (omega arith)
    (λ j below. list_at width changes2 amounts2 j (omega arith) ∙ removed_at width changes amounts i j whole inside (omega arith))

pub whole_removed : (width : ℕ) (changes changes2 amounts : List ℕ) (i : ℕ) → AreRows width changes amounts → i ≤ length changes → length changes2 + 1 ≡ length changes
    → AreRows width changes2 (take (i * width) amounts ++ drop (i * width + width) amounts)
whole_removed width changes changes2 amounts i whole inside fewer =
    let within = row_within width changes amounts i whole inside in
    let size = length-joined amounts (i * width) (i * width + width) (omega arith) in
    let all : length amounts ≡ length changes2 * width + width + width = (let e = ap (λ n. (n + 1) * width) (sym fewer) in omega arith) in
    omega arith

-- the first row is as wide as all
pub first_wide : (width : ℕ) (changes amounts : List ℕ) → AreRows width changes amounts → length (get_or (lists width changes amounts) 0 []) ≡ width
first_wide width changes amounts whole =
    ap length (list_at width changes amounts 0 (omega arith)) ∙ length-row_at width amounts 0 (row_within width changes amounts 0 whole (omega arith))
