-- Rows found by their keys: maps from keys to indices, and from desks to numbers of plans.
use Rattle.std.proofs.Common.{◌≡◌, ◌⊎◌, inl, inr, ℕ, zero, suc, ◌<◌, ◌≤◌, ◌-◌, ◌+◌, Bool, true, false, List, [], ◌∷◌, length, length-drop, drop, get_or, Some, None, refl, sym, ap, ◌∙◌, arith, Bor}
use Rattle.std.specs.Prelude.{not, cond, nat_lt, unwrap_or, filter, string_bytes}
use Rattle.std.specs.List.{position_from, position, prefix_len}
use Rattle.std.specs.HashMap.{HashMap, get_by}
use Rattle.std.proofs.lemmas.Bool.{cases_Bool}
use Rattle.std.proofs.lemmas.Slice.Eq.{bytes_eq-Decides}
use Rattle.plan_rows.specs.declared.row_tests.other_rows.PlanSeen.{PlanSeen}
use Rattle.plan_rows.specs.World.{Text, same_text}
use Rattle.plan_rows.specs.RowTests.{RowKey, HeldKey, shown_key, same_key, AreCounts}
use Rattle.plan_rows.proofs.KeyedLemmas.{same_key_swap, text_key}

module _ {R : Type 0} (key : R → RowKey) where
  -- the first index among the rows from i on, and one more row
  place_more : (p : R → Bool) (rows : List R) (i j : ℕ) (d : R) → i < length rows → position_from p j (drop i rows) ≡ cond (p (get_or rows i d)) (Some j) (position_from p (j + 1) (drop (suc i) rows))
  place_more p [] i j d low = absurd (omega (arith, low))
  place_more p (row ∷ rows) zero j d low = refl
  place_more p (row ∷ rows) (suc i) j d low = place_more p rows i j d (omega (arith, low))

  -- the first indices after a key is inserted
  pub placed_more : {S : Type 0} (rows : List R) (i : ℕ) (row : R) (k : HeldKey) (places now : HashMap HeldKey ℕ S) → 0 < i → i ≤ length rows → row ≡ get_or rows (i - 1) row → shown_key k ≡ key row
      → ((q : HeldKey) → get_by (λ t. same_key (shown_key q) (shown_key t)) now ≡ cond
      (same_key (shown_key k) (shown_key q)) (Some (i - 1))
      (get_by (λ t. same_key (shown_key q) (shown_key t)) places))
      → ((q : HeldKey) → get_by (λ t. same_key (shown_key q) (shown_key t)) places ≡ position_from (λ r. same_key (shown_key q) (key r)) i (drop i rows))
      → (q : HeldKey) → get_by (λ t. same_key (shown_key q) (shown_key t)) now ≡ position_from (λ r. same_key (shown_key q) (key r)) (i - 1) (drop (i - 1) rows)
  placed_more rows zero row k places now some low here is puts has = absurd (omega (arith, some))
  placed_more rows (suc i) row k places now some low here is puts has = λ q.
      let back : suc i - 1 ≡ i = omega arith in
      let forth : suc i ≡ i + 1 = omega arith in
      let there : row ≡ get_or rows i row = here ∙ ap (λ n. get_or rows n row) back in
      puts q ∙ ap (λ b. cond b (Some (suc i - 1)) (get_by (λ t. same_key (shown_key q) (shown_key t)) places))
      (same_key_swap (shown_key k) (shown_key q) ∙ ap (same_key (shown_key q)) (is ∙ ap key there))
      ∙ ap (λ o. cond (same_key (shown_key q) (key (get_or rows i row))) (Some (suc i - 1)) o) (has q ∙ ap (λ n. position_from (λ r. same_key (shown_key q) (key r)) n (drop (suc i) rows)) forth)
      ∙ ap (λ n. cond (same_key (shown_key q) (key (get_or rows i row))) (Some n) (position_from (λ r. same_key (shown_key q) (key r)) (i + 1) (drop (suc i) rows))) back
      ∙ sym (place_more (λ r. same_key (shown_key q) (key r)) rows i i row (omega (arith, low)))
      ∙ ap (λ n. position_from (λ r. same_key (shown_key q) (key r)) n (drop n rows)) (sym back)

-- ---- tests that agree

-- a key of a text alone, in reverse
pub key_text : (t u : Text) → same_key (t, 0, 0, 0) (u, 0, 0, 0) ≡ same_text u t
key_text t u = same_key_swap (t, 0, 0, 0) (u, 0, 0, 0) ∙ text_key u t

prefix_as : {A : Type 0} (p q : A → Bool) → ((a : A) → p a ≡ q a) → (xs : List A) → prefix_len p xs ≡ prefix_len q xs
prefix_as p q agree [] = refl
prefix_as p q agree (x ∷ xs) = ap (λ b. cond b (1 + prefix_len p xs) 0) (agree x) ∙ ap (λ n. cond (q x) (1 + n) 0) (prefix_as p q agree xs)

-- the first index by tests that agree
pub position_as : {A : Type 0} (p q : A → Bool) → ((a : A) → p a ≡ q a) → (xs : List A) → position p xs ≡ position q xs
position_as p q agree xs = ap (λ n. cond (nat_lt n (length xs)) (Some n) None) (prefix_as (λ x. not (p x)) (λ x. not (q x)) (λ x. ap not (agree x)) xs)

-- ---- counts

filter_low : {A : Type 0} (p : A → Bool) (xs : List A) → length (filter p xs) ≤ length xs
filter_low p [] = omega arith
filter_low p (x ∷ xs) = grind (arith, cases_Bool (p x), filter_low p xs)

filter_more : {A : Type 0} (p : A → Bool) (xs : List A) (i : ℕ) (d : A) → i < length xs
    → length (filter p (drop i xs)) ≡ cond (p (get_or xs i d)) (length (filter p (drop (suc i) xs)) + 1) (length (filter p (drop (suc i) xs)))
filter_more p [] i d low = absurd (omega (arith, low))
filter_more p (x ∷ xs) zero d low = grind (arith, cases_Bool (p x))
filter_more p (x ∷ xs) (suc i) d low = filter_more p xs i d (omega (arith, low))

-- one more can be counted, since at most the rows after it remain
pub count_low : {A : Type 0} (p : A → Bool) (xs : List A) (i count : ℕ) → 0 < i → i ≤ length xs → count ≡ length (filter p (drop i xs)) → count + 1 ≤ length xs
count_low p xs i count some low e = omega (arith, some, low, e, filter_low p (drop i xs), length-drop i xs)

-- the counts after one row more was counted
pub counted_more : {S : Type 0} (rows : List PlanSeen) (i : ℕ) (row : PlanSeen) (desk : Bor (List ℕ)) (count : ℕ) (counts now : HashMap (Bor (List ℕ)) ℕ S)
    → 0 < i → i ≤ length rows → row ≡ get_or rows (i - 1) row → desk.now ≡ string_bytes row.desk → count ≡ length (filter (λ r. same_text (string_bytes r.desk) desk.now) (drop i rows))
    → ((q : Bor (List ℕ)) → get_by (λ k. same_text q.now k.now) now ≡ cond (same_text desk.now q.now) (Some (count + 1)) (get_by (λ k. same_text q.now k.now) counts))
    → AreCounts counts (drop i rows) → AreCounts now (drop (i - 1) rows)
counted_more rows zero row desk count counts now some low here is e puts has = absurd (omega (arith, some))
counted_more rows (suc i) row desk count counts now some low here is e puts has = λ q. by q (cases_Bool (same_text desk.now q.now))
  where
    back : suc i - 1 ≡ i
    back = omega arith

    there : row ≡ get_or rows i row
    there = here ∙ ap (λ n. get_or rows n row) back

    behind : Bor (List ℕ) → ℕ
    behind q = length (filter (λ r. same_text (string_bytes r.desk) q.now) (drop (suc i) rows))

    one : (q : Bor (List ℕ)) → length (filter (λ r. same_text (string_bytes r.desk) q.now) (drop (suc i - 1) rows)) ≡ cond (same_text desk.now q.now) (behind q + 1) (behind q)
    one q = ap (λ n. length (filter (λ r. same_text (string_bytes r.desk) q.now) (drop n rows))) back
        ∙ filter_more (λ r. same_text (string_bytes r.desk) q.now) rows i row (omega (arith, low))
        ∙ ap (λ t. cond (same_text t q.now) (behind q + 1) (behind q)) (sym (is ∙ ap (λ r. string_bytes r.desk) there))

    by : (q : Bor (List ℕ)) → (same_text desk.now q.now ≡ true) ⊎ (same_text desk.now q.now ≡ false)
        → unwrap_or (get_by (λ k. same_text q.now k.now) now) 0 ≡ length (filter (λ r. same_text (string_bytes r.desk) q.now) (drop (suc i - 1) rows))
    by q (inl same) =
        ap (λ o. unwrap_or o 0) (puts q) ∙ ap (λ b. unwrap_or (cond b (Some (count + 1)) (get_by (λ k. same_text q.now k.now) counts)) 0) same
        ∙ ap (λ n. n + 1) (e ∙ ap (λ t. length (filter (λ r. same_text (string_bytes r.desk) t) (drop (suc i) rows))) ((bytes_eq-Decides desk.now q.now).0 same))
        ∙ sym (one q ∙ ap (λ b. cond b (behind q + 1) (behind q)) same)
    by q (inr other) =
        ap (λ o. unwrap_or o 0) (puts q) ∙ ap (λ b. unwrap_or (cond b (Some (count + 1)) (get_by (λ k. same_text q.now k.now) counts)) 0) other
        ∙ has q ∙ sym (one q ∙ ap (λ b. cond b (behind q + 1) (behind q)) other)
