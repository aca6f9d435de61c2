-- Keys of rows: a set of the keys of the later rows, and one row more.
use Rattle.std.proofs.Common.{◌≡◌, ◌⊎◌, inl, inr, ℕ, zero, suc, ◌<◌, ◌≤◌, ◌-◌, Bool, true, false, ◌&&◌, ◌==◌, List, [], ◌∷◌, length, map, drop, get_or, refl, sym, ap, ◌∙◌, subst, arith, Result, Ok, Err}
use Rattle.std.specs.Prelude.{not, cond, IfOk}
use Rattle.std.specs.List.{list_any, AllByRecursion}
use Rattle.std.proofs.lemmas.Bool.{cases_Bool, both_ways, or_parts, eqb-true, eq-eqb}
use Rattle.std.proofs.lemmas.Slice.Eq.{bytes_eq-Decides}
use Rattle.plan_rows.specs.World.{Text, same_text}
use Rattle.plan_rows.specs.Rules.{AllDiffer}
use Rattle.plan_rows.specs.RowTests.{Tells, RowKey, HeldKey, shown_key, same_key}
use Rattle.plan_rows.proofs.RowTestLemmas.{tells_same, differ_seen, differ_under}

same_text_swap : (a b : Text) → same_text a b ≡ same_text b a
same_text_swap a b = by_same (cases_Bool (same_text a b)) (cases_Bool (same_text b a))
  where
    by_same : (same_text a b ≡ true) ⊎ (same_text a b ≡ false) → (same_text b a ≡ true) ⊎ (same_text b a ≡ false) → same_text a b ≡ same_text b a
    by_same (inl x) (inl y) = x ∙ sym y
    by_same (inr x) (inr y) = x ∙ sym y
    by_same (inl x) (inr y) = absurd (both_ways (same_text b a) y ((bytes_eq-Decides b a).1 (sym ((bytes_eq-Decides a b).0 x))))
    by_same (inr x) (inl y) = absurd (both_ways (same_text a b) x ((bytes_eq-Decides a b).1 (sym ((bytes_eq-Decides b a).0 y))))

same_number_swap : (m n : ℕ) → (m == n) ≡ (n == m)
same_number_swap m n = by_same (cases_Bool (m == n)) (cases_Bool (n == m))
  where
    by_same : ((m == n) ≡ true) ⊎ ((m == n) ≡ false) → ((n == m) ≡ true) ⊎ ((n == m) ≡ false) → (m == n) ≡ (n == m)
    by_same (inl x) (inl y) = x ∙ sym y
    by_same (inr x) (inr y) = x ∙ sym y
    by_same (inl x) (inr y) = absurd (both_ways (n == m) y (eq-eqb n m (sym (eqb-true m n x))))
    by_same (inr x) (inl y) = absurd (both_ways (m == n) x (eq-eqb m n (sym (eqb-true n m y))))

pub same_key_swap : (a b : RowKey) → same_key a b ≡ same_key b a
same_key_swap a b =
    ap (λ p. ((p && (a.1 == b.1)) && (a.2 == b.2)) && (a.3 == b.3)) (same_text_swap a.0 b.0)
    ∙ ap (λ p. ((same_text b.0 a.0 && p) && (a.2 == b.2)) && (a.3 == b.3)) (same_number_swap a.1 b.1)
    ∙ ap (λ p. ((same_text b.0 a.0 && (b.1 == a.1)) && p) && (a.3 == b.3)) (same_number_swap a.2 b.2)
    ∙ ap (λ p. ((same_text b.0 a.0 && (b.1 == a.1)) && (b.2 == a.2)) && p) (same_number_swap a.3 b.3)

-- the keys that were seen are those of these rows
abbrev pub HasSeen : {R : Type 0} → (R → RowKey) → List HeldKey → List R → Type 0
HasSeen key seen rows = (q : HeldKey) → list_any (λ k. same_key (shown_key q) (shown_key k)) seen ≡ list_any (λ row. same_key (shown_key q) (key row)) rows

module _ {R : Type 0} (key : R → RowKey) where
  none_alike : (x : R) (xs : List R) → list_any (λ y. same_key (key x) (key y)) xs ≡ false → AllByRecursion (λ y. same_key (key x) (key y) ≡ false) xs
  none_alike x [] none = tt
  none_alike x (y ∷ ys) none = let parts = or_parts (same_key (key x) (key y)) (list_any (λ y. same_key (key x) (key y)) ys) none in (parts.0, none_alike x ys parts.1)

  alike_none : (x : R) (xs : List R) → AllByRecursion (λ y. same_key (key x) (key y) ≡ false) xs → list_any (λ y. same_key (key x) (key y)) xs ≡ false
  alike_none x [] none = refl
  alike_none x (y ∷ ys) none = grind (arith, none.0, alike_none x ys none.1)

  differ_more : (rows : List R) (i : ℕ) (d : R) → i < length rows → list_any (λ y. same_key (key (get_or rows i d)) (key y)) (drop (suc i) rows) ≡ false
      → AllDiffer (λ a b. same_key (key a) (key b)) (drop (suc i) rows) → AllDiffer (λ a b. same_key (key a) (key b)) (drop i rows)
  differ_more [] i d low none apart = absurd (omega (arith, low))
  differ_more (row ∷ rows) zero d low none apart = (none_alike row rows none, apart)
  differ_more (row ∷ rows) (suc i) d low none apart = differ_more rows i d (omega (arith, low)) none apart

  not_differ : (rows : List R) (i : ℕ) (d : R) → i < length rows → list_any (λ y. same_key (key (get_or rows i d)) (key y)) (drop (suc i) rows) ≡ true
      → AllDiffer (λ a b. same_key (key a) (key b)) rows → ⊥
  not_differ [] i d low some apart = absurd (omega (arith, low))
  not_differ (row ∷ rows) zero d low some apart = both_ways (list_any (λ y. same_key (key row) (key y)) rows) (alike_none row rows apart.0) some
  not_differ (row ∷ rows) (suc i) d low some apart = not_differ rows i d (omega (arith, low)) some apart.1

  -- one row more among them
  any_more : (p : R → Bool) (rows : List R) (i : ℕ) (d : R) → i < length rows → list_any p (drop i rows) ≡ cond (p (get_or rows i d)) true (list_any p (drop (suc i) rows))
  any_more p [] i d low = absurd (omega (arith, low))
  any_more p (row ∷ rows) zero d low = grind (arith, cases_Bool (p row))
  any_more p (row ∷ rows) (suc i) d low = any_more p rows i d (omega (arith, low))

  -- a key in the set is that of a later row
  pub seen_at : (rows : List R) (i : ℕ) (row : R) (k : HeldKey) (seen : List HeldKey) → 0 < i → i ≤ length rows → row ≡ get_or rows (i - 1) row → shown_key k ≡ key row
      → HasSeen key seen (drop i rows) → {b : Bool} → b ≡ not (list_any (λ q. same_key (shown_key k) (shown_key q)) seen) → b ≡ false
      → AllDiffer (λ a b. same_key (key a) (key b)) rows → ⊥
  seen_at rows zero row k seen some low here is has answer out_ apart = absurd (omega (arith, some))
  seen_at rows (suc i) row k seen some low here is has {b} answer out_ apart =
      let back : suc i - 1 ≡ i = omega arith in
      let there : row ≡ get_or rows i row = here ∙ ap (λ n. get_or rows n row) back in
      let was : list_any (λ q. same_key (shown_key k) (shown_key q)) seen ≡ true = grind (arith, answer, out_, cases_Bool (list_any (λ q. same_key (shown_key k) (shown_key q)) seen)) in
      not_differ rows i row (omega (arith, low))
      (ap (λ r. list_any (λ y. same_key (key r) (key y)) (drop (suc i) rows)) (sym there) ∙ ap (λ t. list_any (λ y. same_key t (key y)) (drop (suc i) rows)) (sym is) ∙ sym (has k) ∙ was) apart

  -- a new key
  pub new_at : (rows : List R) (i : ℕ) (row : R) (k : HeldKey) (seen : List HeldKey) → 0 < i → i ≤ length rows → row ≡ get_or rows (i - 1) row → shown_key k ≡ key row
      → HasSeen key seen (drop i rows) → {b : Bool} → b ≡ not (list_any (λ q. same_key (shown_key k) (shown_key q)) seen) → b ≡ true
      → AllDiffer (λ a b. same_key (key a) (key b)) (drop i rows) → AllDiffer (λ a b. same_key (key a) (key b)) (drop (i - 1) rows)
  new_at rows zero row k seen some low here is has answer out_ apart = absurd (omega (arith, some))
  new_at rows (suc i) row k seen some low here is has {b} answer in_ apart =
      let back : suc i - 1 ≡ i = omega arith in
      let there : row ≡ get_or rows i row = here ∙ ap (λ n. get_or rows n row) back in
      let was : list_any (λ q. same_key (shown_key k) (shown_key q)) seen ≡ false = grind (arith, answer, in_, cases_Bool (list_any (λ q. same_key (shown_key k) (shown_key q)) seen)) in
      subst (λ n. AllDiffer (λ a b. same_key (key a) (key b)) (drop n rows)) (sym back)
      (differ_more rows i row (omega (arith, low))
      (ap (λ r. list_any (λ y. same_key (key r) (key y)) (drop (suc i) rows)) (sym there) ∙ ap (λ t. list_any (λ y. same_key t (key y)) (drop (suc i) rows)) (sym is) ∙ sym (has k) ∙ was) apart)

  -- the keys after it is inserted
  pub seen_more : (rows : List R) (i : ℕ) (row : R) (k : HeldKey) (seen now : List HeldKey) → 0 < i → i ≤ length rows → row ≡ get_or rows (i - 1) row → shown_key k ≡ key row
      → ((q : HeldKey) → list_any (λ t. same_key (shown_key q) (shown_key t)) now ≡ cond (same_key (shown_key k) (shown_key q)) true (list_any (λ t. same_key (shown_key q) (shown_key t)) seen))
      → HasSeen key seen (drop i rows) → HasSeen key now (drop (i - 1) rows)
  seen_more rows zero row k seen now some low here is puts has = absurd (omega (arith, some))
  seen_more rows (suc i) row k seen now some low here is puts has = λ q.
      let back : suc i - 1 ≡ i = omega arith in
      let there : row ≡ get_or rows i row = here ∙ ap (λ n. get_or rows n row) back in
      puts q ∙ ap (λ b. cond b true (list_any (λ t. same_key (shown_key q) (shown_key t)) seen)) (same_key_swap (shown_key k) (shown_key q) ∙ ap (same_key (shown_key q)) (is ∙ ap key there))
      ∙ ap (cond (same_key (shown_key q) (key (get_or rows i row))) true) (has q)
      ∙ sym (any_more (λ r. same_key (shown_key q) (key r)) rows i row (omega (arith, low)))
      ∙ ap (λ n. list_any (λ r. same_key (shown_key q) (key r)) (drop n rows)) (sym back)

-- ---- the keys of each table

and_true : (b : Bool) → (b && true) ≡ b
and_true true = refl
and_true false = refl

and_assoc : (a b c : Bool) → ((a && b) && c) ≡ (a && (b && c))
and_assoc true b c = refl
and_assoc false b c = refl

-- a key of a text alone
pub text_key : (t u : Text) → same_key (t, 0, 0, 0) (u, 0, 0, 0) ≡ same_text t u
text_key t u = and_true ((same_text t u && true) && true) ∙ and_true (same_text t u && true) ∙ and_true (same_text t u)

-- the key of a desk and a number
pub plan_key : (t u : Text) (m n : ℕ) → same_key (t, m, 0, 0) (u, n, 0, 0) ≡ (same_text u t && (n == m))
plan_key t u m n =
    same_key_swap (t, m, 0, 0) (u, n, 0, 0) ∙ and_true ((same_text u t && (n == m)) && true) ∙ and_true (same_text u t && (n == m))

-- with a place
pub bind_key : (t u : Text) (m n p q : ℕ) → same_key (t, m, p, 0) (u, n, q, 0) ≡ ((same_text u t && (n == m)) && (q == p))
bind_key t u m n p q = same_key_swap (t, m, p, 0) (u, n, q, 0) ∙ and_true ((same_text u t && (n == m)) && (q == p))

-- with an arc
pub lag_key : (t u : Text) (m n p q x y : ℕ) → same_key (t, m, p, x) (u, n, q, y) ≡ ((same_text u t && (n == m)) && ((q == p) && (y == x)))
lag_key t u m n p q x y = same_key_swap (t, m, p, x) (u, n, q, y) ∙ and_assoc (same_text u t && (n == m)) (q == p) (y == x)

-- ---- facts of rows from their keys

-- equal tests separate rows alike
all_as : {A : Type 0} (p q : A → Bool) → ((a : A) → p a ≡ q a) → (xs : List A) → AllByRecursion (λ y. p y ≡ false) xs → AllByRecursion (λ y. q y ≡ false) xs
all_as p q agree [] all = tt
all_as p q agree (x ∷ xs) all = (sym (agree x) ∙ all.0, all_as p q agree xs all.1)

differ_as : {A : Type 0} (p q : A → A → Bool) → ((a b : A) → p a b ≡ q a b) → (xs : List A) → AllDiffer p xs → AllDiffer q xs
differ_as p q agree [] apart = tt
differ_as p q agree (x ∷ xs) apart = (all_as (p x) (q x) (agree x) xs apart.0, differ_as p q agree xs apart.1)

-- keys differ exactly if the rows that they stand for do
pub tells_keys : {R A : Type 0} (g : R → A) (alike : A → A → Bool) (key : R → RowKey) → ((a b : R) → same_key (key a) (key b) ≡ alike (g a) (g b))
    → (rows : List R) {read : List R} → read ≡ rows → (b : Bool) → Tells b (AllDiffer (λ x y. same_key (key x) (key y)) read) → Tells b (AllDiffer alike (map g rows))
tells_keys g alike key agree rows e b t =
    tells_same (λ apart. differ_seen g alike rows (differ_as (λ x y. same_key (key x) (key y)) (λ x y. alike (g x) (g y)) agree rows apart))
    (λ apart. differ_as (λ x y. alike (g x) (g y)) (λ x y. same_key (key x) (key y)) (λ x y. sym (agree x y)) rows (differ_under g alike rows apart))
    b (subst (λ l. Tells b (AllDiffer (λ x y. same_key (key x) (key y)) l)) e t)

-- a fact of a result for the case without an error, in other words
pub told_as : {E : Type 0} {P Q : Bool → Type 0} → ((b : Bool) → P b → Q b) → (r : Result Bool E) → IfOk r P → IfOk r Q
told_as to (Ok b) told = to b told
told_as to (Err e) told = tt
