-- Rows in code: a search by index, a write at an index and a push, for the rows that they stand
-- for.
use Rattle.std.proofs.Common.{◌≡◌, ◌⊎◌, inl, inr, ℕ, zero, suc, ◌+◌, ◌<◌, ◌≤◌, Bool, true, false, List, [], ◌∷◌, ◌++◌, length, map, filter, set, get_or, Some, None, refl, sym, ap, ◌∙◌, subst, arith}
use Rattle.std.specs.Prelude.{find, not, nat_lt}
use Rattle.std.specs.List.{list_any, list_all, position, position_or_len, AllByRecursion}
use Rattle.std.proofs.lemmas.Bool.{cases_Bool, cond-true, cond-false, both_ways, lt-ltb, and_from, ltb-true, ltb-false, not_from_true, not_from_false}
use Rattle.std.proofs.lemmas.List.Quantifiers.{position-Some}
use Rattle.plan_rows.specs.Changes.{changed, put, without}
use Rattle.plan_rows.specs.Rules.{AllDiffer}
use Rattle.plan_rows.proofs.RowLemmas.{changed_none, list_any_none}

-- no index is found only if all rows were passed
place_none : {R : Type 0} (p : R → Bool) (rows : List R) → position p rows ≡ None → length rows ≤ position_or_len p rows
place_none p rows e = by_test (cases_Bool (nat_lt (position_or_len p rows) (length rows)))
  where
    by_test : (nat_lt (position_or_len p rows) (length rows) ≡ true) ⊎ (nat_lt (position_or_len p rows) (length rows) ≡ false) → length rows ≤ position_or_len p rows
    by_test (inr out_) = ltb-false (position_or_len p rows) (length rows) out_
    by_test (inl in_) = absurd (grind (arith, e, in_))

module _ {R A : Type 0} (g : R → A) (p : A → Bool) where
  passed : (rows : List R) → length rows ≤ position_or_len (λ row. p (g row)) rows → AllByRecursion (λ x. p x ≡ false) (map g rows)
  passed [] more = tt
  passed (row ∷ rows) more = by_test (cases_Bool (p (g row))) (passed rows)
    where
      by_test : (p (g row) ≡ true) ⊎ (p (g row) ≡ false) → (length rows ≤ position_or_len (λ row. p (g row)) rows → AllByRecursion (λ x. p x ≡ false) (map g rows))
          → AllByRecursion (λ x. p x ≡ false) (map g (row ∷ rows))
      by_test (inl in_) rest = absurd (omega (arith, more, cond-false (not (p (g row))) (1 + position_or_len (λ row. p (g row)) rows) 0 (not_from_true (p (g row)) in_)))
      by_test (inr out_) rest = (out_, rest (omega (arith, more, cond-true (not (p (g row))) (1 + position_or_len (λ row. p (g row)) rows) 0 (not_from_false (p (g row)) out_))))

  -- no row passes if no index is found
  pub none_at : (rows : List R) → position (λ row. p (g row)) rows ≡ None → AllByRecursion (λ x. p x ≡ false) (map g rows)
  none_at rows e = passed rows (place_none (λ row. p (g row)) rows e)

  -- if no index is found, a new row is appended
  pub put_none : (f : A → A) (new : A) (rows : List R) → position (λ row. p (g row)) rows ≡ None → put p f new (map g rows) ≡ map g rows ++ new ∷ []
  put_none f new rows e =
      cond-false (list_any p (map g rows)) (changed p f (map g rows)) (map g rows ++ new ∷ []) (list_any_none p (map g rows) (none_at rows e))

  -- and a change changes none
  pub changed_none_at : (f : A → A) (rows : List R) → position (λ row. p (g row)) rows ≡ None → changed p f (map g rows) ≡ map g rows
  changed_none_at f rows e = changed_none p f (map g rows) (none_at rows e)

  find_passed : (xs : List A) → AllByRecursion (λ x. p x ≡ false) xs → find p xs ≡ None
  find_passed [] none = refl
  find_passed (x ∷ xs) none = grind (arith, none.0, find_passed xs none.1)

  -- and a search finds none
  pub find_none_at : (rows : List R) → position (λ row. p (g row)) rows ≡ None → find p (map g rows) ≡ None
  find_none_at rows e = find_passed (map g rows) (none_at rows e)

  -- the row at the place that is found, seen through g
  find_place : (rows : List R) (d : R) → position_or_len (λ row. p (g row)) rows < length rows
      → find p (map g rows) ≡ Some (g (get_or rows (position_or_len (λ row. p (g row)) rows) d))
  find_place [] d less = absurd (omega (arith, less))
  find_place (row ∷ rows) d less = by_test (cases_Bool (p (g row))) (find_place rows d)
    where
      by_test : (p (g row) ≡ true) ⊎ (p (g row) ≡ false)
          → (position_or_len (λ row. p (g row)) rows < length rows → find p (map g rows) ≡ Some (g (get_or rows (position_or_len (λ row. p (g row)) rows) d)))
          → find p (map g (row ∷ rows)) ≡ Some (g (get_or (row ∷ rows) (position_or_len (λ row. p (g row)) (row ∷ rows)) d))
      by_test (inl in_) rest =
          rw (cond-true (p (g row)) (Some (g row)) (find p (map g rows)) in_, cond-false (not (p (g row))) (1 + position_or_len (λ row. p (g row)) rows) 0 (not_from_true (p (g row)) in_)) refl
      by_test (inr out_) rest =
          let is : position_or_len (λ row. p (g row)) (row ∷ rows) ≡ suc
          (position_or_len (λ row. p (g row)) rows) =
          cond-true (not (p (g row))) (1 + position_or_len (λ row. p (g row)) rows) 0
          (not_from_false (p (g row)) out_) ∙ (omega arith) in
          rw (cond-false (p (g row)) (Some (g row)) (find p (map g rows)) out_, is) (rest (omega (arith, less, is)))

  -- the row that is found is at the index that is found
  pub find_at_place : (rows : List R) (i : ℕ) (d : R) → position (λ row. p (g row)) rows ≡ Some i → find p (map g rows) ≡ Some (g (get_or rows i d))
  find_at_place rows i d e = by_test (cases_Bool (nat_lt (position_or_len (λ row. p (g row)) rows) (length rows)))
    where
      by_test : (nat_lt (position_or_len (λ row. p (g row)) rows) (length rows) ≡ true)
          ⊎ (nat_lt (position_or_len (λ row. p (g row)) rows) (length rows) ≡ false) →
          find p (map g rows) ≡ Some (g (get_or rows i d))
      by_test (inr out_) = absurd (grind (arith, e, out_))
      by_test (inl in_) =
          let same : position_or_len (λ row. p (g row)) rows ≡ i = grind (arith, e, in_) in
          subst (λ k. find p (map g rows) ≡ Some (g (get_or rows k d))) same (find_place rows d (ltb-true (position_or_len (λ row. p (g row)) rows) (length rows) in_))

  module _ (alike : A → A → Bool) (key : (x y : A) → p x ≡ true → p y ≡ true → alike x y ≡ true) where
    unlike : (x : A) (xs : List A) → p x ≡ true → AllByRecursion (λ y. alike x y ≡ false) xs → AllByRecursion (λ y. p y ≡ false) xs
    unlike x [] in_ none = tt
    unlike x (y ∷ ys) in_ none = (by_test (cases_Bool (p y)), unlike x ys in_ none.1)
      where
        by_test : (p y ≡ true) ⊎ (p y ≡ false) → p y ≡ false
        by_test (inl also) = absurd (both_ways (alike x y) none.0 (key x y in_ also))
        by_test (inr out_) = out_

    later : (x : A) (ys : List R) (k : ℕ) (d : R) → k < length ys → AllByRecursion (λ y. alike x y ≡ false) (map g ys) → alike x (g (get_or ys k d)) ≡ false
    later x [] k d low none = absurd (omega (arith, low))
    later x (y ∷ ys) zero d low none = none.0
    later x (y ∷ ys) (suc k) d low none = later x ys k d (omega (arith, low)) none.1

    -- the one row that passes is changed in place
    changed_place : (f : A → A) (rows : List R) (i : ℕ) (d new : R) → AllDiffer alike (map g rows) → i < length rows → p (g (get_or rows i d)) ≡ true
        → g new ≡ f (g (get_or rows i d)) → map g (set rows i new) ≡ changed p f (map g rows)
    changed_place f [] i d new apart less in_ is = absurd (omega (arith, less))
    changed_place f (row ∷ rows) zero d new apart less in_ is =
        rw (changed_none p f (map g rows) (unlike (g row) (map g rows) in_ apart.0), cond-true (p (g row)) (f (g row)) (g row) in_) (ap (λ x. x ∷ map g rows) is)
    changed_place f (row ∷ rows) (suc i) d new apart less in_ is =
        by_test (cases_Bool (p (g row))) (changed_place f rows i d new apart.1 (omega (arith, less)) in_ is)
      where
        by_test : (p (g row) ≡ true) ⊎ (p (g row) ≡ false) → map g (set rows i new) ≡ changed p f (map g rows) → map g (set (row ∷ rows) (suc i) new) ≡ changed p f (map g (row ∷ rows))
        by_test (inl also) rest =
            absurd (both_ways (alike (g row) (g (get_or rows i d))) (later (g row) rows i d (omega (arith, less)) apart.0) (key (g row) (g (get_or rows i d)) also in_))
        by_test (inr out_) rest = rw (cond-false (p (g row)) (f (g row)) (g row) out_) (ap (λ l. g row ∷ l) rest)

    -- a write at the place that is found changes the one row that passes
    pub changed_at : (f : A → A) (rows : List R) (i : ℕ) (d new : R) → AllDiffer alike (map g rows) → position (λ row. p (g row)) rows ≡ Some i
        → g new ≡ f (g (get_or rows i d)) → map g (set rows i new) ≡ changed p f (map g rows)
    changed_at f rows i d new apart e is =
        let found = position-Some (λ row. p (g row)) rows i d e in
        changed_place f rows i d new apart found.0 found.1 is

    any_at : (ys : List R) (k : ℕ) (d : R) → k < length ys → p (g (get_or ys k d)) ≡ true → list_any p (map g ys) ≡ true
    any_at [] k d low in_ = absurd (omega (arith, low))
    any_at (y ∷ ys) zero d low in_ = grind (arith, in_)
    any_at (y ∷ ys) (suc k) d low in_ = grind (arith, cases_Bool (p (g y)), any_at ys k d (omega (arith, low)) in_)

    -- and so does a put
    pub put_at : (f : A → A) (other : A) (rows : List R) (i : ℕ) (d new : R) → AllDiffer alike (map g rows) → position (λ row. p (g row)) rows ≡ Some i
        → g new ≡ f (g (get_or rows i d)) → map g (set rows i new) ≡ put p f other (map g rows)
    put_at f other rows i d new apart e is =
        let found = position-Some (λ row. p (g row)) rows i d e in
        changed_at f rows i d new apart e is
        ∙ sym (cond-true (list_any p (map g rows)) (changed p f (map g rows)) (map g rows ++ other ∷ []) (any_at rows i d found.0 found.1))

-- rows that are filtered by a test of the rows that they stand for
pub map-without : {R A : Type 0} (g : R → A) (p : A → Bool) (rows : List R) → map g (filter (λ row. not (p (g row))) rows) ≡ without p (map g rows)
map-without g p [] = refl
map-without g p (row ∷ rows) = grind (arith, cases_Bool (p (g row)), map-without g p rows)

-- if each byte is below 256, all are
pub all_fit : (bytes : List ℕ) → ((i : ℕ) → get_or bytes i 0 < 256) → list_all (λ b. nat_lt b 256) bytes ≡ true
all_fit [] fits = refl
all_fit (b ∷ bytes) fits = and_from (nat_lt b 256) (list_all (λ b. nat_lt b 256) bytes) (lt-ltb b 256 (fits 0)) (all_fit bytes (λ i. fits (suc i)))
