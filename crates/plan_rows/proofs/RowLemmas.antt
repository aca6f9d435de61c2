-- Lists of rows: filters and searches of a changed list.
use Rattle.std.proofs.Common.{◌≡◌, ◌⊎◌, inl, inr, Bool, true, false, List, [], ◌∷◌, ◌++◌, filter, Some, None, refl, arith}
use Rattle.std.specs.Prelude.{find, option_map, option_to_list, if◌then◌else◌}
use Rattle.std.specs.List.{list_any, AllByRecursion}
use Rattle.std.proofs.lemmas.Bool.{cases_Bool, cond-true, cond-false}
use Rattle.plan_rows.specs.Changes.{changed}

module _ {A : Type 0} where
  -- filtering twice is filtering once
  pub filter_again : (p : A → Bool) (xs : List A) → filter p (filter p xs) ≡ filter p xs
  filter_again p [] = refl
  filter_again p (x ∷ xs) = grind (arith, cases_Bool (p x), filter_again p xs)

  -- two filters in either order
  pub filter_swap : (p q : A → Bool) (xs : List A) → filter p (filter q xs) ≡ filter q (filter p xs)
  filter_swap p q [] = refl
  filter_swap p q (x ∷ xs) =
      grind (arith, cases_Bool (p x), cases_Bool (q x), filter_swap p q xs)

  -- a filter that keeps nothing
  pub filter_none : (p : A → Bool) (xs : List A) → AllByRecursion (λ x. p x ≡ false) xs → filter p xs ≡ []
  filter_none p [] none = refl
  filter_none p (x ∷ xs) none = grind (arith, none.0, filter_none p xs none.1)

  -- the first that passes is the first of itself
  pub find_again : (p : A → Bool) (xs : List A) → find p (option_to_list (find p xs)) ≡ find p xs
  find_again p [] = refl
  find_again p (x ∷ xs) = grind (arith, cases_Bool (p x), find_again p xs)

  -- the change of a row
  abbrev pub change_of : (A → Bool) → (A → A) → A → A
  change_of q f x = if q x then f x else x

  -- a change that doesn't affect a test commutes with the filter
  pub filter-changed : (p q : A → Bool) (f : A → A) → ((x : A) → p (f x) ≡ p x) → (xs : List A)
      → filter p (changed q f xs) ≡ changed q f (filter p xs)
  filter-changed p q f same [] = refl
  filter-changed p q f same (x ∷ xs) =
      grind (arith, cases_Bool (p x), cases_Bool (q x), same x, filter-changed p q f same xs)

  pub find-changed : (p q : A → Bool) (f : A → A) → ((x : A) → p (f x) ≡ p x) → (xs : List A)
      → find p (changed q f xs) ≡ option_map (change_of q f) (find p xs)
  find-changed p q f same [] = refl
  find-changed p q f same (x ∷ xs) =
      grind (arith, cases_Bool (p x), cases_Bool (q x), same x, find-changed p q f same xs)

  -- a change of rows that aren't there changes nothing
  pub changed_none : (q : A → Bool) (f : A → A) (xs : List A) → AllByRecursion (λ x. q x ≡ false) xs
      → changed q f xs ≡ xs
  changed_none q f [] none = refl
  changed_none q f (x ∷ xs) none = grind (arith, none.0, changed_none q f xs none.1)

  -- the rows of a filtered list pass
  pub all_filtered : (p : A → Bool) (xs : List A) → AllByRecursion (λ x. p x ≡ true) (filter p xs)
  all_filtered p [] = tt
  all_filtered p (x ∷ xs) = by_test (cases_Bool (p x)) (all_filtered p xs)
    where
      by_test : (p x ≡ true) ⊎ (p x ≡ false) → AllByRecursion (λ x. p x ≡ true) (filter p xs)
          → AllByRecursion (λ x. p x ≡ true) (filter p (x ∷ xs))
      by_test (inl in_) rest = rw (cond-true (p x) (x ∷ filter p xs) (filter p xs) in_) (in_, rest)
      by_test (inr out_) rest = rw (cond-false (p x) (x ∷ filter p xs) (filter p xs) out_) rest

  pub all_weaker : {P Q : A → Type 0} → ((x : A) → P x → Q x) → (xs : List A) → AllByRecursion P xs → AllByRecursion Q xs
  all_weaker weaker [] all = tt
  all_weaker weaker (x ∷ xs) all = (weaker x all.0, all_weaker weaker xs all.1)

  -- none passes if each fails
  pub list_any_none : (q : A → Bool) (xs : List A) → AllByRecursion (λ x. q x ≡ false) xs → list_any q xs ≡ false
  list_any_none q [] none = refl
  list_any_none q (x ∷ xs) none = grind (arith, none.0, list_any_none q xs none.1)

  -- if rows that pass q pass p, a filter by p doesn't change whether one passes q
  pub list_any-filter : (p q : A → Bool) → ((x : A) → q x ≡ true → p x ≡ true) → (xs : List A)
      → list_any q (filter p xs) ≡ list_any q xs
  list_any-filter p q inside [] = refl
  list_any-filter p q inside (x ∷ xs) =
      grind (arith, cases_Bool (p x), cases_Bool (q x), inside x, list_any-filter p q inside xs)

  -- a filter that keeps all
  pub filter_all : (p : A → Bool) (xs : List A) → AllByRecursion (λ x. p x ≡ true) xs → filter p xs ≡ xs
  filter_all p [] all = refl
  filter_all p (x ∷ xs) all = grind (arith, all.0, filter_all p xs all.1)

  -- a change of rows that don't pass doesn't affect the search
  pub find_hidden : (p q : A → Bool) (f : A → A) → ((x : A) → p (f x) ≡ p x) → ((x : A) → p x ≡ true → q x ≡ false)
      → (xs : List A) → find p (changed q f xs) ≡ find p xs
  find_hidden p q f same apart [] = refl
  find_hidden p q f same apart (x ∷ xs) =
      grind (arith, cases_Bool (p x), cases_Bool (q x), same x, apart x, find_hidden p q f same apart xs)

  -- a row that doesn't pass doesn't affect the search after the others
  pub find_past_new : (p : A → Bool) (new : A) → p new ≡ false → (xs : List A) → find p (xs ++ new ∷ []) ≡ find p xs
  find_past_new p new out_ [] = cond-false (p new) (Some new) None out_
  find_past_new p new out_ (x ∷ xs) = grind (arith, cases_Bool (p x), find_past_new p new out_ xs)

  pub head_of_cons : (x y : A) (xs ys : List A) → x ∷ xs ≡ y ∷ ys → x ≡ y
  head_of_cons x y xs ys e = grind (arith, e)

  pub tail_of_cons : (x y : A) (xs ys : List A) → x ∷ xs ≡ y ∷ ys → xs ≡ ys
  tail_of_cons x y xs ys e = grind (arith, e)

  pub cons_is_not_nil : (x : A) (xs : List A) → [] ≡ x ∷ xs → ⊥
  cons_is_not_nil x xs e = grind (arith, e)
