-- Lists of the same rows in any order: if keys are unique, search, sorting and counting give the
-- same results.
use Rattle.std.proofs.Common.{◌≡◌, ◌⊎◌, inl, inr, Bool, true, false, List, [], ◌∷◌, ◌++◌, map, filter, Option, Some, None, refl, sym, ap, ◌∙◌, subst, arith}
use Rattle.std.specs.Prelude.{find}
use Rattle.std.specs.List.{list_any, AllByRecursion}
use Rattle.std.proofs.lemmas.Bool.{cases_Bool, cond-true, cond-false, both_ways}
use Rattle.plan_rows.specs.Changes.{changed, put}
use Rattle.plan_rows.specs.Rules.{AllDiffer}
use Rattle.plan_rows.proofs.RowLemmas.{change_of}
use Rattle.plan_rows.proofs.RuleLemmas.{find_none}

module _ {A : Type 0} where
  -- x is a row of the list
  abbrev pub Has : List A → A → Type 0
  Has [] x = ⊥
  Has (y ∷ ys) x = (y ≡ x) ⊎ Has ys x

  -- the lists have the same rows
  pub record AreSame (xs ys : List A) : Type 0 where
    pub there : (x : A) → Has xs x → Has ys x
    pub back : (x : A) → Has ys x → Has xs x

  pub same_refl : (xs : List A) → AreSame xs xs
  same_refl xs = record { there = λ x h. h; back = λ x h. h }

  pub same_swap : (xs ys : List A) → AreSame xs ys → AreSame ys xs
  same_swap xs ys same = record { there = same.back; back = same.there }

  -- a fact about each row holds for any row of the list
  pub all_has : (P : A → Type 0) (xs : List A) (x : A) → AllByRecursion P xs → Has xs x → P x
  all_has P [] x all h = absurd h
  all_has P (y ∷ ys) x all (inl e) = subst P e all.0
  all_has P (y ∷ ys) x all (inr h) = all_has P ys x all.1 h

  has_left : (xs ys : List A) (x : A) → Has xs x → Has (xs ++ ys) x
  has_left [] ys x h = absurd h
  has_left (y ∷ xs) ys x (inl e) = inl e
  has_left (y ∷ xs) ys x (inr h) = inr (has_left xs ys x h)

  has_right : (xs ys : List A) (x : A) → Has ys x → Has (xs ++ ys) x
  has_right [] ys x h = h
  has_right (y ∷ xs) ys x h = inr (has_right xs ys x h)

  has_either : (xs ys : List A) (x : A) → Has (xs ++ ys) x → Has xs x ⊎ Has ys x
  has_either [] ys x h = inr h
  has_either (y ∷ xs) ys x (inl e) = inl (inl e)
  has_either (y ∷ xs) ys x (inr h) = later (has_either xs ys x h)
    where
      later : Has xs x ⊎ Has ys x → Has (y ∷ xs) x ⊎ Has ys x
      later (inl a) = inl (inr a)
      later (inr b) = inr b

  -- ---- facts that changes preserve

  has_filter : (p : A → Bool) (xs : List A) (x : A) → Has xs x → p x ≡ true → Has (filter p xs) x
  has_filter p [] x h e = absurd h
  has_filter p (y ∷ ys) x h e = by_test (cases_Bool (p y)) h (λ rest. has_filter p ys x rest e)
    where
      by_test : (p y ≡ true) ⊎ (p y ≡ false) → Has (y ∷ ys) x → (Has ys x → Has (filter p ys) x) → Has (filter p (y ∷ ys)) x
      by_test (inl in_) (inl is) later = rw (cond-true (p y) (y ∷ filter p ys) (filter p ys) in_) (inl is)
      by_test (inl in_) (inr rest) later = rw (cond-true (p y) (y ∷ filter p ys) (filter p ys) in_) (inr (later rest))
      by_test (inr out_) (inl is) later = absurd (both_ways (p x) (subst (λ z. p z ≡ false) is out_) e)
      by_test (inr out_) (inr rest) later = rw (cond-false (p y) (y ∷ filter p ys) (filter p ys) out_) (later rest)

  pub filter_has : (p : A → Bool) (xs : List A) (x : A) → Has (filter p xs) x → Has xs x × (p x ≡ true)
  filter_has p [] x h = absurd h
  filter_has p (y ∷ ys) x h = by_test (cases_Bool (p y)) (λ rest. filter_has p ys x rest)
    where
      by_test : (p y ≡ true) ⊎ (p y ≡ false) → (Has (filter p ys) x → Has ys x × (p x ≡ true)) → Has (y ∷ ys) x × (p x ≡ true)
      by_test (inr out_) later =
          let rest = later (subst (λ l. Has l x) (cond-false (p y) (y ∷ filter p ys) (filter p ys) out_) h) in
          (inr rest.0, rest.1)
      by_test (inl in_) later = at_front (subst (λ l. Has l x) (cond-true (p y) (y ∷ filter p ys) (filter p ys) in_) h)
        where
          at_front : Has (y ∷ filter p ys) x → Has (y ∷ ys) x × (p x ≡ true)
          at_front (inl is) = (inl is, subst (λ z. p z ≡ true) is in_)
          at_front (inr rest) = (inr (later rest).0, (later rest).1)

  pub same_filter : (p : A → Bool) (xs ys : List A) → AreSame xs ys → AreSame (filter p xs) (filter p ys)
  same_filter p xs ys same = record {
    there = λ x h. let parts = filter_has p xs x h in has_filter p ys x (same.there x parts.0) parts.1;
    back = λ x h. let parts = filter_has p ys x h in has_filter p xs x (same.back x parts.0) parts.1;
  }

  has_map : (f : A → A) (xs : List A) (x : A) → Has xs x → Has (map f xs) (f x)
  has_map f [] x h = absurd h
  has_map f (y ∷ ys) x (inl e) = inl (ap f e)
  has_map f (y ∷ ys) x (inr h) = inr (has_map f ys x h)

  map_has : (f : A → A) (xs : List A) (x : A) → Has (map f xs) x → (y : A) × Has xs y × (f y ≡ x)
  map_has f [] x h = absurd h
  map_has f (y ∷ ys) x (inl e) = (y, inl refl, e)
  map_has f (y ∷ ys) x (inr h) = let found = map_has f ys x h in (found.0, inr found.1, found.2)

  pub same_changed : (q : A → Bool) (f : A → A) (xs ys : List A) → AreSame xs ys → AreSame (changed q f xs) (changed q f ys)
  same_changed q f xs ys same = record {
    there = λ x h. let old = map_has (change_of q f) xs x h in
        subst (Has (changed q f ys)) old.2 (has_map (change_of q f) ys old.0 (same.there old.0 old.1));
    back = λ x h. let old = map_has (change_of q f) ys x h in
        subst (Has (changed q f xs)) old.2 (has_map (change_of q f) xs old.0 (same.back old.0 old.1));
  }

  pub same_added : (new : A) (xs ys : List A) → AreSame xs ys → AreSame (xs ++ new ∷ []) (ys ++ new ∷ [])
  same_added new xs ys same = record { there = λ x h. moved xs ys same.there x (has_either xs (new ∷ []) x h); back = λ x h. moved ys xs same.back x (has_either ys (new ∷ []) x h) }
    where
      moved : (olds bs : List A) → ((x : A) → Has olds x → Has bs x) → (x : A) → Has olds x ⊎ Has (new ∷ []) x → Has (bs ++ new ∷ []) x
      moved olds bs go x (inl old) = has_left bs (new ∷ []) x (go x old)
      moved olds bs go x (inr last) = has_right bs (new ∷ []) x last

  pub any_has : (p : A → Bool) (xs : List A) → list_any p xs ≡ true → (x : A) × Has xs x × (p x ≡ true)
  any_has p [] e = absurd (both_ways false refl e)
  any_has p (x ∷ xs) e = by_test (cases_Bool (p x)) (λ rest. any_has p xs rest)
    where
      by_test : (p x ≡ true) ⊎ (p x ≡ false) → (list_any p xs ≡ true → (y : A) × Has xs y × (p y ≡ true)) → (y : A) × Has (x ∷ xs) y × (p y ≡ true)
      by_test (inl in_) later = (x, inl refl, in_)
      by_test (inr out_) later = let found = later (grind (arith, e, out_)) in (found.0, inr found.1, found.2)

  has_any : (p : A → Bool) (xs : List A) (x : A) → Has xs x → p x ≡ true → list_any p xs ≡ true
  has_any p [] x h e = absurd h
  has_any p (y ∷ ys) x (inl is) e = grind (arith, subst (λ z. p z ≡ true) (sym is) e)
  has_any p (y ∷ ys) x (inr h) e = grind (arith, has_any p ys x h e, cases_Bool (p y))

  pub same_any : (p : A → Bool) (xs ys : List A) → AreSame xs ys → list_any p xs ≡ list_any p ys
  same_any p xs ys same = by_tests (cases_Bool (list_any p xs)) (cases_Bool (list_any p ys))
    where
      by_tests : (list_any p xs ≡ true) ⊎ (list_any p xs ≡ false) → (list_any p ys ≡ true) ⊎ (list_any p ys ≡ false) → list_any p xs ≡ list_any p ys
      by_tests (inl a) (inl b) = a ∙ sym b
      by_tests (inr a) (inr b) = a ∙ sym b
      by_tests (inl a) (inr b) = let found = any_has p xs a in absurd (both_ways (list_any p ys) b (has_any p ys found.0 (same.there found.0 found.1) found.2))
      by_tests (inr a) (inl b) = let found = any_has p ys b in absurd (both_ways (list_any p xs) a (has_any p xs found.0 (same.back found.0 found.1) found.2))

  pub same_put : (q : A → Bool) (f : A → A) (new : A) (xs ys : List A) → AreSame xs ys → AreSame (put q f new xs) (put q f new ys)
  same_put q f new xs ys same = by_any (cases_Bool (list_any q xs))
    where
      by_any : (list_any q xs ≡ true) ⊎ (list_any q xs ≡ false) → AreSame (put q f new xs) (put q f new ys)
      by_any (inl e) =
          rw (cond-true (list_any q xs) (changed q f xs) (xs ++ new ∷ []) e)
          (rw (cond-true (list_any q ys) (changed q f ys) (ys ++ new ∷ []) (sym (same_any q xs ys same) ∙ e)) (same_changed q f xs ys same))
      by_any (inr e) =
          rw (cond-false (list_any q xs) (changed q f xs) (xs ++ new ∷ []) e)
          (rw (cond-false (list_any q ys) (changed q f ys) (ys ++ new ∷ []) (sym (same_any q xs ys same) ∙ e)) (same_added new xs ys same))

  -- ---- search

  pub found_there : (p : A → Bool) (xs : List A) (x : A) → find p xs ≡ Some x → Has xs x × (p x ≡ true)
  found_there p [] x e = absurd (grind (arith, e))
  found_there p (y ∷ ys) x e = by_test (cases_Bool (p y)) (λ rest. found_there p ys x rest)
    where
      by_test : (p y ≡ true) ⊎ (p y ≡ false) → (find p ys ≡ Some x → Has ys x × (p x ≡ true)) → Has (y ∷ ys) x × (p x ≡ true)
      by_test (inl in_) later = let is : y ≡ x = grind (arith, e, in_) in (inl is, subst (λ z. p z ≡ true) is in_)
      by_test (inr out_) later = let rest = later (grind (arith, e, out_)) in (inr rest.0, rest.1)

  pub found_one : (alike : A → A → Bool) (p : A → Bool) → ((x y : A) → p x ≡ true → p y ≡ true → alike x y ≡ true) → (xs : List A) (x : A)
      → AllDiffer alike xs → Has xs x → p x ≡ true → find p xs ≡ Some x
  found_one alike p pass [] x apart h e = absurd h
  found_one alike p pass (y ∷ ys) x apart (inl is) e = cond-true (p y) (Some y) (find p ys) (subst (λ z. p z ≡ true) (sym is) e) ∙ ap Some is
  found_one alike p pass (y ∷ ys) x apart (inr h) e =
      by_test (cases_Bool (p y)) (all_has (λ z. alike y z ≡ false) ys x apart.0 h) (found_one alike p pass ys x apart.1 h e)
    where
      by_test : (p y ≡ true) ⊎ (p y ≡ false) → alike y x ≡ false → find p ys ≡ Some x → find p (y ∷ ys) ≡ Some x
      by_test (inl in_) unlike rest = absurd (both_ways (alike y x) unlike (pass y x in_ e))
      by_test (inr out_) unlike rest = cond-false (p y) (Some y) (find p ys) out_ ∙ rest

  -- a search by a key finds the same row in both lists
  pub find_same : (alike : A → A → Bool) (p : A → Bool) → ((x y : A) → p x ≡ true → p y ≡ true → alike x y ≡ true) → (xs ys : List A)
      → AreSame xs ys → AllDiffer alike xs → AllDiffer alike ys → find p xs ≡ find p ys
  find_same alike p pass xs ys same apart also = by_found (find p xs) refl
    where
      absent : (o : Option A) → find p ys ≡ o → find p xs ≡ None → None ≡ o
      absent None e none = refl
      absent (Some y) e none =
          let there = found_there p ys y e in
          absurd (both_ways (p y) (all_has (λ z. p z ≡ false) xs y (find_none p xs none) (same.back y there.0)) there.1)

      by_found : (o : Option A) → find p xs ≡ o → find p xs ≡ find p ys
      by_found None e = e ∙ absent (find p ys) refl e
      by_found (Some x) e =
          let there = found_there p xs x e in
          e ∙ sym (found_one alike p pass ys x also (same.there x there.0) there.1)
