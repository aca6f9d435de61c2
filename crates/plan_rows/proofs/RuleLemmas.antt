-- Rules over lists of rows: facts of each row and distinct keys, after rows were changed, added or
-- removed.
use Rattle.std.proofs.Common.{◌≡◌, ◌⊎◌, inl, inr, Bool, true, false, List, [], ◌∷◌, ◌++◌, filter, length, Option, Some, None, refl, sym, ◌∙◌, subst, arith}
use Rattle.std.specs.Prelude.{find, option_map, ◌≤◌}
use Rattle.std.specs.List.{list_any, AllByRecursion}
use Rattle.std.proofs.lemmas.Bool.{cases_Bool, cond-true, cond-false, both_ways, or_parts}
use Rattle.plan_rows.specs.Changes.{changed, put}
use Rattle.plan_rows.specs.Rules.{AllDiffer, IsThereAnd}
use Rattle.plan_rows.proofs.RowLemmas.{change_of, find-changed}

module _ {A : Type 0} where
  pub all_append : (P : A → Type 0) (xs : List A) (new : A) → AllByRecursion P xs → P new → AllByRecursion P (xs ++ new ∷ [])
  all_append P [] new all one = (one, tt)
  all_append P (x ∷ xs) new all one = (all.0, all_append P xs new all.1 one)

  -- rows that are removed need no fact
  pub all_filter : (P Q : A → Type 0) (p : A → Bool) → ((x : A) → p x ≡ true → P x → Q x) → (xs : List A) → AllByRecursion P xs → AllByRecursion Q (filter p xs)
  all_filter P Q p keeps [] all = tt
  all_filter P Q p keeps (x ∷ xs) all = by_test (cases_Bool (p x)) (all_filter P Q p keeps xs all.1)
    where
      by_test : (p x ≡ true) ⊎ (p x ≡ false) → AllByRecursion Q (filter p xs) → AllByRecursion Q (filter p (x ∷ xs))
      by_test (inl in_) rest = rw (cond-true (p x) (x ∷ filter p xs) (filter p xs) in_) (keeps x in_ all.0, rest)
      by_test (inr out_) rest = rw (cond-false (p x) (x ∷ filter p xs) (filter p xs) out_) rest

  -- a changed row has Q, and so has an unchanged one
  pub all_changed : (P Q : A → Type 0) (q : A → Bool) (f : A → A) → ((x : A) → q x ≡ true → P x → Q (f x)) → ((x : A) → P x → Q x)
      → (xs : List A) → AllByRecursion P xs → AllByRecursion Q (changed q f xs)
  all_changed P Q q f new old [] all = tt
  all_changed P Q q f new old (x ∷ xs) all = (by_test (cases_Bool (q x)), all_changed P Q q f new old xs all.1)
    where
      by_test : (q x ≡ true) ⊎ (q x ≡ false) → Q (change_of q f x)
      by_test (inl in_) = subst Q (sym (cond-true (q x) (f x) x in_)) (new x in_ all.0)
      by_test (inr out_) = subst Q (sym (cond-false (q x) (f x) x out_)) (old x all.0)

  pub all_put : (P Q : A → Type 0) (q : A → Bool) (f : A → A) (new : A) → ((x : A) → q x ≡ true → P x → Q (f x)) → ((x : A) → P x → Q x) → Q new
      → (xs : List A) → AllByRecursion P xs → AllByRecursion Q (put q f new xs)
  all_put P Q q f new changes keeps one xs all = by_any (cases_Bool (list_any q xs))
    where
      weaker : (ys : List A) → AllByRecursion P ys → AllByRecursion Q ys
      weaker [] h = tt
      weaker (y ∷ ys) h = (keeps y h.0, weaker ys h.1)

      by_any : (list_any q xs ≡ true) ⊎ (list_any q xs ≡ false) → AllByRecursion Q (put q f new xs)
      by_any (inl e) = rw (cond-true (list_any q xs) (changed q f xs) (xs ++ new ∷ []) e) (all_changed P Q q f changes keeps xs all)
      by_any (inr e) = rw (cond-false (list_any q xs) (changed q f xs) (xs ++ new ∷ []) e) (all_append Q xs new (weaker xs all) one)

  none_alike_changed : (alike : A → A → Bool) (q : A → Bool) (f : A → A) → ((x y : A) → (alike (f x) y ≡ alike x y) × (alike x (f y) ≡ alike x y))
      → (x : A) (xs : List A) → AllByRecursion (λ y. alike x y ≡ false) xs → AllByRecursion (λ y. alike (change_of q f x) y ≡ false) (changed q f xs)
  none_alike_changed alike q f keeps x [] none = tt
  none_alike_changed alike q f keeps x (y ∷ ys) none =
      (grind (arith, cases_Bool (q x), cases_Bool (q y), keeps x y, keeps (f x) y, keeps x (f y), none.0), none_alike_changed alike q f keeps x ys none.1)

  pub differ_changed : (alike : A → A → Bool) (q : A → Bool) (f : A → A) → ((x y : A) → (alike (f x) y ≡ alike x y) × (alike x (f y) ≡ alike x y))
      → (xs : List A) → AllDiffer alike xs → AllDiffer alike (changed q f xs)
  differ_changed alike q f keeps [] apart = tt
  differ_changed alike q f keeps (x ∷ xs) apart = (none_alike_changed alike q f keeps x xs apart.0, differ_changed alike q f keeps xs apart.1)

  pub differ_append : (alike : A → A → Bool) (new : A) (xs : List A) → AllDiffer alike xs → AllByRecursion (λ x. alike x new ≡ false) xs → AllDiffer alike (xs ++ new ∷ [])
  differ_append alike new [] apart none = (tt, tt)
  differ_append alike new (x ∷ xs) apart none = (all_append (λ y. alike x y ≡ false) xs new apart.0 none.0, differ_append alike new xs apart.1 none.1)

  pub differ_filter : (alike : A → A → Bool) (p : A → Bool) (xs : List A) → AllDiffer alike xs → AllDiffer alike (filter p xs)
  differ_filter alike p [] apart = tt
  differ_filter alike p (x ∷ xs) apart = by_test (cases_Bool (p x)) (differ_filter alike p xs apart.1)
    where
      by_test : (p x ≡ true) ⊎ (p x ≡ false) → AllDiffer alike (filter p xs) → AllDiffer alike (filter p (x ∷ xs))
      by_test (inl in_) rest =
          rw (cond-true (p x) (x ∷ filter p xs) (filter p xs) in_)
          (all_filter (λ y. alike x y ≡ false) (λ y. alike x y ≡ false) p (λ y kept e. e) xs apart.0, rest)
      by_test (inr out_) rest = rw (cond-false (p x) (x ∷ filter p xs) (filter p xs) out_) rest

  -- no row that is there passes
  pub none_passes : (q : A → Bool) (xs : List A) → list_any q xs ≡ false → AllByRecursion (λ x. q x ≡ false) xs
  none_passes q [] none = tt
  none_passes q (x ∷ xs) none = let parts = or_parts (q x) (list_any q xs) none in (parts.0, none_passes q xs parts.1)

  -- if the test is whether a row has the key of a new one
  pub differ_put : (alike : A → A → Bool) (q : A → Bool) (f : A → A) (new : A) → ((x y : A) → (alike (f x) y ≡ alike x y) × (alike x (f y) ≡ alike x y))
      → ((x : A) → alike x new ≡ q x) → (xs : List A) → AllDiffer alike xs → AllDiffer alike (put q f new xs)
  differ_put alike q f new keeps key xs apart = by_any (cases_Bool (list_any q xs))
    where
      unlike : (ys : List A) → AllByRecursion (λ x. q x ≡ false) ys → AllByRecursion (λ x. alike x new ≡ false) ys
      unlike [] h = tt
      unlike (y ∷ ys) h = (key y ∙ h.0, unlike ys h.1)

      by_any : (list_any q xs ≡ true) ⊎ (list_any q xs ≡ false) → AllDiffer alike (put q f new xs)
      by_any (inl e) = rw (cond-true (list_any q xs) (changed q f xs) (xs ++ new ∷ []) e) (differ_changed alike q f keeps xs apart)
      by_any (inr e) =
          rw (cond-false (list_any q xs) (changed q f xs) (xs ++ new ∷ []) e) (differ_append alike new xs apart (unlike xs (none_passes q xs e)))

  -- a fact of the first row that passes
  pub found_has : (P : A → Type 0) (p : A → Bool) (xs : List A) (x : A) → find p xs ≡ Some x → AllByRecursion P xs → P x × (p x ≡ true)
  found_has P p [] x e all = grind (arith, e)
  found_has P p (y ∷ ys) x e all = by_test (cases_Bool (p y)) (λ rest. found_has P p ys x rest all.1)
    where
      by_test : (p y ≡ true) ⊎ (p y ≡ false) → (find p ys ≡ Some x → P x × (p x ≡ true)) → P x × (p x ≡ true)
      by_test (inl in_) rest =
          let same : y ≡ x = grind (arith, e, in_) in
          (subst P same all.0, subst (λ z. p z ≡ true) same in_)
      by_test (inr out_) rest = rest (grind (arith, e, out_))

  -- a row that is found is found after a new one is added
  pub there_append : (Q : A → Type 0) (p : A → Bool) (new : A) (xs : List A) → IsThereAnd (find p xs) Q → IsThereAnd (find p (xs ++ new ∷ [])) Q
  there_append Q p new [] h = absurd h
  there_append Q p new (x ∷ xs) h = by_test (cases_Bool (p x)) (there_append Q p new xs)
    where
      by_test : (p x ≡ true) ⊎ (p x ≡ false) → (IsThereAnd (find p xs) Q → IsThereAnd (find p (xs ++ new ∷ [])) Q) → IsThereAnd (find p (x ∷ (xs ++ new ∷ []))) Q
      by_test (inl in_) rest =
          rw (cond-true (p x) (Some x) (find p (xs ++ new ∷ [])) in_) (subst (λ o. IsThereAnd o Q) (cond-true (p x) (Some x) (find p xs) in_) h)
      by_test (inr out_) rest =
          rw (cond-false (p x) (Some x) (find p (xs ++ new ∷ [])) out_) (rest (subst (λ o. IsThereAnd o Q) (cond-false (p x) (Some x) (find p xs) out_) h))

  -- and after one is changed, if the change keeps its facts
  pub there_changed : (Q R : A → Type 0) (p q : A → Bool) (f : A → A) → ((x : A) → p (f x) ≡ p x) → ((x : A) → Q x → R (change_of q f x))
      → (xs : List A) → IsThereAnd (find p xs) Q → IsThereAnd (find p (changed q f xs)) R
  there_changed Q R p q f same keeps xs h = rw (find-changed p q f same xs) (at_found (find p xs) h)
    where
      at_found : (o : Option A) → IsThereAnd o Q → IsThereAnd (option_map (change_of q f) o) R
      at_found None h = absurd h
      at_found (Some x) h = keeps x h

  -- and among the filtered rows, if it is one of them
  pub find_kept : (p keep : A → Bool) → ((x : A) → p x ≡ true → keep x ≡ true) → (xs : List A) → find p (filter keep xs) ≡ find p xs
  find_kept p keep kept [] = refl
  find_kept p keep kept (x ∷ xs) = grind (arith, cases_Bool (p x), cases_Bool (keep x), kept x, find_kept p keep kept xs)

  pub there_put : (Q : A → Type 0) (p q : A → Bool) (f : A → A) (new : A) → ((x : A) → p (f x) ≡ p x) → ((x : A) → Q x → Q (change_of q f x))
      → (xs : List A) → IsThereAnd (find p xs) Q → IsThereAnd (find p (put q f new xs)) Q
  there_put Q p q f new same keeps xs h = by_any (cases_Bool (list_any q xs))
    where
      by_any : (list_any q xs ≡ true) ⊎ (list_any q xs ≡ false) → IsThereAnd (find p (put q f new xs)) Q
      by_any (inl e) = rw (cond-true (list_any q xs) (changed q f xs) (xs ++ new ∷ []) e) (there_changed Q Q p q f same keeps xs h)
      by_any (inr e) = rw (cond-false (list_any q xs) (changed q f xs) (xs ++ new ∷ []) e) (there_append Q p new xs h)

  pub there_map : (Q R : A → Type 0) → ((x : A) → Q x → R x) → (o : Option A) → IsThereAnd o Q → IsThereAnd o R
  there_map Q R weaker None h = absurd h
  there_map Q R weaker (Some x) h = weaker x h

  -- if no row is found, none passes
  pub find_none : (p : A → Bool) (xs : List A) → find p xs ≡ None → AllByRecursion (λ x. p x ≡ false) xs
  find_none p [] e = tt
  find_none p (x ∷ xs) e = by_test (cases_Bool (p x)) (λ rest. find_none p xs rest)
    where
      by_test : (p x ≡ true) ⊎ (p x ≡ false) → (find p xs ≡ None → AllByRecursion (λ x. p x ≡ false) xs) → AllByRecursion (λ x. p x ≡ false) (x ∷ xs)
      by_test (inl in_) rest = absurd (grind (arith, e, in_))
      by_test (inr out_) rest = (out_, rest (grind (arith, e, out_)))

  -- if rows that pass are alike, and rows differ, the one that is found is the only one that passes
  pub all_found : (alike : A → A → Bool) (p : A → Bool) (row : A) → ((x y : A) → p x ≡ true → p y ≡ true → alike x y ≡ true) → (xs : List A)
      → AllDiffer alike xs → find p xs ≡ Some row → AllByRecursion (λ x. p x ≡ true → x ≡ row) xs
  all_found alike p row pass [] apart e = tt
  all_found alike p row pass (x ∷ xs) apart e = by_test (cases_Bool (p x)) (λ rest. all_found alike p row pass xs apart.1 rest)
    where
      others : p x ≡ true → (ys : List A) → AllByRecursion (λ y. alike x y ≡ false) ys → AllByRecursion (λ y. p y ≡ true → y ≡ row) ys
      others in_ [] none = tt
      others in_ (y ∷ ys) none = ((λ also. absurd (both_ways (alike x y) none.0 (pass x y in_ also))), others in_ ys none.1)

      by_test : (p x ≡ true) ⊎ (p x ≡ false) → (find p xs ≡ Some row → AllByRecursion (λ x. p x ≡ true → x ≡ row) xs)
          → AllByRecursion (λ x. p x ≡ true → x ≡ row) (x ∷ xs)
      by_test (inl in_) rest = ((λ also. grind (arith, e, in_)), others in_ xs apart.0)
      by_test (inr out_) rest = ((λ also. absurd (both_ways (p x) out_ also)), rest (grind (arith, e, out_)))

  pub all_both : (P Q : A → Type 0) (xs : List A) → AllByRecursion P xs → AllByRecursion Q xs → AllByRecursion (λ x. P x × Q x) xs
  all_both P Q [] h k = tt
  all_both P Q (x ∷ xs) h k = ((h.0, k.0), all_both P Q xs h.1 k.1)

  -- a stricter filter leaves at most as many rows
  pub length_fewer : (p q : A → Bool) (xs : List A) → length (filter p (filter q xs)) ≤ length (filter p xs)
  length_fewer p q [] = omega arith
  length_fewer p q (x ∷ xs) = grind (arith, cases_Bool (p x), cases_Bool (q x), length_fewer p q xs)
