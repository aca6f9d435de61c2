-- Rows with owners: the effect on an owner of a change of one owner's rows.
use Rattle.std.proofs.Common.{◌≡◌, ◌⊎◌, inl, inr, Bool, true, false, not, List, [], ◌∷◌, ◌++◌, filter, refl, sym, ap, ◌∙◌, subst, append-nil}
use Rattle.std.specs.List.{list_any, AllByRecursion}
use Rattle.std.proofs.lemmas.Bool.{cases_Bool, cond-true, cond-false, both_ways, false_from_ne_true}
use Rattle.std.proofs.lemmas.List.Elements.{filter-append}
use Rattle.std.proofs.lemmas.Slice.Eq.{bytes_eq-Decides}
use Rattle.plan_rows.specs.World.{Text, same_text}
use Rattle.plan_rows.specs.Changes.{changed, put, without}
use Rattle.plan_rows.proofs.RowLemmas.{filter_again, filter_swap, filter_all, filter-changed, changed_none, all_filtered, all_weaker, list_any-filter}

-- equal texts are the same text
pub text_from_same : (a b : Text) → same_text a b ≡ true → a ≡ b
text_from_same a b e = (bytes_eq-Decides a b).0 e

pub same_text_refl : (a : Text) → same_text a a ≡ true
same_text_refl a = (bytes_eq-Decides a a).1 refl

module _ {A : Type 0} (owner : A → Text) where
  -- the rows of one owner
  abbrev pub is_of : Text → A → Bool
  is_of d row = same_text (owner row) d

  -- the rows that pass belong to this owner
  abbrev pub IsWithin : Text → (A → Bool) → Type 0
  IsWithin s q = (row : A) → q row ≡ true → is_of s row ≡ true

  -- the owner stays
  abbrev pub KeepsOwner : (A → A) → Type 0
  KeepsOwner f = (row : A) → owner (f row) ≡ owner row

  -- a row of one owner belongs to another exactly if the two are equal
  of_other : (d s : Text) (row : A) → is_of s row ≡ true → is_of d row ≡ same_text s d
  of_other d s row e = ap (λ t. same_text t d) (text_from_same (owner row) s e)

  -- none of the rows that another sees passes
  pub none_seen : (d s : Text) (q : A → Bool) → same_text s d ≡ false → IsWithin s q → (xs : List A)
      → AllByRecursion (λ row. q row ≡ false) (filter (is_of d) xs)
  none_seen d s q apart within xs =
      all_weaker (λ row mine. false_from_ne_true (q row)
      (λ e. both_ways (is_of d row) (of_other d s row (within row e) ∙ apart) mine))
      (filter (is_of d) xs) (all_filtered (is_of d) xs)

  pub seen_changed : (d : Text) (q : A → Bool) (f : A → A) → KeepsOwner f → (xs : List A)
      → filter (is_of d) (changed q f xs) ≡ filter (is_of d) (changed q f (filter (is_of d) xs))
  seen_changed d q f keeps xs =
      let same : (row : A) → is_of d (f row) ≡ is_of d row = λ row. ap (λ t. same_text t d) (keeps row) in
      filter-changed (is_of d) q f same xs
      ∙ ap (changed q f) (sym (filter_again (is_of d) xs))
      ∙ sym (filter-changed (is_of d) q f same (filter (is_of d) xs))

  pub hidden_changed : (d s : Text) (q : A → Bool) (f : A → A) → KeepsOwner f → same_text s d ≡ false
      → IsWithin s q → (xs : List A) → filter (is_of d) (changed q f xs) ≡ filter (is_of d) xs
  hidden_changed d s q f keeps apart within xs =
      filter-changed (is_of d) q f (λ row. ap (λ t. same_text t d) (keeps row)) xs
      ∙ changed_none q f (filter (is_of d) xs) (none_seen d s q apart within xs)

  pub seen_without : (d : Text) (q : A → Bool) (xs : List A)
      → filter (is_of d) (without q xs) ≡ filter (is_of d) (without q (filter (is_of d) xs))
  seen_without d q xs =
      filter_swap (is_of d) (λ row. not (q row)) xs
      ∙ ap (without q) (sym (filter_again (is_of d) xs))
      ∙ sym (filter_swap (is_of d) (λ row. not (q row)) (filter (is_of d) xs))

  pub hidden_without : (d s : Text) (q : A → Bool) → same_text s d ≡ false → IsWithin s q → (xs : List A)
      → filter (is_of d) (without q xs) ≡ filter (is_of d) xs
  hidden_without d s q apart within xs =
      filter_swap (is_of d) (λ row. not (q row)) xs
      ∙ filter_all (λ row. not (q row)) (filter (is_of d) xs)
      (all_weaker (λ row e. ap not e) (filter (is_of d) xs) (none_seen d s q apart within xs))

  pub seen_added : (d : Text) (new : A) (xs : List A)
      → filter (is_of d) (xs ++ new ∷ []) ≡ filter (is_of d) (filter (is_of d) xs ++ new ∷ [])
  seen_added d new xs =
      filter-append (is_of d) xs (new ∷ [])
      ∙ ap (λ ys. ys ++ filter (is_of d) (new ∷ [])) (sym (filter_again (is_of d) xs))
      ∙ sym (filter-append (is_of d) (filter (is_of d) xs) (new ∷ []))

  pub hidden_added : (d : Text) (new : A) → is_of d new ≡ false → (xs : List A)
      → filter (is_of d) (xs ++ new ∷ []) ≡ filter (is_of d) xs
  hidden_added d new apart xs =
      filter-append (is_of d) xs (new ∷ [])
      ∙ ap (λ ys. filter (is_of d) xs ++ ys) (cond-false (is_of d new) (new ∷ []) [] apart)
      ∙ append-nil (filter (is_of d) xs)

  pub hidden_put : (d s : Text) (q : A → Bool) (f : A → A) (new : A) → KeepsOwner f → same_text s d ≡ false
      → IsWithin s q → owner new ≡ s → (xs : List A) → filter (is_of d) (put q f new xs) ≡ filter (is_of d) xs
  hidden_put d s q f new keeps apart within own xs = by_any (cases_Bool (list_any q xs))
    where
      by_any : (list_any q xs ≡ true) ⊎ (list_any q xs ≡ false) → filter (is_of d) (put q f new xs) ≡ filter (is_of d) xs
      by_any (inl e) =
          ap (filter (is_of d)) (cond-true (list_any q xs) (changed q f xs) (xs ++ new ∷ []) e)
          ∙ hidden_changed d s q f keeps apart within xs
      by_any (inr e) =
          ap (filter (is_of d)) (cond-false (list_any q xs) (changed q f xs) (xs ++ new ∷ []) e)
          ∙ hidden_added d new (ap (λ t. same_text t d) own ∙ apart) xs

  pub seen_put : (d s : Text) (q : A → Bool) (f : A → A) (new : A) → KeepsOwner f
      → IsWithin s q → owner new ≡ s → (xs : List A)
      → filter (is_of d) (put q f new xs) ≡ filter (is_of d) (put q f new (filter (is_of d) xs))
  seen_put d s q f new keeps within own xs = by_owner (cases_Bool (same_text s d))
    where
      by_any : IsWithin d q → (list_any q xs ≡ true) ⊎ (list_any q xs ≡ false)
          → filter (is_of d) (put q f new xs) ≡ filter (is_of d) (put q f new (filter (is_of d) xs))
      by_any inside (inl e) =
          let e' : list_any q (filter (is_of d) xs) ≡ true = list_any-filter (is_of d) q inside xs ∙ e in
          ap (filter (is_of d)) (cond-true (list_any q xs) (changed q f xs) (xs ++ new ∷ []) e)
          ∙ seen_changed d q f keeps xs
          ∙ sym (ap (filter (is_of d)) (cond-true (list_any q (filter (is_of d) xs)) (changed q f (filter (is_of d) xs)) (filter (is_of d) xs ++ new ∷ []) e'))
      by_any inside (inr e) =
          let e' : list_any q (filter (is_of d) xs) ≡ false = list_any-filter (is_of d) q inside xs ∙ e in
          ap (filter (is_of d)) (cond-false (list_any q xs) (changed q f xs) (xs ++ new ∷ []) e)
          ∙ seen_added d new xs
          ∙ sym (ap (filter (is_of d)) (cond-false (list_any q (filter (is_of d) xs)) (changed q f (filter (is_of d) xs)) (filter (is_of d) xs ++ new ∷ []) e'))

      by_owner : (same_text s d ≡ true) ⊎ (same_text s d ≡ false)
          → filter (is_of d) (put q f new xs) ≡ filter (is_of d) (put q f new (filter (is_of d) xs))
      by_owner (inl same) = by_any (subst (λ t. IsWithin t q) (text_from_same s d same) within) (cases_Bool (list_any q xs))
      by_owner (inr apart) =
          hidden_put d s q f new keeps apart within own xs
          ∙ sym (filter_again (is_of d) xs)
          ∙ sym (hidden_put d s q f new keeps apart within own (filter (is_of d) xs))
