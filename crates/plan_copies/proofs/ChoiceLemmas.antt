-- Steps of the loops of choice.rt.
use Rattle.std.specs.Prelude.{◌≡◌, ◌&&◌, ◌+◌, ◌<◌, ℕ, List, Bool, true, false, cond, Contains, map, take, drop, length, get_or, [], ◌∷◌, ◌++◌, nat_eq, Decides, count_by, filter, All}
use Rattle.std.proofs.Common.{append-nil, rules, ap, sym, ◌∙◌, subst, refl, true≢false, is_lt, ◌≤◌}
use Rattle.std.proofs.lemmas.List.{take_more, map-append, get_or-map, length-map, take_all}
use Rattle.std.proofs.lemmas.Grind.{same_number_lists}
use Rattle.std.specs.Prelude.{slice_index}
use Rattle.std.proofs.lemmas.List.Sums.{sum_by_push}
use Rattle.std.proofs.lemmas.List.Elements.{All-push, All-contains, filter-append, filter_passes}
use Rattle.std.proofs.lemmas.Cmp.{tied_itself}
use Rattle.std.specs.Cmp.Lexicographic.{pointwise, bytes_decides, nat_list_cmp_total}
use Rattle.std.specs.Bool.{one_answer}
use Rattle.plan_copies.specs.Choice.{form_of, is_before, is_copy_name, is_earlier, is_expired}

-- a test that decides whether two lists of bytes are equal is their comparison
pub same_answer : (r : Bool) (xs ys : List ℕ) → Decides r (xs ≡ ys) → r ≡ pointwise nat_eq xs ys
same_answer r xs ys h = one_answer r (pointwise nat_eq xs ys) h (bytes_decides xs ys)

-- the form of a byte of a list that has a form
pub form_at : (bytes form : List ℕ) (i : ℕ) → i < length bytes → map form_of bytes ≡ form → form_of (slice_index bytes i) ≡ slice_index form i
form_at bytes form i l e = sym (get_or-map form_of bytes i 0 0 l) ∙ ap (λ xs. get_or xs i 0) e

-- a list has a form if each of its bytes has
pub same_forms : (bytes form : List ℕ) → length bytes ≡ length form
    → ((k : ℕ) → k < length bytes → form_of (slice_index bytes k) ≡ slice_index form k) → map form_of bytes ≡ form
same_forms bytes form e h = same_number_lists (map form_of bytes) form (length-map bytes form_of ∙ e)
    (λ k l. let inside : k < length bytes = subst (λ n. k < n) (length-map bytes form_of) l in
    get_or-map form_of bytes k 0 0 inside ∙ h k inside)

-- all elements are tested
pub all_done : {X Y : Type 0} (f : X → Y) (P : Y → Type 0) (xs : List X) (i : ℕ) → length xs ≤ i → All P (map f (take i xs)) → All P (map f xs)
all_done f P xs i l h = subst (λ ys. All P (map f ys)) (take_all i xs l) h

module _ {X Y : Type 0} (f : X → Y) (xs : List X) (i : ℕ) (x : X) (l : i < length xs) (e : x ≡ get_or xs i x) where
  -- one element more is mapped
  pub map_more : map f (take (i + 1) xs) ≡ map f (take i xs) ++ f x ∷ []
  map_more = ap (map f) (take_more xs i x l) ∙ map-append f (take i xs) (get_or xs i x ∷ [])
      ∙ ap (λ y. map f (take i xs) ++ f y ∷ []) (sym e)

  -- and counted
  pub count_more : (p : Y → Bool) → count_by p (map f (take (i + 1) xs)) ≡ count_by p (map f (take i xs)) + cond (p (f x)) 1 0
  count_more p = ap (count_by p) map_more ∙ sum_by_push (λ y. cond (p y) 1 0) (map f (take i xs)) (f x)

  -- and filtered
  pub filter_map_more : (p : Y → Bool) → filter p (map f (take (i + 1) xs)) ≡ filter p (map f (take i xs)) ++ cond (p (f x)) (f x ∷ []) []
  filter_map_more p = ap (filter p) map_more ∙ filter-append p (map f (take i xs)) (f x ∷ [])

  -- a list of the elements that pass, after one more that passes or doesn't
  pub filter_yes : (p : Y → Bool) (ys zs : List Y) → p (f x) ≡ true → ys ≡ filter p (map f (take i xs))
      → zs ≡ ys ++ f x ∷ [] → zs ≡ filter p (map f (take (i + 1) xs))
  filter_yes p ys zs t h e = e ∙ ap (λ l. l ++ f x ∷ []) h
      ∙ sym (filter_map_more p ∙ ap (λ b. filter p (map f (take i xs)) ++ cond b (f x ∷ []) []) t)

  pub filter_no : (p : Y → Bool) (ys zs : List Y) → p (f x) ≡ false → ys ≡ filter p (map f (take i xs))
      → zs ≡ ys → zs ≡ filter p (map f (take (i + 1) xs))
  filter_no p ys zs t h e = e ∙ h
      ∙ sym (filter_map_more p ∙ ap (λ b. filter p (map f (take i xs)) ++ cond b (f x ∷ []) []) t ∙ append-nil (filter p (map f (take i xs))))

  -- and tested
  pub all_more : (P : Y → Type 0) → All P (map f (take i xs)) → P (f x) → All P (map f (take (i + 1) xs))
  all_more P h p = subst (All P) (sym map_more) (All-push P (map f (take i xs)) (f x) h p)

-- a name that is before itself doesn't exist
pub not_before_itself : (name : List ℕ) → is_before name name ≡ true → ⊥
not_before_itself name h = true≢false (sym h ∙ ap is_lt (tied_itself nat_list_cmp_total name))

second : (s t : Bool) → (s && t) ≡ true → t ≡ true
second true t h = h
second false t h = absurd (true≢false (sym h))

first : (s t : Bool) → (s && t) ≡ true → s ≡ true
first true t h = refl
first false t h = h

-- the new copy isn't expired
pub new_stays : (prefix new : List ℕ) (keep : ℕ) (names : List (List ℕ))
    → Contains (filter (is_expired prefix new keep names) names) new → ⊥
new_stays prefix new keep names h =
    let test = is_expired prefix new keep names in
    let passed : test new ≡ true = All-contains (λ name. test name ≡ true) (filter test names) new (filter_passes test names) h in
    not_before_itself new (second (is_copy_name prefix new) (is_before new new) (first (is_earlier prefix new new) _ passed))
