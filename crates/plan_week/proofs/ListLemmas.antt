-- Lists: what a filter keeps, and lists that grow.
use Rattle.std.proofs.Common.{◌≡◌, ℕ, ◌+◌, ◌≤◌, ◌<◌, inl, inr, Bool, true, List, [], ◌∷◌, ◌++◌, length, length-append, map, get_or, cond, sym, ap, subst, ◌∙◌, arith}
use Rattle.std.specs.List.{All, filter}
use Rattle.std.proofs.lemmas.Bool.{cases_Bool, cases_eq, both_ways, cond-true, cond-false}
use Rattle.std.proofs.lemmas.List.{get_or_append_left, get_or-append-add, get_or_push, get_or-map, length-map}
use Rattle.std.proofs.lemmas.List.Elements.{All-nil, All-cons, All-head, All-tail, All-same}

-- a property of all elements that a filter keeps holds for each element that passes
pub passing : {X : Type 0} (P : X → Type 0) (p : X → Bool) (xs : List X) → All P (filter p xs) → All (λ x. p x ≡ true → P x) xs
passing P p [] held = All-nil (λ x. p x ≡ true → P x)
passing P p (x ∷ xs) held = elim (cases_Bool (p x)) [
  | inl passes ↦
      let kept : All P (x ∷ filter p xs) = All-same P (x ∷ filter p xs) (filter p (x ∷ xs)) (sym (cond-true (p x) (x ∷ filter p xs) (filter p xs) passes)) held in
      All-cons (λ y. p y ≡ true → P y) x xs (λ _. All-head P x (filter p xs) kept) (passing P p xs (All-tail P x (filter p xs) kept))
  | inr fails ↦
      let kept : All P (filter p xs) = All-same P (filter p xs) (filter p (x ∷ xs)) (sym (cond-false (p x) (x ∷ filter p xs) (filter p xs) fails)) held in
      All-cons (λ y. p y ≡ true → P y) x xs (λ passes. absurd (both_ways (p x) fails passes)) (passing P p xs kept)
]

-- a property at each place of a list and of one more element
pub each_more : {X : Type 0} (P : ℕ → X → Type 0) (xs ys : List X) (x d : X) (n : ℕ) → length xs ≡ n → ys ≡ xs ++ x ∷ []
    → ((i : ℕ) → i < n → P i (get_or xs i d)) → P n x → (i : ℕ) → i < n + 1 → P i (get_or ys i d)
each_more {X} P xs ys x d n whole added before here i below = elim (cases_eq i n) [
  | inl same ↦
      let last : get_or ys n d ≡ x = ap (λ (l : List X). get_or l n d) added ∙ get_or_push xs x d n whole in
      subst (λ (k : ℕ). P k (get_or ys k d)) (sym same) (subst (λ (y : X). P n y) (sym last) here)
  | inr other ↦
      let old : get_or ys i d ≡ get_or xs i d = ap (λ (l : List X). get_or l i d) added ∙ get_or_append_left xs (x ∷ []) d i (omega (arith, below, other, whole)) in
      subst (λ (y : X). P i y) (sym old) (before i (omega (arith, below, other)))
]

-- the length of a list with one element more
pub length_more : {X : Type 0} (xs ys : List X) (x : X) (n : ℕ) → length xs ≡ n → ys ≡ xs ++ x ∷ [] → length ys ≡ n + 1
length_more {X} xs ys x n whole added = omega (arith, whole, ap (λ (l : List X). length l) added, length-append xs (x ∷ []))

-- a property of all images holds for the image of each element
pub unmapped : {X Y : Type 0} (P : Y → Type 0) (f : X → Y) (xs : List X) → All P (map f xs) → All (λ x. P (f x)) xs
unmapped P f xs held k d inside = subst P (get_or-map f xs k d (f d) inside) (held k (f d) (omega (arith, inside, length-map xs f)))

-- a property of two lists together holds for each of them
pub all_left : {X : Type 0} (P : X → Type 0) (xs ys : List X) → All P (xs ++ ys) → All P xs
all_left P xs ys held k d inside = subst P (get_or_append_left xs ys d k inside) (held k d (omega (arith, inside, length-append xs ys)))

pub all_right : {X : Type 0} (P : X → Type 0) (xs ys : List X) → All P (xs ++ ys) → All P ys
all_right P xs ys held k d inside = subst P (get_or-append-add xs ys k d) (held (length xs + k) d (omega (arith, inside, length-append xs ys)))
