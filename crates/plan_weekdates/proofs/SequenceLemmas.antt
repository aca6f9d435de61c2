-- Lists whose items become others, item by item.
use Rattle.std.proofs.Common.{◌≡◌, ℕ, ◌+◌, ◌<◌, inl, inr, List, [], ◌∷◌, ◌++◌, length, length-take-le, take-append-drop, map, take, drop, get_or, sym, ◌∙◌, ap, subst, arith}
use Rattle.std.proofs.lemmas.List.{map_more, drop_more, map-append, length-map}
use Rattle.plan_weekdates.specs.Sequences.{Become, FirstFails}

-- an item more
becomes_more : {A B : Type 0} (R : ℕ → A → B → Type 0) (k : ℕ) (xs : List A) (ys : List B) (x : A) (y : B) → Become R k xs ys
    → R (k + length xs) x y → Become R k (xs ++ x ∷ []) (ys ++ y ∷ [])
becomes_more R k [] [] x y before new = (subst (λ n. R n x y) (omega arith) new, tt)
becomes_more R k [] (w ∷ ys) x y before new = absurd before
becomes_more R k (v ∷ xs) [] x y before new = absurd before
becomes_more R k (v ∷ xs) (w ∷ ys) x y before new =
    (before.0, becomes_more R (k + 1) xs ys x y before.1 (subst (λ n. R n x y) (omega arith) new))

-- an item fails behind others
fails_behind : {A B : Type 0} (R : ℕ → A → B → Type 0) (Q : ℕ → A → Type 0) (k : ℕ) (before : List A) (ys : List B) (x : A) (after : List A)
    → Become R k before ys → Q (k + length before) x → FirstFails R Q k (before ++ x ∷ after)
fails_behind R Q k [] [] x after done new = inl (subst (λ n. Q n x) (omega arith) new)
fails_behind R Q k [] (w ∷ ys) x after done new = absurd done
fails_behind R Q k (v ∷ xs) [] x after done new = absurd done
fails_behind R Q k (v ∷ xs) (w ∷ ys) x after done new =
    inr ((w, done.0), fails_behind R Q (k + 1) xs ys x after done.1 (subst (λ n. Q n x) (omega arith) new))

-- the number of the items before one
before : {A C : Type 0} (f : C → A) (xs : List C) (k : ℕ) → k < length xs → k ≡ 0 + length (map f (take k xs))
before f xs k inside =
    let all = length-map (take k xs) f in
    let those = length-take-le k xs (omega (arith, inside)) in
    omega (arith, all, those)

-- the items before one, and that one
up_to : {A C : Type 0} (f : C → A) (xs : List C) (k : ℕ) (x : C) → k < length xs → x ≡ get_or xs k x
    → map f (take (k + 1) xs) ≡ map f (take k xs) ++ f x ∷ []
up_to f xs k x inside is = map_more f xs k x inside ∙ ap (λ item. map f (take k xs) ++ f item ∷ []) (sym is)

-- one more item of a list has become another
pub more : {A B C D : Type 0} (R : ℕ → A → B → Type 0) (f : C → A) (g : D → B) (xs : List C) (ys : List D) (k : ℕ) (x : C) (y : D)
    → k < length xs → x ≡ get_or xs k x → Become R 0 (map f (take k xs)) (map g ys) → R k (f x) (g y)
    → Become R 0 (map f (take (k + 1) xs)) (map g (ys ++ y ∷ []))
more R f g xs ys k x y inside is done new =
    let both = becomes_more R 0 (map f (take k xs)) (map g ys) (f x) (g y) done (subst (λ n. R n (f x) (g y)) (before f xs k inside) new) in
    subst (λ all. Become R 0 (map f (take (k + 1) xs)) all) (sym (map-append g ys (y ∷ [])))
    (subst (λ all. Become R 0 all (map g ys ++ g y ∷ [])) (sym (up_to f xs k x inside is)) both)

-- an item of a list fails, and those before it have become others
pub fails_at : {A B C D : Type 0} (R : ℕ → A → B → Type 0) (Q : ℕ → A → Type 0) (f : C → A) (g : D → B) (xs : List C) (ys : List D) (k : ℕ) (x : C)
    → k < length xs → x ≡ get_or xs k x → Become R 0 (map f (take k xs)) (map g ys) → Q k (f x)
    → FirstFails R Q 0 (map f xs)
fails_at R Q f g xs ys k x inside is done new =
    let whole : map f xs ≡ map f (take k xs) ++ f x ∷ map f (drop (k + 1) xs) =
    ap (map f) (sym (take-append-drop k xs)) ∙ map-append f (take k xs) (drop k xs)
    ∙ ap (λ rest. map f (take k xs) ++ map f rest) (drop_more xs k x inside)
    ∙ ap (λ item. map f (take k xs) ++ f item ∷ map f (drop (k + 1) xs)) (sym is) in
    subst (FirstFails R Q 0) (sym whole)
    (fails_behind R Q 0 (map f (take k xs)) (map g ys) (f x) (map f (drop (k + 1) xs)) done (subst (λ n. Q n (f x)) (before f xs k inside) new))
