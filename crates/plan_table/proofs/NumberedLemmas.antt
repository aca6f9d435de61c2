-- The next element of a list with its number.
use Rattle.std.proofs.Common.{◌≡◌, ℕ, ◌+◌, ◌<◌, List, [], ◌∷◌, ◌++◌, length, map, take, get_or, sym, ap, ◌∙◌, append_assoc, append-nil, arith, length-take-le}
use Rattle.std.proofs.lemmas.List.{map_more, take_more, length-map}
use Rattle.plan_table.specs.Numbered.{numbered}

pub numbered-push : {A B : Type 0} (f : ℕ → A → List B) (n : ℕ) (xs : List A) (x : A) → numbered f n (xs ++ x ∷ []) ≡ numbered f n xs ++ f (n + length xs) x
numbered-push f n [] x = let e : n + 0 ≡ n = omega arith in append-nil (f n x) ∙ ap (λ k. f k x) (sym e)
numbered-push f n (y ∷ xs) x =
    let e : n + 1 + length xs ≡ n + length (y ∷ xs) = omega arith in
    ap (λ rest. f n y ++ rest) (numbered-push f (n + 1) xs x ∙ ap (λ k. numbered f (n + 1) xs ++ f k x) e)
    ∙ sym (append_assoc (f n y) (numbered f (n + 1) xs) (f (n + length (y ∷ xs)) x))

-- one element more of a list that is seen by a view
pub numbered-more : {A B C : Type 0} (f : ℕ → A → List B) (view : C → A) (n : ℕ) (xs : List C) (k : ℕ) (x d : C) →
    k < length xs → x ≡ get_or xs k d →
    numbered f n (map view (take (k + 1) xs)) ≡ numbered f n (map view (take k xs)) ++ f (n + k) (view x)
numbered-more f view n xs k x d below is =
    let size : length (map view (take k xs)) ≡ k = length-map (take k xs) view ∙ length-take-le k xs (omega (arith, below)) in
    ap (numbered f n) (map_more view xs k d below)
    ∙ numbered-push f n (map view (take k xs)) (view (get_or xs k d))
    ∙ ap (λ i. numbered f n (map view (take k xs)) ++ f (n + i) (view (get_or xs k d))) size
    ∙ ap (λ y. numbered f n (map view (take k xs)) ++ f (n + k) (view y)) (sym is)

-- the same for a list as it is
pub numbered-next : {A B : Type 0} (f : ℕ → A → List B) (n : ℕ) (xs : List A) (k : ℕ) (x d : A) →
    k < length xs → x ≡ get_or xs k d →
    numbered f n (take (k + 1) xs) ≡ numbered f n (take k xs) ++ f (n + k) x
numbered-next f n xs k x d below is =
    let size : length (take k xs) ≡ k = length-take-le k xs (omega (arith, below)) in
    ap (numbered f n) (take_more xs k d below)
    ∙ numbered-push f n (take k xs) (get_or xs k d)
    ∙ ap (λ i. numbered f n (take k xs) ++ f (n + i) (get_or xs k d)) size
    ∙ ap (λ y. numbered f n (take k xs) ++ f (n + k) y) (sym is)

-- a step of a loop that writes each element behind those before it
pub next_written : {B : Type 0} (before old new so_far step more : List B) →
    old ≡ before ++ so_far → new ≡ old ++ step → more ≡ so_far ++ step → new ≡ before ++ more
next_written before old new so_far step more is written whole =
    written ∙ ap (λ xs. xs ++ step) is ∙ append_assoc before so_far step ∙ ap (λ xs. before ++ xs) (sym whole)

-- the next line of a table whose lines are numbered from n
pub next_line : {A C : Type 0} (line : ℕ → A → List ℕ) (view : C → A) (n : ℕ) (xs : List C) (k : ℕ) (x : C) (before old new : List ℕ) →
    k < length xs → x ≡ get_or xs k x →
    old ≡ before ++ numbered line n (map view (take k xs)) → new ≡ old ++ line (k + n) (view x) →
    new ≡ before ++ numbered line n (map view (take (k + 1) xs))
next_line line view n xs k x before old new below is so_far written =
    let number : k + n ≡ n + k = omega arith in
    next_written before old new (numbered line n (map view (take k xs))) (line (n + k) (view x)) (numbered line n (map view (take (k + 1) xs)))
    so_far (written ∙ ap (λ i. old ++ line i (view x)) number) (numbered-more line view n xs k x x below is)
