-- Lists whose items become other items, one by one.
use Rattle.std.specs.Prelude.{ℕ, ◌+◌, ◌⊎◌, List, [], ◌∷◌}

-- each item becomes the one in its place; the first of them has the number k
abbrev pub Become : {A B : Type 0} → (ℕ → A → B → Type 0) → ℕ → List A → List B → Type 0
Become R k [] [] = Unit {0}
Become R k [] (y ∷ ys) = ⊥
Become R k (x ∷ xs) [] = ⊥
Become R k (x ∷ xs) (y ∷ ys) = R k x y × Become R (k + 1) xs ys

-- an item fails, and each one before it becomes another one; the first of them has the number k
abbrev pub FirstFails : {A B : Type 0} → (ℕ → A → B → Type 0) → (ℕ → A → Type 0) → ℕ → List A
    → Type 0
FirstFails R Q k [] = ⊥
FirstFails {A} {B} R Q k (x ∷ xs) =
    Q k x ⊎ (((y : B) × R k x y) × FirstFails R Q (k + 1) xs)
