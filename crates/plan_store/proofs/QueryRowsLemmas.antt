-- The result of a book's call, from the rows of its query.
use Rattle.std.proofs.Common.{◌≡◌, ◌<◌, ◌≤◌, ◌+◌, ℕ, List, [], ◌∷◌, ◌++◌, take, get_or, length, sym, subst}
use Rattle.std.specs.List.{AllZip}
use Rattle.std.proofs.lemmas.List.{take_more, take_all}

zip_push : {A B : Type 0} (R : A → B → Type 0) (xs : List A) (ys : List B) (x : A) (y : B) → AllZip R xs ys → R x y → AllZip R (xs ++ x ∷ []) (ys ++ y ∷ [])
zip_push R [] [] x y all last = (last, tt)
zip_push R [] (b ∷ ys) x y all last = absurd all
zip_push R (a ∷ xs) [] x y all last = absurd all
zip_push R (a ∷ xs) (b ∷ ys) x y all last = (all.0, zip_push R xs ys x y all.1 last)

module _ {A B : Type 0} (R : A → B → Type 0) (xs : List A) (i : ℕ) where
  pub zip_more : (d : A) (ys zs : List B) (y : B) → i < length xs → AllZip R (take i xs) ys → R (get_or xs i d) y → zs ≡ ys ++ y ∷ [] → AllZip R (take (i + 1) xs) zs
  zip_more d ys zs y low all last is = subst (λ l. AllZip R l zs) (sym (take_more xs i d low))
      (subst (AllZip R (take i xs ++ get_or xs i d ∷ [])) (sym is)
      (zip_push R (take i xs) ys (get_or xs i d) y all last))

  pub zip_whole : (ys : List B) → length xs ≤ i → AllZip R (take i xs) ys → AllZip R xs ys
  zip_whole ys past all = subst (λ l. AllZip R l ys) (take_all i xs past) all
