-- Lists that are made element by element.
use Rattle.std.proofs.Common.{◌≡◌, ℕ, ◌+◌, ◌<◌, List, [], ◌∷◌, ◌++◌, length, take, get_or, sym, ap, ◌∙◌, subst}
use Rattle.std.specs.List.{AllZip, range_with_len}
use Rattle.std.proofs.lemmas.List.{take_more}
use Rattle.plan_sheet.proofs.NumberedLemmas.{range_more}

zip_push : {A B : Type 0} (R : A → B → Type 0) (xs : List A) (ys : List B) (x : A) (y : B) → AllZip R xs ys → R x y → AllZip R (xs ++ x ∷ []) (ys ++ y ∷ [])
zip_push R [] [] x y all this = (this, all)
zip_push R [] (b ∷ ys) x y all this = absurd all
zip_push R (a ∷ xs) [] x y all this = absurd all
zip_push R (a ∷ xs) (b ∷ ys) x y all this = (all.0, zip_push R xs ys x y all.1 this)

-- one more element, for a number
pub next_zip : {B : Type 0} (R : ℕ → B → Type 0) (k : ℕ) (old new : List B) (y : B) →
    AllZip R (range_with_len 0 k) old → new ≡ old ++ y ∷ [] → R k y → AllZip R (range_with_len 0 (k + 1)) new
next_zip R k old new y all more this =
    subst (λ ns. AllZip R ns new) (sym (range_more k))
    (subst (λ ys. AllZip R (range_with_len 0 k ++ k ∷ []) ys) (sym more) (zip_push R (range_with_len 0 k) old k y all this))

-- one more element, for one of a list
pub next_pair : {A B : Type 0} (R : A → B → Type 0) (xs : List A) (k : ℕ) (x : A) (old new : List B) (y : B) → k < length xs → x ≡ get_or xs k x →
    AllZip R (take k xs) old → new ≡ old ++ y ∷ [] → R x y → AllZip R (take (k + 1) xs) new
next_pair R xs k x old new y below is all more this =
    let rest : take (k + 1) xs ≡ take k xs ++ x ∷ [] = take_more xs k x below ∙ ap (λ z. take k xs ++ z ∷ []) (sym is) in
    subst (λ zs. AllZip R zs new) (sym rest) (subst (λ ys. AllZip R (take k xs ++ x ∷ []) ys) (sym more) (zip_push R (take k xs) old x y all this))
