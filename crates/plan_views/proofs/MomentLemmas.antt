-- The moments of a plan, one row after another.
use Rattle.std.proofs.Common.{◌≡◌, ◌⊎◌, inl, inr, ℕ, zero, suc, ◌+◌, ◌-◌, ◌<◌, Some, None, map, string_bytes, List, [], ◌∷◌, ◌++◌, sym, ap, subst, ◌∙◌, arith}
use Rattle.std.specs.List.{AllZip, range_with_len, slice_get}
use Rattle.std.specs.Option.{option_map}
use Rattle.std.proofs.lemmas.Option.{slice_get-map}
use Rattle.plan_calendar.specs.WorkingDay.{Workdays, IsBeyond}
use Rattle.plan_views.specs.Moments.{Pair, AreMoments, HidesMoment, IsBeginText, IsEndText, day_of, first_of, last_of, pair_of}
use Rattle.plan_views.specs.declared.moments.MomentStyle.{MomentStyle}
use Rattle.plan_views.specs.declared.moments.MomentTexts.{MomentTexts}

range_more : (first n : ℕ) → range_with_len first (suc n) ≡ range_with_len first n ++ (first + n) ∷ []
range_more first zero =
    let e : first ≡ first + 0 = omega arith in
    ap (λ k. k ∷ []) e
range_more first (suc n) =
    let e : first + 1 + n ≡ first + suc n = omega arith in
    ap (λ rest. first ∷ rest) (range_more (first + 1) n ∙ ap (λ k. range_with_len (first + 1) n ++ k ∷ []) e)

zip_push : {A B : Type 0} (R : A → B → Type 0) (xs : List A) (ys : List B) (x : A) (y : B) → AllZip R xs ys → R x y
    → AllZip R (xs ++ x ∷ []) (ys ++ y ∷ [])
zip_push R [] [] x y all this = (this, all)
zip_push R [] (b ∷ ys) x y all this = absurd all
zip_push R (a ∷ xs) [] x y all this = absurd all
zip_push R (a ∷ xs) (b ∷ ys) x y all this = (all.0, zip_push R xs ys x y all.1 this)

-- one more row, for a number
pub next_zip : {B : Type 0} (R : ℕ → B → Type 0) (k : ℕ) (old new : List B) (y : B)
    → AllZip R (range_with_len 0 k) old → new ≡ old ++ y ∷ [] → R k y → AllZip R (range_with_len 0 (k + 1)) new
next_zip R k old new y all more this =
    let e : k + 1 ≡ suc k = omega arith in
    let place : 0 + k ≡ k = omega arith in
    let range : range_with_len 0 (k + 1) ≡ range_with_len 0 k ++ k ∷ [] =
    ap (range_with_len 0) e ∙ range_more 0 k ∙ ap (λ n. range_with_len 0 k ++ n ∷ []) place in
    subst (λ ns. AllZip R ns new) (sym range)
    (subst (λ ys. AllZip R (range_with_len 0 k ++ k ∷ []) ys) (sym more) (zip_push R (range_with_len 0 k) old k y all this))

-- the moments of an interval that isn't empty
pub both_moments : (calendar : Workdays) (style : MomentStyle) (start duration : ℕ) (pair : Pair) → 0 < duration
    → IsBeginText calendar style start pair.first → IsEndText calendar style (start + (duration - 1)) pair.last
    → AreMoments calendar style start duration pair
both_moments calendar style start zero pair some a b = absurd (omega (arith, some))
both_moments calendar style start (suc n) pair some a b =
    let place : start + (suc n - 1) ≡ start + n = omega arith in
    (a, subst (λ t. IsEndText calendar style t pair.last) place b)

-- one of the days of an interval that isn't empty is beyond
pub some_hidden : (calendar : Workdays) (style : MomentStyle) (start duration : ℕ) → 0 < duration
    → IsBeyond calendar (day_of style.hours start) ⊎ IsBeyond calendar (day_of style.hours (start + (duration - 1)))
    → HidesMoment calendar style start duration
some_hidden calendar style start zero some beyond = absurd (omega (arith, some))
some_hidden calendar style start (suc n) some (inl first) = inl first
some_hidden calendar style start (suc n) some (inr last) =
    let place : start + (suc n - 1) ≡ start + n = omega arith in
    inr (subst (λ t. IsBeyond calendar (day_of style.hours t)) place last)

-- the texts at an index, by the values of rows
pub first_there : (rows : List MomentTexts) (k : ℕ) (row : MomentTexts) → slice_get rows k ≡ Some row
    → first_of (slice_get (map pair_of rows) k) ≡ string_bytes row.first
first_there rows k row is = ap first_of (slice_get-map pair_of rows k ∙ ap (option_map pair_of) is)

pub first_absent : (rows : List MomentTexts) (k : ℕ) → slice_get rows k ≡ None
    → first_of (slice_get (map pair_of rows) k) ≡ []
first_absent rows k is = ap first_of (slice_get-map pair_of rows k ∙ ap (option_map pair_of) is)

pub last_there : (rows : List MomentTexts) (k : ℕ) (row : MomentTexts) → slice_get rows k ≡ Some row
    → last_of (slice_get (map pair_of rows) k) ≡ string_bytes row.last
last_there rows k row is = ap last_of (slice_get-map pair_of rows k ∙ ap (option_map pair_of) is)

pub last_absent : (rows : List MomentTexts) (k : ℕ) → slice_get rows k ≡ None
    → last_of (slice_get (map pair_of rows) k) ≡ []
last_absent rows k is = ap last_of (slice_get-map pair_of rows k ∙ ap (option_map pair_of) is)
