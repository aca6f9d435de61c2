-- The length that the values of Content-Length give together.
use Rattle.std.proofs.Common.{◌≡◌, ℕ, Bool, true, false, not, ◌&&◌, ◌||◌, List, [], ◌∷◌, refl, nat_eq}
use Rattle.std.specs.List.{list_all, list_any}
use Rattle.std.specs.Str.Parse.{digits_value}
use Rattle.plan_http.specs.Fields.{is_length_text, is_length_wrong, body_length}
use Rattle.plan_http.specs.Lengths.{spells}

one_step : (a b c d e : Bool) → (not c || d) ≡ not e → (not (a && c) || (not b || d)) ≡ not ((a && b) && e)
one_step true true c d e h = h
one_step true false true d e h = refl
one_step true false false d e h = refl
one_step false b c d e h = refl

-- two tests of each element are one
pub two_tests : (p q : List ℕ → Bool) (vs : List (List ℕ)) → (not (list_all p vs) || list_any (λ v. not (q v)) vs) ≡ not (list_all (λ v. p v && q v) vs)
two_tests p q [] = refl
two_tests p q (v ∷ vs) = one_step (p v) (q v) (list_all p vs) (list_any (λ w. not (q w)) vs) (list_all (λ w. p w && q w) vs) (two_tests p q vs)

-- values are wrong if one of them isn't the number of the first
pub wrong_at : (vs others : List (List ℕ)) (v : List ℕ) → vs ≡ v ∷ others → is_length_wrong vs ≡ not (list_all (spells (digits_value 10 v)) vs)
wrong_at vs others v is = rw is (two_tests is_length_text (λ w. nat_eq (digits_value 10 w) (digits_value 10 v)) (v ∷ others))

pub first_length : (vs others : List (List ℕ)) (v : List ℕ) → vs ≡ v ∷ others → body_length vs ≡ digits_value 10 v
first_length vs others v is = rw is refl
