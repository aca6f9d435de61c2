-- The values of the fields with a name, one field after another.
use Rattle.std.proofs.Common.{◌≡◌, ℕ, suc, ◌+◌, ◌<◌, ◌≤◌, Bool, true, false, List, [], ◌∷◌, length, map, drop, get_or, refl, add-one}
use Rattle.std.proofs.Math.Seq.{drop-cons}
use Rattle.std.proofs.Math.ListN.{drop_of_length-le}
use Rattle.std.specs.List.{list_all}
use Rattle.httparse.specs.Spans.{header_bytes}
use Rattle.httparse.specs.declared.spans.HeaderSpan.{HeaderSpan}
use Rattle.plan_http.specs.Fields.{NamedValue, has_name, values_of}

-- a field of the name gives its value
pub values_here : (name : List ℕ) (field : NamedValue) (fields : List NamedValue) → has_name name field ≡ true
    → values_of name (field ∷ fields) ≡ field.1 ∷ values_of name fields
unfolding values_of
values_here name field fields has = rw has refl

-- any other gives none
pub values_past : (name : List ℕ) (field : NamedValue) (fields : List NamedValue) → has_name name field ≡ false
    → values_of name (field ∷ fields) ≡ values_of name fields
unfolding values_of
values_past name field fields has = rw has refl

pub values_none : (name : List ℕ) → values_of name [] ≡ []
unfolding values_of
values_none name = refl

module _ (front name : List ℕ) (headers : List HeaderSpan) (i : ℕ) (d : HeaderSpan) where
  -- the same for the headers that are left
  pub here_at : i < length headers → has_name name (header_bytes front (get_or headers i d)) ≡ true
      → values_of name (map (header_bytes front) (drop i headers)) ≡ (header_bytes front (get_or headers i d)).1 ∷ values_of name (map (header_bytes front) (drop (i + 1) headers))
  here_at below has =
      rw (drop-cons headers i d below, add-one) (values_here name (header_bytes front (get_or headers i d)) (map (header_bytes front) (drop (suc i) headers)) has)

  pub past_at : i < length headers → has_name name (header_bytes front (get_or headers i d)) ≡ false
      → values_of name (map (header_bytes front) (drop i headers)) ≡ values_of name (map (header_bytes front) (drop (i + 1) headers))
  past_at below has =
      rw (drop-cons headers i d below, add-one) (values_past name (header_bytes front (get_or headers i d)) (map (header_bytes front) (drop (suc i) headers)) has)

-- no header is left
pub none_at : (front name : List ℕ) (headers : List HeaderSpan) (i : ℕ) → length headers ≤ i
    → values_of name (map (header_bytes front) (drop i headers)) ≡ []
none_at front name headers i past = rw (drop_of_length-le headers past) (values_none name)

-- whether all values pass a test: one that fails decides, one that passes doesn't
module _ (p : List ℕ → Bool) (front name : List ℕ) (headers : List HeaderSpan) (i : ℕ) (d : HeaderSpan) where
  pub fails_at : i < length headers → has_name name (header_bytes front (get_or headers i d)) ≡ true → p (header_bytes front (get_or headers i d)).1 ≡ false
      → list_all p (values_of name (map (header_bytes front) (drop i headers))) ≡ false
  fails_at below has fails = rw (here_at front name headers i d below has, fails) refl

  pub passes_at : i < length headers → has_name name (header_bytes front (get_or headers i d)) ≡ true → p (header_bytes front (get_or headers i d)).1 ≡ true
      → list_all p (values_of name (map (header_bytes front) (drop i headers))) ≡ list_all p (values_of name (map (header_bytes front) (drop (i + 1) headers)))
  passes_at below has passes = rw (here_at front name headers i d below has, passes) refl
