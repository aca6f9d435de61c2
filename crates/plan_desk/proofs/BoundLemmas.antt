-- A search among the bound places of a plan finds the bind of the view, whatever their order.
use Rattle.std.proofs.Common.{◌≡◌, ℕ, zero, suc, ◌+◌, ◌<◌, Bool, true, false, ◌&&◌, List, [], ◌∷◌, ◌++◌, map, filter, Option, Some, None, refl, sym, ap, ◌∙◌, arith}
use Rattle.std.specs.Prelude.{find, option_map, option_and_then, unwrap_or, ◌==◌}
use Rattle.std.proofs.lemmas.Bool.{cases_Bool, eqb-true, ltb-true, ne_eqb}
use Rattle.plan_desk.specs.declared.bound.BoundPlace.{BoundPlace}
use Rattle.plan_rows.specs.World.{Text, Published, Bind, code_in}
use Rattle.plan_rows.specs.Views.{View}
use Rattle.plan_rows.specs.Plans.{put_in_order, in_order, bind_before, place_of, places_of, is_bound_at, code_at, capacities_from, is_open, open_machines}
use Rattle.plan_desk.specs.Pages.{capacity_of, capacities_at, bound_in}
use Rattle.plan_desk.specs.PlanValues.{capacity_at, capacities_in, is_open_at, machines_in}

find-map : {A B : Type 0} (f : A → B) (p : B → Bool) (xs : List A) → find p (map f xs) ≡ option_map f (find (λ x. p (f x)) xs)
find-map f p [] = refl
find-map f p (x ∷ xs) = grind (arith, cases_Bool (p (f x)), find-map f p xs)

find-filter : {A : Type 0} (p q : A → Bool) (xs : List A) → find p (filter q xs) ≡ find (λ x. q x && p x) xs
find-filter p q [] = refl
find-filter p q (x ∷ xs) = grind (arith, cases_Bool (p x), cases_Bool (q x), find-filter p q xs)

-- if no row that sorts before a passing row passes, the first passing row is the same in sorted
-- order
module _ {A : Type 0} (before : A → A → Bool) (p : A → Bool) (apart : (x y : A) → p x ≡ true → before y x ≡ true → p y ≡ false) where
  find-put : (x : A) (ys : List A) → find p (put_in_order before x ys) ≡ find p (x ∷ ys)
  find-put x [] = refl
  find-put x (y ∷ ys) = grind (arith, cases_Bool (before y x), cases_Bool (p x), cases_Bool (p y), apart x y, find-put x ys)

  find-in_order : (xs : List A) → find p (in_order before xs) ≡ find p xs
  find-in_order [] = refl
  find-in_order (x ∷ xs) = find-put x (in_order before xs) ∙ grind (arith, cases_Bool (p x), find-in_order xs)

-- the first bind of a place, in order or not
find_place : (binds : List Bind) (n place : ℕ) → find (λ row. row.place == place) (in_order bind_before (filter (λ row. row.n == n) binds)) ≡ find (is_bound_at n place) binds
find_place binds n place =
    find-in_order bind_before (λ row. row.place == place) apart (filter (λ row. row.n == n) binds)
    ∙ find-filter (λ row. row.place == place) (λ row. row.n == n) binds
  where
    apart : (x y : Bind) → (x.place == place) ≡ true → bind_before y x ≡ true → (y.place == place) ≡ false
    apart x y here less =
        let at : x.place ≡ place = eqb-true x.place place here in
        let below : y.place < x.place = ltb-true y.place x.place less in
        ne_eqb y.place place (λ e. omega (arith, at, below, e))

-- the capacity of a bound place, from a list of pairs
abbrev pair_capacity : List (ℕ × Option ℕ) → ℕ → Option ℕ
pair_capacity pairs place = option_and_then (λ (b : ℕ × Option ℕ). b.1) (find (λ (b : ℕ × Option ℕ). b.0 == place) pairs)

pairs_found : (places : List BoundPlace) (place : ℕ) → pair_capacity (map bound_in places) place ≡ capacity_at places place
pairs_found places place =
    ap (option_and_then (λ (b : ℕ × Option ℕ). b.1)) (find-map bound_in (λ (b : ℕ × Option ℕ). b.0 == place) places)
    ∙ by_found (find (λ b. b.place == place) places)
  where
    by_found : (o : Option BoundPlace) → option_and_then (λ (b : ℕ × Option ℕ). b.1) (option_map bound_in o) ≡ option_and_then (λ b. b.capacity) o
    by_found None = refl
    by_found (Some b) = refl

seen_pairs : (v : View) (n place : ℕ) → pair_capacity (capacities_at v n) place ≡ option_map (λ row. row.capacity) (code_at v n place)
seen_pairs v n place =
    ap (option_and_then (λ (b : ℕ × Option ℕ). b.1))
    (find-map with_code (λ (b : ℕ × Option ℕ). b.0 == place) (places_of v n)
    ∙ ap (option_map with_code) (find-map place_of (λ (b : ℕ × Text). b.0 == place) (in_order bind_before (filter (λ row. row.n == n) v.binds))
    ∙ ap (option_map place_of) (find_place v.binds n place)))
    ∙ by_found (find (is_bound_at n place) v.binds)
  where
    with_code : ℕ × Text → ℕ × Option ℕ
    with_code bound = (bound.0, capacity_of v.published bound.1)

    by_found : (o : Option Bind) → option_and_then (λ (b : ℕ × Option ℕ). b.1) (option_map with_code (option_map place_of o))
        ≡ option_map (λ row. row.capacity) (option_and_then (λ row. code_in v.published row.code) o)
    by_found None = refl
    by_found (Some row) = refl

module _ (v : View) (n : ℕ) (places : List BoundPlace) (seen : map bound_in places ≡ capacities_at v n) where
  capacity_is : (place : ℕ) → capacity_at places place ≡ option_map (λ row. row.capacity) (code_at v n place)
  capacity_is place = sym (pairs_found places place) ∙ ap (λ pairs. pair_capacity pairs place) seen ∙ seen_pairs v n place

  -- the capacities are those that the view has bound
  pub capacities_are : (k : ℕ) (available : List ℕ) → capacities_in places k available ≡ capacities_from v n k available
  capacities_are k [] = refl
  capacities_are k (x ∷ xs) =
      ap (λ o. unwrap_or o x ∷ capacities_in places (k + 1) xs) (capacity_is k)
      ∙ ap (λ rest. unwrap_or (option_map (λ row. row.capacity) (code_at v n k)) x ∷ rest) (capacities_are (k + 1) xs)

  open_is : (o : Option Published) → is_open_at (option_map (λ row. row.capacity) o) ≡ is_open o
  open_is None = refl
  open_is (Some row) = refl

  -- the open machines are those of the view
  pub machines_are : (m : ℕ) → machines_in places m ≡ open_machines v n m
  machines_are zero = refl
  machines_are (suc m) =
      ap (λ rest. rest ++ is_open_at (capacity_at places m) ∷ []) (machines_are m)
      ∙ ap (λ b. open_machines v n m ++ b ∷ []) (ap is_open_at (capacity_is m) ∙ open_is (code_at v n m))
