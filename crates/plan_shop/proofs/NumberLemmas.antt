-- Lists of the numbers that pass, tables, and the first of least or greatest key.
use Rattle.std.proofs.Common.{◌≡◌, ℕ, zero, suc, ◌+◌, ◌-◌, ◌≤◌, ◌<◌, min, Bool, true, false, cond, nat_lt, inl, inr, List, [], ◌∷◌, ◌++◌, length, get_or, refl, sym, ◌∙◌, ap, subst, arith, length-append}
use Rattle.std.specs.List.{All, AllPairs, AllByRecursion, Contains}
use Rattle.std.proofs.lemmas.Bool.{cases_lt, cases_eq, false≢true, cond-true, cond-false, lt-ltb, le-ltb}
use Rattle.std.proofs.lemmas.List.{get_or_append_left, get_or-append_right, get_or_default, get_or_push}
use Rattle.std.proofs.lemmas.List.Elements.{Contains-append_cases, Contains-append_left, Contains-append_right, Contains-get_or, recursion_from_All}
use Rattle.plan_shop.specs.Shop.{those_below, table}
use Rattle.plan_shop.specs.Words.{first_least, least_of}
use Rattle.plan_shop.specs.Rules.{first_greatest}
use Rattle.plan_shop.specs.Laws.{IsFirstLeast, IsFirstGreatest}

-- the one element of a list of at most one
only_one : (b : Bool) (n x : ℕ) → Contains (cond b (n ∷ []) []) x → (b ≡ true) × (n ≡ x)
only_one true n x (zero, l, e) = (refl, e)
only_one true n x (suc k, l, e) = absurd (omega (arith, l))
only_one false n x (k, l, e) = absurd (omega (arith, l))

one_there : (b : Bool) (n x : ℕ) → b ≡ true → x ≡ n → Contains (cond b (n ∷ []) []) x
one_there true n x e same = (0, omega arith, sym same)
one_there false n x e same = absurd (false≢true e)

-- a number in the list is below n and passes
pub there_passes : (n : ℕ) (f : ℕ → Bool) (x : ℕ) → Contains (those_below n f) x → (x < n) × (f x ≡ true)
there_passes zero f x (k, l, e) = absurd (omega (arith, l))
there_passes (suc n) f x c = elim (Contains-append_cases (those_below n f) (cond (f n) (n ∷ []) []) x c) [
  | inl before ↦ let b = there_passes n f x before in (omega (arith, b.0), b.1)
  | inr last ↦
      let o = only_one (f n) n x last in
      (omega (arith, o.1), ap f (sym o.1) ∙ o.0)
]

-- a number below n that passes is in the list
pub passes_there : (n : ℕ) (f : ℕ → Bool) (x : ℕ) → x < n → f x ≡ true → Contains (those_below n f) x
passes_there zero f x l e = absurd (omega (arith, l))
passes_there (suc n) f x l e = elim (cases_eq x n) [
  | inl same ↦ Contains-append_right (those_below n f) (cond (f n) (n ∷ []) []) x (one_there (f n) n x (ap f (sym same) ∙ e) same)
  | inr other ↦ Contains-append_left (those_below n f) (cond (f n) (n ∷ []) []) x (passes_there n f x (omega (arith, l, other)) e)
]

-- a list of at most one has that one at each place
one_is : (b : Bool) (n k d : ℕ) → k < length (cond b (n ∷ []) []) → get_or (cond b (n ∷ []) []) k d ≡ n
one_is true n zero d l = refl
one_is true n (suc k) d l = absurd (omega (arith, l))
one_is false n k d l = absurd (omega (arith, l))

one_long : (b : Bool) (n : ℕ) → length (cond b (n ∷ []) []) ≤ 1
one_long true n = omega arith
one_long false n = omega arith

-- the numbers rise
pub those_rise : (n : ℕ) (f : ℕ → Bool) → AllPairs (λ a b. a < b) (those_below n f)
those_rise zero f i j d l m = absurd (omega (arith, m))
those_rise (suc n) f i j d l m = elim (cases_lt j (length (those_below n f))) [
  | inl before ↦
      let low : get_or (those_below n f) i d < get_or (those_below n f) j d = those_rise n f i j d l before in
      let first : get_or (those_below n f ++ cond (f n) (n ∷ []) []) i d ≡ get_or (those_below n f) i d =
      get_or_append_left (those_below n f) (cond (f n) (n ∷ []) []) d i (omega (arith, l, before)) in
      let second : get_or (those_below n f ++ cond (f n) (n ∷ []) []) j d ≡ get_or (those_below n f) j d = get_or_append_left (those_below n f) (cond (f n) (n ∷ []) []) d j before in
      omega (arith, low, first, second)
  | inr last ↦
      let long : length (those_below n f ++ cond (f n) (n ∷ []) []) ≡ length (those_below n f) + length (cond (f n) (n ∷ []) []) = length-append (those_below n f) (cond (f n) (n ∷ []) []) in
      let short : length (cond (f n) (n ∷ []) []) ≤ 1 = one_long (f n) n in
      let inside : i < length (those_below n f) = omega (arith, long, short, m, l, last) in
      let first : get_or (those_below n f ++ cond (f n) (n ∷ []) []) i d ≡ get_or (those_below n f) i d = get_or_append_left (those_below n f) (cond (f n) (n ∷ []) []) d i inside in
      let low : get_or (those_below n f) i d < n = (there_passes n f (get_or (those_below n f) i d) (Contains-get_or (those_below n f) i d inside)).0 in
      let second : get_or (those_below n f ++ cond (f n) (n ∷ []) []) j d ≡ get_or (cond (f n) (n ∷ []) [])
      (j - length (those_below n f)) d = get_or-append_right (those_below n f) (cond (f n) (n ∷ []) [])
      (length (those_below n f)) j d refl last in
      let is : get_or (cond (f n) (n ∷ []) []) (j - length (those_below n f)) d ≡ n = one_is (f n) n (j - length (those_below n f)) d (omega (arith, long, m, last)) in
      omega (arith, first, low, second, is)
]

-- a fact of each number that passes
pub those_each : (n : ℕ) (f : ℕ → Bool) (P : ℕ → Type 0) → ((x : ℕ) → x < n → f x ≡ true → P x) → All P (those_below n f)
those_each n f P each k d l =
    let t = there_passes n f (get_or (those_below n f) k d) (Contains-get_or (those_below n f) k d l) in
    each (get_or (those_below n f) k d) t.0 t.1

-- each element is in relation R to those after it
abbrev pub InOrder : (ℕ → ℕ → Type 0) → List ℕ → Type 0
InOrder R [] = Unit {0}
InOrder R (x ∷ xs) = AllByRecursion (R x) xs × InOrder R xs

-- a fact of any two numbers with a property, the lesser first, on a rising list of such numbers
pub in_order_from : (R : ℕ → ℕ → Type 0) (Q : ℕ → Type 0) → ((x y : ℕ) → Q x → Q y → x < y → R x y) → (xs : List ℕ) → AllPairs (λ a b. a < b) xs → All Q xs → InOrder R xs
in_order_from R Q f [] p q = tt
in_order_from R Q f (x ∷ xs) p q = (
  recursion_from_All (R x) xs (λ k d l. f x (get_or xs k d) (q 0 d (omega arith)) (q (suc k) d (omega (arith, l))) (p 0 (suc k) d (omega arith) (omega (arith, l)))),
  in_order_from R Q f xs (λ i j d l m. p (suc i) (suc j) d (omega (arith, l)) (omega (arith, m))) (λ k d l. q (suc k) d (omega (arith, l))),
)

pub length_table : (n : ℕ) (f : ℕ → ℕ) → length (table n f) ≡ n
length_table zero f = refl
length_table (suc n) f = omega (arith, length-append (table n f) (f n ∷ []), length_table n f)

pub get_or_table : (n : ℕ) (f : ℕ → ℕ) (x : ℕ) → x < n → get_or (table n f) x 0 ≡ f x
get_or_table zero f x l = absurd (omega (arith, l))
get_or_table (suc n) f x l = elim (cases_eq x n) [
  | inl same ↦
      let long : length (table n f) ≡ x = length_table n f ∙ sym same in
      get_or_push (table n f) (f n) 0 x long ∙ ap f (sym same)
  | inr other ↦
      let before : x < n = omega (arith, l, other) in
      get_or_append_left (table n f) (f n ∷ []) 0 x (omega (arith, before, length_table n f)) ∙ get_or_table n f x before
]

-- the least of f on a list is above none
pub least_of_first : (f : ℕ → ℕ) (x : ℕ) (ys : List ℕ) → least_of f x ys ≤ f x
least_of_first f x [] = omega arith
least_of_first f x (y ∷ ys) = omega arith

pub least_of_rest : (f : ℕ → ℕ) (x : ℕ) (ys : List ℕ) → AllByRecursion (λ y. least_of f x ys ≤ f y) ys
least_of_rest f x [] = tt
least_of_rest f x (y ∷ ys) = (omega (arith, least_of_first f y ys), weaker ys (least_of_rest f y ys)) where
  weaker : (zs : List ℕ) → AllByRecursion (λ z. least_of f y ys ≤ f z) zs → AllByRecursion (λ z. min (f x) (least_of f y ys) ≤ f z) zs
  weaker [] a = tt
  weaker (z ∷ zs) a = (omega (arith, a.0), weaker zs a.1)

-- the first entry of least key, if y has a lesser key than x or not
least_skips : (key : ℕ → ℕ) (x y : ℕ) (ys : List ℕ) (r : ℕ) → key y < key x → IsFirstLeast key (y ∷ ys) r → IsFirstLeast key (x ∷ y ∷ ys) r
least_skips key x y ys r less h = record {
  place = suc h.place;
  inside = omega (arith, h.inside);
  there = h.there;
  least = least;
  first = first;
} where
  top : key r ≤ key y
  top = h.least 0 (omega arith)

  least : (i : ℕ) → i < length (x ∷ y ∷ ys) → key r ≤ key (get_or (x ∷ y ∷ ys) i 0)
  least zero l = omega (arith, top, less)
  least (suc i) l = h.least i (omega (arith, l))

  first : (i : ℕ) → i < suc h.place → key r < key (get_or (x ∷ y ∷ ys) i 0)
  first zero l = omega (arith, top, less)
  first (suc i) l = h.first i (omega (arith, l))

least_keeps : (key : ℕ → ℕ) (x y : ℕ) (ys : List ℕ) (r place : ℕ) → key x ≤ key y → place < length (x ∷ ys) →
    get_or (x ∷ ys) place 0 ≡ r → ((i : ℕ) → i < length (x ∷ ys) → key r ≤ key (get_or (x ∷ ys) i 0))
    → ((i : ℕ) → i < place → key r < key (get_or (x ∷ ys) i 0)) → IsFirstLeast key (x ∷ y ∷ ys) r
least_keeps key x y ys r zero order l there least first = record { place = zero; inside = omega arith; there = there; least = least'; first = λ i l. absurd (omega (arith, l)) } where
  least' : (i : ℕ) → i < length (x ∷ y ∷ ys) → key r ≤ key (get_or (x ∷ y ∷ ys) i 0)
  least' zero l = least 0 (omega arith)
  least' (suc zero) l = omega (arith, least 0 (omega arith), order)
  least' (suc (suc i)) l = least (suc i) (omega (arith, l))
least_keeps key x y ys r (suc place) order inside there least first = record { place = suc (suc place); inside = omega (arith, inside); there = there; least = least'; first = first' } where
  least' : (i : ℕ) → i < length (x ∷ y ∷ ys) → key r ≤ key (get_or (x ∷ y ∷ ys) i 0)
  least' zero l = least 0 (omega arith)
  least' (suc zero) l = omega (arith, least 0 (omega arith), order)
  least' (suc (suc i)) l = least (suc i) (omega (arith, l))

  first' : (i : ℕ) → i < suc (suc place) → key r < key (get_or (x ∷ y ∷ ys) i 0)
  first' zero l = first 0 (omega arith)
  first' (suc zero) l = omega (arith, first 0 (omega arith), order)
  first' (suc (suc i)) l = first (suc i) (omega (arith, l))

pub first_least_is : (key : ℕ → ℕ) (x : ℕ) (ys : List ℕ) → IsFirstLeast key (x ∷ ys) (first_least key x ys)
first_least_is key x [] = record { place = 0; inside = omega arith; there = refl; least = only; first = λ i l. absurd (omega (arith, l)) } where
  only : (i : ℕ) → i < 1 → key x ≤ key (get_or (x ∷ []) i 0)
  only zero l = omega arith
  only (suc i) l = absurd (omega (arith, l))
first_least_is key x (y ∷ ys) = elim (cases_lt (key y) (key x)) [
  | inl less ↦
      let next : cond (nat_lt (key y) (key x)) y x ≡ y = cond-true (nat_lt (key y) (key x)) y x (lt-ltb (key y) (key x) less) in
      subst (λ (z : ℕ). IsFirstLeast key (x ∷ y ∷ ys) (first_least key z ys)) (sym next) (least_skips key x y ys (first_least key y ys) less (first_least_is key y ys))
  | inr order ↦
      let next : cond (nat_lt (key y) (key x)) y x ≡ x = cond-false (nat_lt (key y) (key x)) y x (le-ltb (key y) (key x) order) in
      let h = first_least_is key x ys in
      subst (λ (z : ℕ). IsFirstLeast key (x ∷ y ∷ ys) (first_least key z ys)) (sym next) (least_keeps key x y ys (first_least key x ys) h.place order h.inside h.there h.least h.first)
]

greatest_skips : (key : ℕ → ℕ) (x y : ℕ) (ys : List ℕ) (r : ℕ) → key x < key y → IsFirstGreatest key (y ∷ ys) r → IsFirstGreatest key (x ∷ y ∷ ys) r
greatest_skips key x y ys r less h = record {
  place = suc h.place;
  inside = omega (arith, h.inside);
  there = h.there;
  greatest = greatest;
  first = first;
} where
  top : key y ≤ key r
  top = h.greatest 0 (omega arith)

  greatest : (i : ℕ) → i < length (x ∷ y ∷ ys) → key (get_or (x ∷ y ∷ ys) i 0) ≤ key r
  greatest zero l = omega (arith, top, less)
  greatest (suc i) l = h.greatest i (omega (arith, l))

  first : (i : ℕ) → i < suc h.place → key (get_or (x ∷ y ∷ ys) i 0) < key r
  first zero l = omega (arith, top, less)
  first (suc i) l = h.first i (omega (arith, l))

greatest_keeps : (key : ℕ → ℕ) (x y : ℕ) (ys : List ℕ) (r place : ℕ) → key y ≤ key x →
    place < length (x ∷ ys) → get_or (x ∷ ys) place 0 ≡ r →
    ((i : ℕ) → i < length (x ∷ ys) → key (get_or (x ∷ ys) i 0) ≤ key r)
    → ((i : ℕ) → i < place → key (get_or (x ∷ ys) i 0) < key r) → IsFirstGreatest key (x ∷ y ∷ ys) r
greatest_keeps key x y ys r zero order l there greatest first = record { place = zero; inside = omega arith; there = there; greatest = greatest'; first = λ i l. absurd (omega (arith, l)) } where
  greatest' : (i : ℕ) → i < length (x ∷ y ∷ ys) → key (get_or (x ∷ y ∷ ys) i 0) ≤ key r
  greatest' zero l = greatest 0 (omega arith)
  greatest' (suc zero) l = omega (arith, greatest 0 (omega arith), order)
  greatest' (suc (suc i)) l = greatest (suc i) (omega (arith, l))
greatest_keeps key x y ys r (suc place) order inside there greatest first =
    record {
      place = suc (suc place);
      inside = omega (arith, inside);
      there = there;
      greatest =
          greatest';
      first = first';
    } where
      greatest' : (i : ℕ) → i < length (x ∷ y ∷ ys) → key (get_or (x ∷ y ∷ ys) i 0) ≤ key r
      greatest' zero l = greatest 0 (omega arith)
      greatest' (suc zero) l = omega (arith, greatest 0 (omega arith), order)
      greatest' (suc (suc i)) l = greatest (suc i) (omega (arith, l))

      first' : (i : ℕ) → i < suc (suc place) → key (get_or (x ∷ y ∷ ys) i 0) < key r
      first' zero l = first 0 (omega arith)
      first' (suc zero) l = omega (arith, first 0 (omega arith), order)
      first' (suc (suc i)) l = first (suc i) (omega (arith, l))

pub first_greatest_is : (key : ℕ → ℕ) (x : ℕ) (ys : List ℕ) → IsFirstGreatest key (x ∷ ys) (first_greatest key x ys)
first_greatest_is key x [] = record { place = 0; inside = omega arith; there = refl; greatest = only; first = λ i l. absurd (omega (arith, l)) } where
  only : (i : ℕ) → i < 1 → key (get_or (x ∷ []) i 0) ≤ key x
  only zero l = omega arith
  only (suc i) l = absurd (omega (arith, l))
first_greatest_is key x (y ∷ ys) = elim (cases_lt (key x) (key y)) [
  | inl less ↦
      let next : cond (nat_lt (key x) (key y)) y x ≡ y = cond-true (nat_lt (key x) (key y)) y x (lt-ltb (key x) (key y) less) in
      subst (λ (z : ℕ). IsFirstGreatest key (x ∷ y ∷ ys) (first_greatest key z ys)) (sym next) (greatest_skips key x y ys (first_greatest key y ys) less (first_greatest_is key y ys))
  | inr order ↦
      let next : cond (nat_lt (key x) (key y)) y x ≡ x = cond-false (nat_lt (key x) (key y)) y x (le-ltb (key x) (key y) order) in
      let h = first_greatest_is key x ys in
      subst (λ (z : ℕ). IsFirstGreatest key (x ∷ y ∷ ys) (first_greatest key z ys)) (sym next) (greatest_keeps key x y ys (first_greatest key x ys) h.place order h.inside h.there h.greatest h.first)
]

-- the first of least key is one of them
pub first_least_in : (key : ℕ → ℕ) (x : ℕ) (ys : List ℕ) → Contains (x ∷ ys) (first_least key x ys)
first_least_in key x ys =
    let h = first_least_is key x ys in
    (h.place, h.inside, get_or_default (x ∷ ys) h.place (first_least key x ys) 0 h.inside ∙ h.there)

pub first_greatest_in : (key : ℕ → ℕ) (x : ℕ) (ys : List ℕ) → Contains (x ∷ ys) (first_greatest key x ys)
first_greatest_in key x ys =
    let h = first_greatest_is key x ys in
    (h.place, h.inside, get_or_default (x ∷ ys) h.place (first_greatest key x ys) 0 h.inside ∙ h.there)

-- and has no greater key than another
pub first_least_below : (key : ℕ → ℕ) (x : ℕ) (ys : List ℕ) (z : ℕ) → Contains (x ∷ ys) z → key (first_least key x ys) ≤ key z
first_least_below key x ys z (k, l, e) =
    let h = first_least_is key x ys in
    omega (arith, h.least k l, ap key (get_or_default (x ∷ ys) k 0 z l ∙ e))
