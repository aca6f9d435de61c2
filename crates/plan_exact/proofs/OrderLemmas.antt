-- Lists of words in lexicographic order, element by element.
use Rattle.std.proofs.Common.{◌≡◌, ℕ, zero, suc, ◌<◌, Bool, true, false, ◌&&◌, ◌||◌, nat_lt, nat_eq, List, [], ◌∷◌, ◌++◌, filter, refl, ap, ◌∙◌, inl, inr, ◌⊎◌, arith}
use Rattle.std.specs.List.{AllByRecursion, AllPairs}
use Rattle.std.proofs.lemmas.List.Elements.{recursion_from_All, All-from_recursion}
use Rattle.std.proofs.lemmas.Bool.{le-ltb, eq-eqb, ne_eqb, ltb-true, eqb-true, cond-true, cond-false, or_cases, and_parts}
use Rattle.plan_exact.specs.Words.{is_before}

-- a number is not below itself, and equals itself
irreflexive : (a : ℕ) → nat_lt a a ≡ false
irreflexive a = le-ltb a a (omega arith)

itself : (a : ℕ) → nat_eq a a ≡ true
itself a = eq-eqb a a refl

-- a common prefix doesn't affect the order of two words
pub is_before-append : (u v w : List ℕ) → is_before (u ++ v) (u ++ w) ≡ is_before v w
is_before-append [] v w = refl
is_before-append (a ∷ u) v w =
    ap (λ b. b || (nat_eq a a && is_before (u ++ v) (u ++ w))) (irreflexive a)
    ∙ ap (λ b. b && is_before (u ++ v) (u ++ w)) (itself a)
    ∙ is_before-append u v w

-- no word comes before itself
pub not_before_itself : (u : List ℕ) → is_before u u ≡ false
not_before_itself [] = refl
not_before_itself (a ∷ u) =
    ap (λ b. b || (nat_eq a a && is_before u u)) (irreflexive a)
    ∙ ap (λ b. b && is_before u u) (itself a)
    ∙ not_before_itself u

and_false : (b : Bool) → (b && false) ≡ false
and_false true = refl
and_false false = refl

-- at most one of two words comes before the other: by their first letters, or by the rest
one_way_by : (a b : ℕ) (u w : List ℕ) → (is_before u w ≡ true → is_before w u ≡ false) → (nat_lt a b ≡ true) ⊎ ((nat_eq a b && is_before u w) ≡ true) → is_before (b ∷ w) (a ∷ u) ≡ false
one_way_by a b u w go (inl less) =
    let l : a < b = ltb-true a b less in
    ap (λ v. v || (nat_eq b a && is_before w u)) (le-ltb b a (omega arith))
    ∙ ap (λ v. v && is_before w u) (ne_eqb b a (λ q. omega (arith, q, l)))
one_way_by a b u w go (inr rest) =
    let p : (nat_eq a b ≡ true) × (is_before u w ≡ true) = and_parts (nat_eq a b) (is_before u w) rest in
    let q : a ≡ b = eqb-true a b p.0 in
    ap (λ v. v || (nat_eq b a && is_before w u)) (le-ltb b a (omega arith))
    ∙ ap (λ v. nat_eq b a && v) (go p.1)
    ∙ and_false (nat_eq b a)

pub one_way : (u w : List ℕ) → is_before u w ≡ true → is_before w u ≡ false
one_way [] [] e = refl
one_way [] (b ∷ w) e = refl
one_way (a ∷ u) [] e = cc
one_way (a ∷ u) (b ∷ w) e = one_way_by a b u w (one_way u w) (or_cases (nat_lt a b) (nat_eq a b && is_before u w) e)

-- each element is in relation R to those after it
abbrev pub InOrder : {X : Type 0} → (X → X → Type 0) → List X → Type 0
InOrder R [] = Unit {0}
InOrder R (x ∷ xs) = AllByRecursion (R x) xs × InOrder R xs

-- from an order by places, and to one
pub in_order_from : {X : Type 0} (R : X → X → Type 0) (xs : List X) → AllPairs R xs → InOrder R xs
in_order_from R [] p = tt
in_order_from R (x ∷ xs) p = (
  recursion_from_All (R x) xs (λ k d l. p 0 (suc k) d (omega arith) (omega (arith, l))),
  in_order_from R xs (λ i j d l m. p (suc i) (suc j) d (omega (arith, l)) (omega (arith, m))),
)

pub by_places : {X : Type 0} (R : X → X → Type 0) (xs : List X) → InOrder R xs → AllPairs R xs
by_places R [] o i j d l m = absurd (omega (arith, m))
by_places R (x ∷ xs) o i zero d l m = absurd (omega (arith, l))
by_places R (x ∷ xs) o zero (suc j) d l m = All-from_recursion (R x) xs o.0 j d (omega (arith, m))
by_places R (x ∷ xs) o (suc i) (suc j) d l m = by_places R xs o.1 i j d (omega (arith, l)) (omega (arith, m))

-- each word comes before those after it
abbrev pub Ordered : List (List ℕ) → Type 0
Ordered ws = InOrder (λ u w. is_before u w ≡ true) ws

-- a fact of each element of two lists is one of each element of both together
pub each_append : {X : Type 0} (P : X → Type 0) (xs ys : List X) → AllByRecursion P xs → AllByRecursion P ys → AllByRecursion P (xs ++ ys)
each_append P [] ys p q = q
each_append P (x ∷ xs) ys p q = (p.0, each_append P xs ys p.1 q)

pub each_left : {X : Type 0} (P : X → Type 0) (xs ys : List X) → AllByRecursion P (xs ++ ys) → AllByRecursion P xs
each_left P [] ys p = tt
each_left P (x ∷ xs) ys p = (p.0, each_left P xs ys p.1)

pub each_right : {X : Type 0} (P : X → Type 0) (xs ys : List X) → AllByRecursion P (xs ++ ys) → AllByRecursion P ys
each_right P [] ys p = p
each_right P (x ∷ xs) ys p = each_right P xs ys p.1

-- a weaker fact holds too
pub each_weaker : {X : Type 0} (P Q : X → Type 0) → ((x : X) → P x → Q x) → (xs : List X) → AllByRecursion P xs → AllByRecursion Q xs
each_weaker P Q f [] p = tt
each_weaker P Q f (x ∷ xs) p = (f x p.0, each_weaker P Q f xs p.1)

-- two lists in order, the words of the one before those of the other
pub Ordered-append : (xs ys : List (List ℕ)) → Ordered xs → Ordered ys → AllByRecursion (λ x. AllByRecursion (λ y. is_before x y ≡ true) ys) xs → Ordered (xs ++ ys)
Ordered-append [] ys o p across = p
Ordered-append (x ∷ xs) ys o p across =
    (each_append (λ y. is_before x y ≡ true) xs ys o.0 across.0, Ordered-append xs ys o.1 p across.1)

-- if no element passes, none is kept; if each does, all are
pub filter_none : {X : Type 0} (p : X → Bool) (xs : List X) → AllByRecursion (λ x. p x ≡ false) xs → filter p xs ≡ []
filter_none p [] f = refl
filter_none p (x ∷ xs) f = cond-false (p x) (x ∷ filter p xs) (filter p xs) f.0 ∙ filter_none p xs f.1

pub filter_all : {X : Type 0} (p : X → Bool) (xs : List X) → AllByRecursion (λ x. p x ≡ true) xs → filter p xs ≡ xs
filter_all p [] f = refl
filter_all p (x ∷ xs) f = cond-true (p x) (x ∷ filter p xs) (filter p xs) f.0 ∙ ap (λ ys. x ∷ ys) (filter_all p xs f.1)

-- in an ordered list the words before a word are the earlier entries
pub earlier : (pre : List (List ℕ)) (u : List ℕ) (post : List (List ℕ)) → Ordered (pre ++ u ∷ post) → filter (λ w. is_before w u) (pre ++ u ∷ post) ≡ pre
earlier [] u post o =
    cond-false (is_before u u) (u ∷ filter (λ w. is_before w u) post) (filter (λ w. is_before w u) post) (not_before_itself u)
    ∙ filter_none (λ w. is_before w u) post (each_weaker (λ w. is_before u w ≡ true) (λ w. is_before w u ≡ false) (λ w. one_way u w) post o.0)
earlier (w ∷ pre) u post o =
    let first : is_before w u ≡ true = (each_right (λ x. is_before w x ≡ true) pre (u ∷ post) o.0).0 in
    cond-true (is_before w u) (w ∷ filter (λ x. is_before x u) (pre ++ u ∷ post)) (filter (λ x. is_before x u) (pre ++ u ∷ post)) first
    ∙ ap (λ ys. w ∷ ys) (earlier pre u post o.1)
