-- Sorted lists: rows of different keys have one order, in whatever order they were written.
use Rattle.std.proofs.Common.{◌≡◌, ◌+◌, ◌⊎◌, inl, inr, Bool, true, false, List, [], ◌∷◌, ◌++◌, length, refl, sym, ap, ◌∙◌, subst, arith}
use Rattle.std.specs.List.{AllByRecursion}
use Rattle.std.proofs.lemmas.Bool.{cases_Bool, both_ways}
use Rattle.plan_rows.specs.Plans.{put_in_order, in_order}
use Rattle.plan_rows.specs.Rules.{AllDiffer}
use Rattle.plan_desk.proofs.SameLemmas.{Has, AreSame, all_has}

-- a strict order of rows with different keys: total, asymmetric and transitive; a row is like
-- itself
pub record Orders {A : Type 0} (alike before : A → A → Bool) : Type 0 where
  pub itself : (x : A) → alike x x ≡ true
  pub either : (x y : A) → alike x y ≡ false → (before x y ≡ true) ⊎ (before y x ≡ true)
  pub once : (x y : A) → before x y ≡ true → before y x ≡ false
  pub chain : (x y z : A) → before x y ≡ true → before y z ≡ true → before x z ≡ true

module _ {A : Type 0} {alike before : A → A → Bool} (orders : Orders alike before) where
  -- two rows can be put in order either way round
  put_swap : (x y : A) (l : List A) → before x y ≡ true → put_in_order before x (put_in_order before y l) ≡ put_in_order before y (put_in_order before x l)
  put_swap x y [] e = grind (arith, e, orders.once x y e)
  put_swap x y (z ∷ l) e =
      grind (arith, e, orders.once x y e, cases_Bool (before z x), cases_Bool (before z y), orders.chain z x y, put_swap x y l e)

  put_apart : (x y : A) (l : List A) → alike x y ≡ false → put_in_order before x (put_in_order before y l) ≡ put_in_order before y (put_in_order before x l)
  put_apart x y l apart = by_order (orders.either x y apart)
    where
      by_order : (before x y ≡ true) ⊎ (before y x ≡ true) → put_in_order before x (put_in_order before y l) ≡ put_in_order before y (put_in_order before x l)
      by_order (inl e) = put_swap x y l e
      by_order (inr e) = sym (put_swap y x l e)

  -- a row in the middle is put in its place
  sort_middle : (front : List A) (x : A) (back : List A) → AllByRecursion (λ y. alike y x ≡ false) front
      → in_order before (front ++ x ∷ back) ≡ put_in_order before x (in_order before (front ++ back))
  sort_middle [] x back apart = refl
  sort_middle (y ∷ front) x back apart =
      ap (put_in_order before y) (sort_middle front x back apart.1) ∙ put_apart y x (in_order before (front ++ back)) apart.0

  -- the rows before and after a row
  record IsSplit (ys : List A) (x : A) : Type 0 where
    front : List A
    back : List A
    is : ys ≡ front ++ x ∷ back

  split_at : (ys : List A) (x : A) → Has ys x → IsSplit ys x
  split_at [] x h = absurd h
  split_at (y ∷ ys) x (inl e) = record { front = []; back = ys; is = ap (λ z. z ∷ ys) e }
  split_at (y ∷ ys) x (inr h) = let rest = split_at ys x h in record { front = y ∷ rest.front; back = rest.back; is = ap (λ l. y ∷ l) rest.is }

  behind_all : (P : A → Type 0) (front back : List A) (x : A) → AllByRecursion P (front ++ x ∷ back) → P x × AllByRecursion P (front ++ back)
  behind_all P [] back x all = (all.0, all.1)
  behind_all P (y ∷ front) back x all = let rest = behind_all P front back x all.1 in (rest.0, (all.0, rest.1))

  -- without a row the others still differ, and it differs from them
  pub record IsApart (front back : List A) (x : A) : Type 0 where
    pub before_it : AllByRecursion (λ y. alike y x ≡ false) front
    pub behind_it : AllByRecursion (λ y. alike x y ≡ false) back
    pub others : AllDiffer alike (front ++ back)

  apart_at : (front : List A) (x : A) (back : List A) → AllDiffer alike (front ++ x ∷ back) → IsApart front back x
  apart_at [] x back apart = record { before_it = tt; behind_it = apart.0; others = apart.1 }
  apart_at (y ∷ front) x back apart =
      let rest = apart_at front x back apart.1 in
      let first = behind_all (λ z. alike y z ≡ false) front back x apart.0 in
      record { before_it = (first.0, rest.before_it); behind_it = rest.behind_it; others = (first.1, rest.others) }

  has_but : (front back : List A) (x z : A) → Has (front ++ x ∷ back) z → (x ≡ z) ⊎ Has (front ++ back) z
  has_but [] back x z h = h
  has_but (y ∷ front) back x z (inl e) = inr (inl e)
  has_but (y ∷ front) back x z (inr h) = later (has_but front back x z h)
    where
      later : (x ≡ z) ⊎ Has (front ++ back) z → (x ≡ z) ⊎ Has (y ∷ (front ++ back)) z
      later (inl e) = inl e
      later (inr rest) = inr (inr rest)

  but_has : (front back : List A) (x z : A) → Has (front ++ back) z → Has (front ++ x ∷ back) z
  but_has [] back x z h = inr h
  but_has (y ∷ front) back x z (inl e) = inl e
  but_has (y ∷ front) back x z (inr h) = inr (but_has front back x z h)

  -- none of the others is the row itself
  others_differ : (front back : List A) (x z : A) → IsApart front back x → Has (front ++ back) z → x ≡ z → ⊥
  others_differ [] back x z apart h e =
      both_ways (alike x x) (subst (λ y. alike x y ≡ false) (sym e) (all_has (λ y. alike x y ≡ false) back z apart.behind_it h)) (orders.itself x)
  others_differ (y ∷ front) back x z apart (inl is) e =
      both_ways (alike x x) (subst (λ t. alike t x ≡ false) (is ∙ sym e) apart.before_it.0) (orders.itself x)
  others_differ (y ∷ front) back x z apart (inr h) e =
      others_differ front back x z (record { before_it = apart.before_it.1; behind_it = apart.behind_it; others = apart.others.1 }) h e

  same_rest : (xs front back : List A) (x : A) → AllDiffer alike (x ∷ xs) → IsApart front back x → AreSame (x ∷ xs) (front ++ x ∷ back) → AreSame xs (front ++ back)
  same_rest xs front back x differ apart same = record {
    there = λ z h. to_there z h (has_but front back x z (same.there z (inr h)));
    back = λ z h. to_back z h (same.back z (but_has front back x z h));
  }
    where
      to_there : (z : A) → Has xs z → (x ≡ z) ⊎ Has (front ++ back) z → Has (front ++ back) z
      to_there z h (inl e) =
          absurd (both_ways (alike x x) (subst (λ y. alike x y ≡ false) (sym e) (all_has (λ y. alike x y ≡ false) xs z differ.0 h)) (orders.itself x))
      to_there z h (inr rest) = rest

      to_back : (z : A) → Has (front ++ back) z → (x ≡ z) ⊎ Has xs z → Has xs z
      to_back z h (inl e) = absurd (others_differ front back x z apart h e)
      to_back z h (inr rest) = rest

  -- lists of the same rows, each once, are sorted alike
  pub in_order_same : (xs ys : List A) → AreSame xs ys → AllDiffer alike xs → AllDiffer alike ys → in_order before xs ≡ in_order before ys
  in_order_same [] [] same apart also = refl
  in_order_same [] (y ∷ ys) same apart also = absurd (same.back y (inl refl))
  in_order_same (x ∷ xs) ys same apart also = at_split (split_at ys x (same.there x (inl refl))) (λ front back. in_order_same xs (front ++ back))
    where
      at_split : IsSplit ys x → ((front back : List A) → AreSame xs (front ++ back) → AllDiffer alike xs → AllDiffer alike (front ++ back)
          → in_order before xs ≡ in_order before (front ++ back))
          → put_in_order before x (in_order before xs) ≡ in_order before ys
      at_split s rest =
          let here : AreSame (x ∷ xs) (s.front ++ x ∷ s.back) = subst (AreSame (x ∷ xs)) s.is same in
          let differ : IsApart s.front s.back x = apart_at s.front x s.back (subst (AllDiffer alike) s.is also) in
          ap (put_in_order before x) (rest s.front s.back (same_rest xs s.front s.back x apart differ here) apart.1 differ.others)
          ∙ sym (sort_middle s.front x s.back differ.before_it)
          ∙ ap (in_order before) (sym s.is)

  length-put : (x : A) (l : List A) → length (put_in_order before x l) ≡ length l + 1
  length-put x [] = refl
  length-put x (y ∷ l) = grind (arith, cases_Bool (before y x), length-put x l)

  length-in_order : (xs : List A) → length (in_order before xs) ≡ length xs
  length-in_order [] = refl
  length-in_order (x ∷ xs) = let more = length-put x (in_order before xs) in let rest = length-in_order xs in omega (arith, more, rest)

  -- lists of the same rows, each once, are equally long
  pub length_same : (xs ys : List A) → AreSame xs ys → AllDiffer alike xs → AllDiffer alike ys → length xs ≡ length ys
  length_same xs ys same apart also = sym (length-in_order xs) ∙ ap length (in_order_same xs ys same apart also) ∙ length-in_order ys
