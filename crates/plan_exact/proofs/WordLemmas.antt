-- Words, those that begin with a word, and the list of all.
use Rattle.std.proofs.Common.{◌≡◌, ℕ, zero, suc, ◌<◌, ◌≤◌, ◌⊎◌, inl, inr, true, List, [], ◌∷◌, ◌++◌, length, flat_map, Contains, sym, ap, ◌∙◌, subst, append_assoc, append-nil, ap₂, nat_eq, ◌||◌, ◌&&◌, arith}
use Rattle.std.specs.List.{AllByRecursion}
use Rattle.std.proofs.lemmas.List.Elements.{recursion_from_All, All-from_recursion, All-contains_itself}
use Rattle.std.proofs.lemmas.Bool.{lt-ltb}
use Rattle.plan_exact.specs.Words.{WordTree, Continues, IsWord, words_from, words, is_before}
use Rattle.plan_exact.specs.Laws.{LettersRise, WordsAreFinite, ListsWords, KeepsLaws}
use Rattle.plan_exact.proofs.OrderLemmas.{InOrder, in_order_from, by_places, is_before-append, Ordered, Ordered-append, each_append, each_weaker}

-- letters that follow one another
pub continues_append : (t : WordTree) (p u v : List ℕ) → Continues t p u → Continues t (p ++ u) v → Continues t p (u ++ v)
continues_append t p [] v c d = subst (λ (q : List ℕ). Continues t q v) (append-nil p) d
continues_append t p (a ∷ u) v c d =
    (c.0, continues_append t (p ++ a ∷ []) u v c.1 (subst (λ (q : List ℕ). Continues t q v) (sym (append_assoc p (a ∷ []) u)) d))

-- a word with a letter that may follow is a word
pub word_push : (t : WordTree) (u : List ℕ) (a : ℕ) → IsWord t u → Contains (t.letters u) a → IsWord t (u ++ a ∷ [])
word_push t u a w l = continues_append t [] u (a ∷ []) w (l, tt)

-- a word that begins with u
pub record IsBelow (t : WordTree) (u w : List ℕ) : Type 0 where
  pub rest : List ℕ
  pub is : w ≡ u ++ rest
  pub word : IsWord t w

-- a word that begins with u and a letter begins with u
pub below_child : (t : WordTree) (u : List ℕ) (a : ℕ) (w : List ℕ) → IsBelow t (u ++ a ∷ []) w → IsBelow t u w
below_child t u a w b = record { rest = a ∷ b.rest; is = b.is ∙ append_assoc u (a ∷ []) b.rest; word = b.word }

-- the words from u on by letters of a list
abbrev pub words_by : WordTree → ℕ → List ℕ → List ℕ → List (List ℕ)
words_by t n u letters = flat_map (λ a. words_from t n (u ++ a ∷ [])) letters

-- each letter of the list may follow u
abbrev pub Follow : WordTree → List ℕ → List ℕ → Type 0
Follow t u letters = AllByRecursion (Contains (t.letters u)) letters

pub all_follow : (t : WordTree) (u : List ℕ) → Follow t u (t.letters u)
all_follow t u = recursion_from_All (Contains (t.letters u)) (t.letters u) (All-contains_itself (t.letters u))

-- a fact of the words below each letter is one of all words by letters
pub each_by : (P : List ℕ → Type 0) (t : WordTree) (n : ℕ) (u letters : List ℕ) → Follow t u letters
    → ((a : ℕ) → Contains (t.letters u) a → AllByRecursion P (words_from t n (u ++ a ∷ []))) → AllByRecursion P (words_by t n u letters)
each_by P t n u [] f go = tt
each_by P t n u (a ∷ letters) f go =
    each_append P (words_from t n (u ++ a ∷ [])) (words_by t n u letters) (go a f.0) (each_by P t n u letters f.1 go)

-- the list contains only words that begin with u
pub members : (t : WordTree) (n : ℕ) (u : List ℕ) → IsWord t u → AllByRecursion (IsBelow t u) (words_from t n u)
members t zero u w = (record { rest = []; is = sym (append-nil u); word = w }, tt)
members t (suc n) u w = (
  record { rest = []; is = sym (append-nil u); word = w },
  each_by (IsBelow t u) t n u (t.letters u) (all_follow t u)
      (λ a l. each_weaker (IsBelow t (u ++ a ∷ [])) (IsBelow t u) (below_child t u a) (words_from t n (u ++ a ∷ [])) (members t n (u ++ a ∷ []) (word_push t u a w l))),
)

-- a word that begins with u and a letter more
pub record IsProperlyBelow (t : WordTree) (u w : List ℕ) : Type 0 where
  pub letter : ℕ
  pub rest : List ℕ
  pub is : w ≡ u ++ letter ∷ rest
  pub word : IsWord t w

pub proper_members : (t : WordTree) (n : ℕ) (u letters : List ℕ) → IsWord t u → Follow t u letters → AllByRecursion (IsProperlyBelow t u) (words_by t n u letters)
proper_members t n u letters w f =
    each_by (IsProperlyBelow t u) t n u letters f
    (λ a l. each_weaker (IsBelow t (u ++ a ∷ [])) (IsProperlyBelow t u)
    (λ x b. record { letter = a; rest = b.rest; is = b.is ∙ append_assoc u (a ∷ []) b.rest; word = b.word })
    (words_from t n (u ++ a ∷ [])) (members t n (u ++ a ∷ []) (word_push t u a w l)))

-- each letter is below those after it
abbrev pub Rising : List ℕ → Type 0
Rising letters = InOrder (λ a b. a < b) letters

-- a word that begins with u and a letter above a
record IsBeyond (u : List ℕ) (a : ℕ) (w : List ℕ) : Type 0 where
  pub letter : ℕ
  pub rest : List ℕ
  pub is : w ≡ u ++ letter ∷ rest
  pub above : a < letter

beyond : (t : WordTree) (n : ℕ) (u : List ℕ) (a : ℕ) (letters : List ℕ) → IsWord t u → Follow t u letters → AllByRecursion (λ b. a < b) letters → AllByRecursion (IsBeyond u a) (words_by t n u letters)
beyond t n u a [] w f above = tt
beyond t n u a (b ∷ letters) w f above =
    each_append (IsBeyond u a) (words_from t n (u ++ b ∷ [])) (words_by t n u letters)
    (each_weaker (IsBelow t (u ++ b ∷ [])) (IsBeyond u a)
    (λ x l. record { letter = b; rest = l.rest; is = l.is ∙ append_assoc u (b ∷ []) l.rest; above = above.0 })
    (words_from t n (u ++ b ∷ [])) (members t n (u ++ b ∷ []) (word_push t u b w f.0)))
    (beyond t n u a letters w f.1 above.1)

-- words by a letter come before words by a greater one
crosses : (t : WordTree) (u : List ℕ) (a : ℕ) (x y : List ℕ) → IsBelow t (u ++ a ∷ []) x → IsBeyond u a y → is_before x y ≡ true
crosses t u a x y b c =
    ap (λ z. is_before z y) (b.is ∙ append_assoc u (a ∷ []) b.rest)
    ∙ ap (λ z. is_before (u ++ a ∷ b.rest) z) c.is
    ∙ is_before-append u (a ∷ b.rest) (c.letter ∷ c.rest)
    ∙ first_below a c.letter b.rest c.rest c.above
  where
    first_below : (i j : ℕ) (v w : List ℕ) → i < j → is_before (i ∷ v) (j ∷ w) ≡ true
    first_below i j v w l = ap (λ q. q || (nat_eq i j && is_before v w)) (lt-ltb i j l)

-- the words by rising letters are in order if those by each letter are
in_order_by : (t : WordTree) (n : ℕ) (u letters : List ℕ) → IsWord t u → Follow t u letters → Rising letters
    → ((a : ℕ) → Contains (t.letters u) a → Ordered (words_from t n (u ++ a ∷ []))) → Ordered (words_by t n u letters)
in_order_by t n u [] w f r go = tt
in_order_by t n u (a ∷ letters) w f r go =
    let beyonds : AllByRecursion (IsBeyond u a) (words_by t n u letters) = beyond t n u a letters w f.1 r.0 in
    Ordered-append (words_from t n (u ++ a ∷ [])) (words_by t n u letters) (go a f.0) (in_order_by t n u letters w f.1 r.1 go)
    (each_weaker (IsBelow t (u ++ a ∷ [])) (λ x. AllByRecursion (λ y. is_before x y ≡ true) (words_by t n u letters))
    (λ x b. each_weaker (IsBeyond u a) (λ y. is_before x y ≡ true) (λ y c. crosses t u a x y b c) (words_by t n u letters) beyonds)
    (words_from t n (u ++ a ∷ [])) (members t n (u ++ a ∷ []) (word_push t u a w f.0)))

-- the words that begin with u are listed in order
pub in_order : (t : WordTree) → LettersRise t → (n : ℕ) (u : List ℕ) → IsWord t u → Ordered (words_from t n u)
unfolding LettersRise
in_order t rise zero u w = (tt, tt)
in_order t rise (suc n) u w = (
  each_weaker (IsProperlyBelow t u) (λ x. is_before u x ≡ true) (λ x b. prefix_first x b) (words_by t n u (t.letters u)) (proper_members t n u (t.letters u) w (all_follow t u)),
  in_order_by t n u (t.letters u) w (all_follow t u) (in_order_from (λ a b. a < b) (t.letters u) (rise u w)) (λ a l. in_order t rise n (u ++ a ∷ []) (word_push t u a w l)),
)
  where
    prefix_first : (x : List ℕ) → IsProperlyBelow t u x → is_before u x ≡ true
    prefix_first x b =
        ap₂ is_before (sym (append-nil u)) b.is ∙ is_before-append u [] (b.letter ∷ b.rest)

-- an element of a list, by recursion on the list
Among : {X : Type 0} → List X → X → Type 0
Among [] x = ⊥
Among (y ∷ ys) x = (y ≡ x) ⊎ Among ys x

from_among : {X : Type 0} (xs : List X) (x : X) → Among xs x → Contains xs x
unfolding Among
from_among [] x m = absurd m
from_among (y ∷ xs) x (inl e) = (0, omega arith, e)
from_among (y ∷ xs) x (inr m) = let c : Contains xs x = from_among xs x m in (suc c.0, omega (arith, c.1), c.2)

to_among : {X : Type 0} (xs : List X) (x : X) → Contains xs x → Among xs x
unfolding Among
to_among [] x (k, l, e) = absurd (omega (arith, l))
to_among (y ∷ xs) x (zero, l, e) = inl e
to_among (y ∷ xs) x (suc k, l, e) = inr (to_among xs x (k, omega (arith, l), e))

among_left : {X : Type 0} (xs ys : List X) (x : X) → Among xs x → Among (xs ++ ys) x
unfolding Among
among_left [] ys x m = absurd m
among_left (y ∷ xs) ys x (inl e) = inl e
among_left (y ∷ xs) ys x (inr m) = inr (among_left xs ys x m)

among_right : {X : Type 0} (xs ys : List X) (x : X) → Among ys x → Among (xs ++ ys) x
unfolding Among
among_right [] ys x m = m
among_right (y ∷ xs) ys x m = inr (among_right xs ys x m)

among_flat_map : {X Y : Type 0} (f : X → List Y) (xs : List X) (x : X) (y : Y) → Among xs x → Among (f x) y → Among (flat_map f xs) y
unfolding Among
among_flat_map f [] x y m n = absurd m
among_flat_map {Y = Y} f (z ∷ xs) x y (inl e) n = among_left (f z) (flat_map f xs) y (subst (λ v. Among (f v) y) (sym e) n)
among_flat_map f (z ∷ xs) x y (inr m) n = among_right (f z) (flat_map f xs) y (among_flat_map f xs x y m n)

-- each list of at most n letters that continues u is listed
listed : (t : WordTree) (n : ℕ) (u v : List ℕ) → Continues t u v → length v ≤ n → Among (words_from t n u) (u ++ v)
unfolding Among
listed t zero u [] c l = inl (sym (append-nil u))
listed t zero u (a ∷ v) c l = absurd (omega (arith, l))
listed t (suc n) u [] c l = inl (sym (append-nil u))
listed t (suc n) u (a ∷ v) c l =
    let below : Among (words_from t n (u ++ a ∷ [])) ((u ++ a ∷ []) ++ v) = listed t n (u ++ a ∷ []) v c.1 (omega (arith, l)) in
    inr (among_flat_map (λ b. words_from t n (u ++ b ∷ [])) (t.letters u) a (u ++ a ∷ v) (to_among (t.letters u) a c.0)
    (subst (λ w. Among (words_from t n (u ++ a ∷ [])) w) (append_assoc u (a ∷ []) v) below))

-- `words` contains exactly the words, in order
pub words_listed : (t : WordTree) → KeepsLaws t → ListsWords t (words t)
unfolding words WordsAreFinite
words_listed t k = record {
  each = λ w h. from_among (words_from t t.depth []) w (listed t t.depth [] w h (k.finite w h));
  alone = All-from_recursion (IsWord t) (words_from t t.depth []) (each_weaker (IsBelow t []) (IsWord t) (λ w b. b.word) (words_from t t.depth []) (members t t.depth [] tt));
  rising = by_places (λ u w. is_before u w ≡ true) (words_from t t.depth []) (in_order t k.rise t.depth [] tt);
}
