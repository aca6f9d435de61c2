-- One step of the search: a word, then its children.
use Rattle.std.proofs.Common.{◌≡◌, ℕ, zero, suc, ◌-◌, ◌<◌, ◌≤◌, ◌||◌, nat_le, nat_eq, List, [], ◌∷◌, ◌++◌, fold, length, Contains, refl, sym, ap, ◌∙◌, subst, length-append, arith}
use Rattle.std.proofs.lemmas.Bool.{cond-false, or_from, ne_eqb, lt-leb}
use Rattle.plan_exact.specs.Words.{WordTree, IsWord}
use Rattle.plan_exact.specs.Laws.{WordsAreFinite}
use Rattle.plan_exact.specs.Explored.{Standing, after_word, explored, child_explored, children_explored}
use Rattle.plan_exact.proofs.WordLemmas.{Follow, all_follow, word_push}

-- two steps that agree lead to the same end
fold_same : {A B : Type 0} (f g : B → A → B) → ((b : B) (a : A) → f b a ≡ g b a) → (b : B) (xs : List A) → fold f b xs ≡ fold g b xs
fold_same f g same b [] = refl
fold_same f g same b (x ∷ xs) = ap (λ c. fold f c xs) (same b x) ∙ fold_same f g same (g b x) xs

-- no letter follows a word that is as long as the tree is deep
no_letters : (t : WordTree) → WordsAreFinite t → (u letters : List ℕ) → IsWord t u → t.depth ≤ length u → Follow t u letters → letters ≡ []
unfolding WordsAreFinite
no_letters t finite u [] w deep follow = refl
no_letters t finite u (a ∷ letters) w deep follow =
    let k : length (u ++ a ∷ []) ≤ t.depth = finite (u ++ a ∷ []) (word_push t u a w follow.0) in
    absurd (omega (arith, k, length-append u (a ∷ []), deep))

-- a child, by the number of letters that may still follow
child_is : (t : WordTree) (u : List ℕ) (n : ℕ) → t.depth - length u ≡ suc n → (s : Standing) (a : ℕ) → child_explored t u s a ≡ explored t n (u ++ a ∷ []) s
child_is t u n e s a = ap (λ k. explored t k (u ++ a ∷ []) s) (omega (arith, e, length-append u (a ∷ [])))

-- below an open word its children are searched
pub explored_open : (t : WordTree) → WordsAreFinite t → (u : List ℕ) → IsWord t u → (s : Standing) → 0 < s.left → t.bound u < s.found.value
    → children_explored t u (after_word t s u) (t.letters u) ≡ explored t (t.depth - length u) u s
explored_open t finite u w s l under = by_room (t.depth - length u) refl
  where
    by_room : (n : ℕ) → t.depth - length u ≡ n → children_explored t u (after_word t s u) (t.letters u) ≡ explored t n u s
    by_room zero e =
        ap (children_explored t u (after_word t s u)) (no_letters t finite u (t.letters u) w (omega (arith, e)) (all_follow t u))
    by_room (suc n) e =
        fold_same (child_explored t u) (λ p a. explored t n (u ++ a ∷ []) p) (child_is t u n e) (after_word t s u) (t.letters u)
        ∙ sym (cond-false (nat_eq s.left 0 || nat_le s.found.value (t.bound u)) (after_word t s u) (fold (λ p a. explored t n (u ++ a ∷ []) p) (after_word t s u) (t.letters u))
        (or_from (nat_eq s.left 0) (nat_le s.found.value (t.bound u)) (ne_eqb s.left 0 (λ q. omega (arith, q, l))) (lt-leb s.found.value (t.bound u) under)))

-- the word with a letter more, in a tree that is the same
pub pushed : (t t' : WordTree) (u u' : List ℕ) (a : ℕ) → t' ≡ t → u' ≡ u ++ a ∷ [] → IsWord t u → Contains (t.letters u) a → IsWord t' u'
pushed t t' u u' a same longer w l =
    subst (λ x. IsWord x u') (sym same) (subst (IsWord t) (sym longer) (word_push t u a w l))

-- the state of a search after the children of an open word that was visited
pub explored_step : (t : WordTree) → WordsAreFinite t → (u : List ℕ) → IsWord t u → (s p q : Standing) → 0 < s.left → t.bound u < s.found.value
    → p ≡ after_word t s u → q ≡ children_explored t u p (t.letters u) → q ≡ explored t (t.depth - length u) u s
explored_step t finite u w s p q l under visited searched =
    searched ∙ ap (λ v. children_explored t u v (t.letters u)) visited ∙ explored_open t finite u w s l under
