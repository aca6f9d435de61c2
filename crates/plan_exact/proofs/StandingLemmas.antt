-- The state of a search after a list of words, and its answer at the end.
use Rattle.std.proofs.Common.{◌≡◌, ℕ, zero, suc, ◌-◌, ◌<◌, ◌≤◌, ◌⊎◌, inl, inr, true, false, cond, not, ◌||◌, nat_le, nat_eq, List, [], ◌∷◌, ◌++◌, fold, length, take, refl, sym, ap, ◌∙◌, arith}
use Rattle.std.proofs.lemmas.Bool.{cases_Bool, cond-true, cond-false, or_left, or_right, or_from, eq-eqb, ne_eqb, le-leb, lt-leb, cases_lt, cases_eq}
use Rattle.std.proofs.lemmas.List.Sums.{fold-append}
use Rattle.plan_exact.specs.Words.{WordTree, words}
use Rattle.plan_exact.specs.Laws.{KeepsLaws}
use Rattle.plan_exact.specs.Visited.{Found, initial_found, better, best, visited_words}
use Rattle.plan_exact.specs.Answers.{Outcome, outcome}
use Rattle.plan_exact.specs.Explored.{Standing, stuck, after_word, explored, outcome_so_far}
use Rattle.plan_exact.proofs.VisitLemmas.{visit, visit_by, visited_is, best_visit}

-- after a list of words
abbrev pub after_words : WordTree → Standing → List (List ℕ) → Standing
after_words t s ws = fold (after_word t) s ws

-- one word more
pub after_word_stuck : (t : WordTree) (s : Standing) (w : List ℕ) → s.left ≡ 0 → after_word t s w ≡ stuck s
after_word_stuck t s w e = cond-true (nat_eq s.left 0) (stuck s) (record { left = s.left - 1; found = better t s.found w; cut = s.cut }) (eq-eqb s.left 0 e)

pub after_word_more : (t : WordTree) (s : Standing) (w : List ℕ) → 0 < s.left → after_word t s w ≡ record { left = s.left - 1; found = better t s.found w; cut = s.cut }
after_word_more t s w l = cond-false (nat_eq s.left 0) (stuck s) (record { left = s.left - 1; found = better t s.found w; cut = s.cut }) (ne_eqb s.left 0 (λ e. omega (arith, e, l)))

-- if no visit is left, further words are left out
after_words_stuck : (t : WordTree) (s : Standing) (w : List ℕ) (ws : List (List ℕ)) → s.left ≡ 0 → after_words t s (w ∷ ws) ≡ stuck s
after_words_stuck t s w [] e = after_word_stuck t s w e
after_words_stuck t s w (v ∷ ws) e =
    ap (λ p. after_words t p (v ∷ ws)) (after_word_stuck t s w e) ∙ after_words_stuck t (stuck s) v ws refl

-- either no visit is left, or each word was compared
after_words_found : (t : WordTree) (s : Standing) (ws : List (List ℕ)) → ((after_words t s ws).left ≡ 0) ⊎ ((after_words t s ws).found ≡ best t s.found ws)
after_words_found t s [] = inr refl
after_words_found t s (w ∷ ws) = by_left (cases_lt 0 s.left) (after_words_found t (after_word t s w) ws)
  where
    by_left : (0 < s.left) ⊎ (s.left ≤ 0) → ((after_words t (after_word t s w) ws).left ≡ 0)
        ⊎ ((after_words t (after_word t s w) ws).found ≡ best t (after_word t s w).found ws) →
        ((after_words t s (w ∷ ws)).left ≡ 0) ⊎ ((after_words t s (w ∷ ws)).found ≡ best t s.found (w ∷ ws))
    by_left (inl l) (inl e) = inl e
    by_left (inl l) (inr e) = inr (e ∙ ap (λ p. best t p.found ws) (after_word_more t s w l))
    by_left (inr l) e = inl (ap (λ (p : Standing). p.left) (after_words_stuck t s w ws (omega (arith, l))))

-- the search visits at least the word itself
visit_head : (t : WordTree) (n : ℕ) (u : List ℕ) (f : Found) → (rest : List (List ℕ)) × (visit t n u f ≡ u ∷ rest)
visit_head t zero u f = ([], refl)
visit_head t (suc n) u f = (cond (nat_le f.value (t.bound u)) [] (visit_by t (visit t n) u (better t f u) (t.letters u)), refl)

-- if no visit is left, the start of the search doesn't matter
visit_stuck : (t : WordTree) (n : ℕ) (u : List ℕ) (f : Found) (s : Standing) → s.left ≡ 0 → after_words t s (visit t n u f) ≡ stuck s
visit_stuck t n u f s e =
    let h : (rest : List (List ℕ)) × (visit t n u f ≡ u ∷ rest) = visit_head t n u f in
    ap (after_words t s) h.1 ∙ after_words_stuck t s u h.0 e

-- by letters: the result before them is that of the state, or no visit is left
explored_by : (t : WordTree) (n : ℕ) (u letters : List ℕ) (s : Standing) (f : Found)
    → ((a : ℕ) (p : Standing) → explored t n (u ++ a ∷ []) p ≡ after_words t p (visit t n (u ++ a ∷ []) p.found))
    → (s.left ≡ 0) ⊎ (s.found ≡ f) → fold (λ p a. explored t n (u ++ a ∷ []) p) s letters ≡ after_words t s (visit_by t (visit t n) u f letters)
explored_by t n u [] s f go h = refl
explored_by t n u (a ∷ letters) s f go h =
    let mine : List (List ℕ) = visit t n (u ++ a ∷ []) f in
    let more : List (List ℕ) = visit_by t (visit t n) u (best t f mine) letters in
    let first : explored t n (u ++ a ∷ []) s ≡ after_words t s mine = go a s ∙ from_same h in
    ap (λ p. fold (λ q b. explored t n (u ++ b ∷ []) q) p letters) first
    ∙ explored_by t n u letters (after_words t s mine) (best t f mine) go (next h (after_words_found t s mine))
    ∙ sym (fold-append (after_word t) s mine more)
  where
    child : List ℕ
    child = u ++ a ∷ []

    from_same : (s.left ≡ 0) ⊎ (s.found ≡ f) → after_words t s (visit t n child s.found) ≡ after_words t s (visit t n child f)
    from_same (inl e) = visit_stuck t n child s.found s e ∙ sym (visit_stuck t n child f s e)
    from_same (inr e) = ap (λ g. after_words t s (visit t n child g)) e

    next : (s.left ≡ 0) ⊎ (s.found ≡ f) → ((after_words t s (visit t n child f)).left ≡ 0)
        ⊎ ((after_words t s (visit t n child f)).found ≡ best t s.found (visit t n child f)) →
        ((after_words t s (visit t n child f)).left ≡ 0)
        ⊎ ((after_words t s (visit t n child f)).found ≡ best t f (visit t n child f))
    next (inl e) r = inl (ap (λ (p : Standing). p.left) (visit_stuck t n child f s e))
    next (inr e) (inl r) = inl r
    next (inr e) (inr r) = inr (r ∙ ap (λ g. best t g (visit t n child f)) e)

-- the search of the words that begin with u compares the visited words, one after another
pub explored_is : (t : WordTree) (n : ℕ) (u : List ℕ) (s : Standing) → explored t n u s ≡ after_words t s (visit t n u s.found)
explored_is t zero u s = refl
explored_is t (suc n) u s = by_left (cases_eq s.left 0) (explored_by t n u (t.letters u) (after_word t s u) (better t s.found u) (λ a p. explored_is t n (u ++ a ∷ []) p))
  where
    letters_done : Standing
    letters_done = fold (λ p a. explored t n (u ++ a ∷ []) p) (after_word t s u) (t.letters u)

    made : List (List ℕ)
    made = visit_by t (visit t n) u (better t s.found u) (t.letters u)

    by_bound : 0 < s.left → (nat_le s.found.value (t.bound u) ≡ true)
        ⊎ (nat_le s.found.value (t.bound u) ≡ false) → letters_done ≡ after_words t (after_word t s u) made →
        explored t (suc n) u s ≡ after_words t s (visit t (suc n) u s.found)
    by_bound l (inl high) e =
        cond-true (nat_eq s.left 0 || nat_le s.found.value (t.bound u)) (after_word t s u) letters_done (or_right (nat_eq s.left 0) (nat_le s.found.value (t.bound u)) high)
        ∙ sym (ap (λ ws. after_words t s (u ∷ ws)) (cond-true (nat_le s.found.value (t.bound u)) [] made high))
    by_bound l (inr under) e =
        cond-false (nat_eq s.left 0 || nat_le s.found.value (t.bound u)) (after_word t s u) letters_done
        (or_from (nat_eq s.left 0) (nat_le s.found.value (t.bound u))
        (ne_eqb s.left 0 (λ q. omega (arith, q, l))) under)
        ∙ e
        ∙ sym (ap (λ ws. after_words t s (u ∷ ws)) (cond-false (nat_le s.found.value (t.bound u)) [] made under))

    by_left : (s.left ≡ 0) ⊎ (s.left ≡ 0 → ⊥) → (((after_word t s u).left ≡ 0)
        ⊎ ((after_word t s u).found ≡ better t s.found u) →
        letters_done ≡ after_words t (after_word t s u) made) →
        explored t (suc n) u s ≡ after_words t s (visit t (suc n) u s.found)
    by_left (inl e) go =
        cond-true (nat_eq s.left 0 || nat_le s.found.value (t.bound u)) (after_word t s u) letters_done (or_left (nat_eq s.left 0) (nat_le s.found.value (t.bound u)) (eq-eqb s.left 0 e))
        ∙ after_word_stuck t s u e
        ∙ sym (visit_stuck t (suc n) u s.found s e)
    by_left (inr some) go =
        let l : 0 < s.left = omega (arith, some) in
        by_bound l (cases_Bool (nat_le s.found.value (t.bound u))) (go (inr (ap (λ (p : Standing). p.found) (after_word_more t s u l))))

-- a budget that suffices for all words
process_all : (t : WordTree) (s : Standing) (ws : List (List ℕ)) → length ws ≤ s.left → after_words t s ws ≡ record { left = s.left - length ws; found = best t s.found ws; cut = s.cut }
process_all t s [] l = ap (λ n. record { left = n; found = s.found; cut = s.cut }) (omega arith)
process_all t s (w ∷ ws) l =
    ap (λ p. after_words t p ws) (after_word_more t s w (omega (arith, l)))
    ∙ process_all t (record { left = s.left - 1; found = better t s.found w; cut = s.cut }) ws (omega (arith, l))
    ∙ ap (λ n. record { left = n; found = best t s.found (w ∷ ws); cut = s.cut }) (omega arith)

-- a budget that suffices for some of them
process_some : (t : WordTree) (s : Standing) (ws : List (List ℕ)) (n : ℕ) → s.left ≡ n → n < length ws → after_words t s ws ≡ record { left = 0; found = best t s.found (take n ws); cut = true }
process_some t s [] n e l = absurd (omega (arith, l))
process_some t s (w ∷ ws) zero e l = after_words_stuck t s w ws e
process_some t s (w ∷ ws) (suc n) e l =
    ap (λ p. after_words t p ws) (after_word_more t s w (omega (arith, e)))
    ∙ process_some t (record { left = s.left - 1; found = better t s.found w; cut = s.cut }) ws n (omega (arith, e)) (omega (arith, l))

-- how a search begins
abbrev pub start_of : ℕ → ℕ → Standing
start_of initial budget = record { left = budget; found = initial_found initial; cut = false }

-- a search of all words from the start ends at the answer
pub outcome_is : (t : WordTree) (initial budget : ℕ) → KeepsLaws t → outcome_so_far (explored t t.depth [] (start_of initial budget)) ≡ outcome t initial budget
unfolding outcome words
outcome_is t initial budget k =
    ap outcome_so_far (explored_is t t.depth [] s ∙ ap (after_words t s) (sym (visited_is t initial k))) ∙ by_budget (cases_lt budget (length (visited_words t initial)))
  where
    s : Standing
    s = start_of initial budget

    f : Found
    f = initial_found initial

    whole : Outcome
    whole = record { optimal = true; found = best t f (words t) }

    part : Outcome
    part = record { optimal = false; found = best t f (take budget (visited_words t initial)) }

    by_budget : (budget < length (visited_words t initial)) ⊎ (length (visited_words t initial) ≤ budget) →
        outcome_so_far (after_words t s (visited_words t initial)) ≡ cond
        (nat_le (length (visited_words t initial)) budget) whole part
    by_budget (inl few) =
        ap outcome_so_far (process_some t s (visited_words t initial) budget refl few)
        ∙ sym (cond-false (nat_le (length (visited_words t initial)) budget) whole part (lt-leb (length (visited_words t initial)) budget few))
    by_budget (inr enough) =
        ap outcome_so_far (process_all t s (visited_words t initial) enough)
        ∙ ap (λ g. record { optimal = true; found = g }) (ap (best t f) (visited_is t initial k) ∙ best_visit t k.bounded t.depth [] f tt)
        ∙ sym (cond-true (nat_le (length (visited_words t initial)) budget) whole part (le-leb (length (visited_words t initial)) budget enough))

-- how the search begins: a budget of 0 leaves the empty word out
abbrev pub begun : ℕ → ℕ → Standing
begun initial budget = record { left = budget; found = initial_found initial; cut = nat_eq budget 0 }

-- with no budget nothing is searched
pub outcome_none : (t : WordTree) (initial budget : ℕ) → KeepsLaws t → budget ≡ 0 → outcome_so_far (begun initial budget) ≡ outcome t initial budget
outcome_none t initial budget k none =
    ap (λ b. record { optimal = not b; found = initial_found initial }) (eq-eqb budget 0 none)
    ∙ sym (ap outcome_so_far (explored_is t t.depth [] (start_of initial budget) ∙ visit_stuck t t.depth [] (initial_found initial) (start_of initial budget) none))
    ∙ outcome_is t initial budget k

-- otherwise the words from the empty one on are
pub outcome_some : (t : WordTree) (initial budget : ℕ) → KeepsLaws t → (budget ≡ 0 → ⊥) → (u : List ℕ) → u ≡ [] → (s : Standing)
    → s ≡ explored t (t.depth - length u) u (begun initial budget) → outcome_so_far s ≡ outcome t initial budget
outcome_some t initial budget k some u empty s e =
    ap outcome_so_far (e ∙ ap (λ v. explored t (t.depth - length v) v (begun initial budget)) empty
    ∙ ap (λ n. explored t n [] (begun initial budget)) (omega arith)
    ∙ ap (λ b. explored t t.depth [] (record { left = budget; found = initial_found initial; cut = b })) (ne_eqb budget 0 some))
    ∙ outcome_is t initial budget k
