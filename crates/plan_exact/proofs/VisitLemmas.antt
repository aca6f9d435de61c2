-- The words that a search visits, as a list defined by the search, and the visited words by their
-- definition.
use Rattle.std.proofs.Common.{◌≡◌, ℕ, zero, suc, ◌<◌, ◌≤◌, ◌⊎◌, inl, inr, true, false, cond, ◌&&◌, nat_lt, nat_le, List, [], ◌∷◌, ◌++◌, map, filter, Contains, Some, refl, sym, ap, ◌∙◌, subst, append_assoc, append-nil, arith}
use Rattle.std.proofs.lemmas.List.{map-append}
use Rattle.std.proofs.lemmas.List.Folds.{list_all-append}
use Rattle.std.specs.List.{AllByRecursion, list_all}
use Rattle.std.proofs.lemmas.Bool.{cases_Bool, cond-true, cond-false, and_right, and_left, and_from, le-ltb, lt-ltb, leb-true, leb-false}
use Rattle.std.proofs.lemmas.List.Sums.{fold-append}
use Rattle.std.proofs.lemmas.List.Elements.{filter-append}
use Rattle.plan_exact.specs.Words.{WordTree, IsWord, words_from, words, is_before}
use Rattle.plan_exact.specs.Laws.{LettersRise, BoundHolds, KeepsLaws}
use Rattle.plan_exact.specs.Visited.{Found, initial_found, better, best, least, is_open, proper_prefixes, is_visited, visited_words}
use Rattle.plan_exact.proofs.OrderLemmas.{Ordered, earlier, filter_none, each_weaker}
use Rattle.plan_exact.proofs.WordLemmas.{IsBelow, IsProperlyBelow, Follow, all_follow, members, proper_members, words_by, word_push, in_order}

-- the words visited by the letters of a list, from the result before them
abbrev pub visit_by : WordTree → (List ℕ → Found → List (List ℕ)) → List ℕ → Found → List ℕ → List (List ℕ)
visit_by t go u f [] = []
visit_by t go u f (a ∷ letters) = go (u ++ a ∷ []) f ++ visit_by t go u (best t f (go (u ++ a ∷ []) f)) letters

-- the visited words that begin with u and have at most n more letters, from the result before u
abbrev pub visit : WordTree → ℕ → List ℕ → Found → List (List ℕ)
visit t zero u f = u ∷ []
visit t (suc n) u f = u ∷ cond (nat_le f.value (t.bound u)) [] (visit_by t (visit t n) u (better t f u) (t.letters u))

-- a word of no smaller makespan changes nothing
better_stays : (t : WordTree) (f : Found) (w : List ℕ) → (t.full w ≡ true → f.value ≤ t.makespan w) → better t f w ≡ f
better_stays t f w high = by_full (cases_Bool (t.full w))
  where
    by_full : (t.full w ≡ true) ⊎ (t.full w ≡ false) → better t f w ≡ f
    by_full (inl full) =
        cond-false (t.full w && nat_lt (t.makespan w) f.value) (record { value = t.makespan w; word = Some w }) f
        (and_right (t.full w) (nat_lt (t.makespan w) f.value) (le-ltb (t.makespan w) f.value (high full)))
    by_full (inr part) =
        cond-false (t.full w && nat_lt (t.makespan w) f.value) (record { value = t.makespan w; word = Some w }) f
        (and_left (t.full w) (nat_lt (t.makespan w) f.value) part)

-- below a word whose bound is at least the best makespan there is nothing better
best_pruned : (t : WordTree) → BoundHolds t → (u : List ℕ) (f : Found) → f.value ≤ t.bound u → (ws : List (List ℕ)) → AllByRecursion (IsBelow t u) ws → best t f ws ≡ f
unfolding BoundHolds
best_pruned t bounded u f high [] below = refl
best_pruned t bounded u f high (w ∷ ws) below =
    ap (λ g. best t g ws) (better_stays t f w (λ full. above full)) ∙ best_pruned t bounded u f high ws below.1
  where
    above : t.full w ≡ true → f.value ≤ t.makespan w
    above full =
        let b : IsBelow t u w = below.0 in
        let k : t.bound u ≤ t.makespan (u ++ b.rest) = bounded u b.rest (subst (IsWord t) b.is b.word) (ap t.full (sym b.is) ∙ full) in
        let e : t.makespan w ≡ t.makespan (u ++ b.rest) = ap t.makespan b.is in
        omega (arith, k, e, high)

-- the best result by letters is the same if it is for each letter
best_visit_by : (t : WordTree) (go : List ℕ → Found → List (List ℕ)) (n : ℕ) (u letters : List ℕ) → Follow t u letters
    → ((a : ℕ) (f : Found) → Contains (t.letters u) a → best t f (go (u ++ a ∷ []) f) ≡ best t f (words_from t n (u ++ a ∷ [])))
    → (f : Found) → best t f (visit_by t go u f letters) ≡ best t f (words_by t n u letters)
best_visit_by t go n u [] follow same f = refl
best_visit_by t go n u (a ∷ letters) follow same f =
    let mine : List (List ℕ) = go (u ++ a ∷ []) f in
    let all : List (List ℕ) = words_from t n (u ++ a ∷ []) in
    fold-append (better t) f mine (visit_by t go u (best t f mine) letters)
    ∙ best_visit_by t go n u letters follow.1 same (best t f mine)
    ∙ ap (λ g. best t g (words_by t n u letters)) (same a f follow.0)
    ∙ sym (fold-append (better t) f all (words_by t n u letters))

-- leaving out words doesn't change the result
pub best_visit : (t : WordTree) → BoundHolds t → (n : ℕ) (u : List ℕ) (f : Found) → IsWord t u → best t f (visit t n u f) ≡ best t f (words_from t n u)
best_visit t bounded zero u f w = refl
best_visit t bounded (suc n) u f w = by_bound (cases_Bool (nat_le f.value (t.bound u)))
    (best_visit_by t (visit t n) n u (t.letters u) (all_follow t u) (λ a g l. best_visit t bounded n (u ++ a ∷ []) g (word_push t u a w l)) (better t f u))
  where
    open_words : List (List ℕ)
    open_words = visit_by t (visit t n) u (better t f u) (t.letters u)

    by_bound : (nat_le f.value (t.bound u) ≡ true) ⊎ (nat_le f.value (t.bound u) ≡ false) →
        best t (better t f u) open_words ≡ best t (better t f u) (words_by t n u (t.letters u)) →
        best t f (visit t (suc n) u f) ≡ best t f (words_from t (suc n) u)
    by_bound (inl closed) e =
        let high : f.value ≤ t.bound u = leb-true f.value (t.bound u) closed in
        let b : AllByRecursion (IsBelow t u) (words_from t (suc n) u) = members t (suc n) u w in
        ap (λ ws. best t (better t f u) ws) (cond-true (nat_le f.value (t.bound u)) [] open_words closed)
        ∙ best_pruned t bounded u f high (u ∷ []) (b.0, tt)
        ∙ sym (best_pruned t bounded u f high (words_from t (suc n) u) b)
    by_bound (inr opened) e = ap (λ ws. best t (better t f u) ws) (cond-false (nat_le f.value (t.bound u)) [] open_words opened) ∙ e

-- the proper prefixes of a word with a letter more: its own and itself
prefixes_push : (u : List ℕ) (a : ℕ) → proper_prefixes (u ++ a ∷ []) ≡ proper_prefixes u ++ u ∷ []
prefixes_push [] a = refl
prefixes_push (b ∷ u) a =
    ap (λ ps. [] ∷ map (λ v. b ∷ v) ps) (prefixes_push u a)
    ∙ ap (λ ps. [] ∷ ps) (map-append (λ v. b ∷ v) (proper_prefixes u) (u ∷ []))

-- a word is a proper prefix of each that begins with it and a letter
prefixes_beyond : (u : List ℕ) (a : ℕ) (v : List ℕ) → (more : List (List ℕ)) × (proper_prefixes (u ++ a ∷ v) ≡ proper_prefixes u ++ u ∷ more)
prefixes_beyond [] a v = (map (λ w. a ∷ w) (proper_prefixes v), refl)
prefixes_beyond (b ∷ u) a v =
    let r : (more : List (List ℕ)) × (proper_prefixes (u ++ a ∷ v) ≡ proper_prefixes u ++ u ∷ more) = prefixes_beyond u a v in
    (map (λ w. b ∷ w) r.0, ap (λ ps. [] ∷ map (λ w. b ∷ w) ps) r.1 ∙ ap (λ ps. [] ∷ ps) (map-append (λ w. b ∷ w) (proper_prefixes u) (u ∷ r.0)))

-- the child of a visited word that is open is visited
child_visited : (t : WordTree) (initial : ℕ) (u : List ℕ) (a : ℕ) → is_visited t initial u ≡ true → is_open t initial u ≡ true → is_visited t initial (u ++ a ∷ []) ≡ true
unfolding is_visited
child_visited t initial u a v o =
    ap (list_all (is_open t initial)) (prefixes_push u a)
    ∙ list_all-append (is_open t initial) (proper_prefixes u) (u ∷ [])
    ∙ and_from (list_all (is_open t initial) (proper_prefixes u)) (is_open t initial u && true) v (and_from (is_open t initial u) true o refl)

-- no word that begins with a closed one is visited
closed_below : (t : WordTree) (initial : ℕ) (u w : List ℕ) → is_open t initial u ≡ false → IsProperlyBelow t u w → is_visited t initial w ≡ false
unfolding is_visited
closed_below t initial u w closed b =
    let r : (more : List (List ℕ)) × (proper_prefixes (u ++ b.letter ∷ b.rest) ≡ proper_prefixes u ++ u ∷ more) = prefixes_beyond u b.letter b.rest in
    ap (λ x. list_all (is_open t initial) (proper_prefixes x)) b.is
    ∙ ap (list_all (is_open t initial)) r.1
    ∙ list_all-append (is_open t initial) (proper_prefixes u) (u ∷ r.0)
    ∙ and_right (list_all (is_open t initial) (proper_prefixes u)) (is_open t initial u && list_all (is_open t initial) r.0) (and_left (is_open t initial u) (list_all (is_open t initial) r.0) closed)

-- the position of u in the list of all words
abbrev Stands : WordTree → List (List ℕ) → List (List ℕ) → List (List ℕ) → Type 0
Stands t pre ws post = words t ≡ pre ++ ws ++ post

-- the least before a word is the best of the words before it
least_is : (t : WordTree) (initial : ℕ) → LettersRise t →
    (pre : List (List ℕ)) (u : List ℕ) (post : List (List ℕ)) → words t ≡ pre ++ u ∷ post →
    least t initial u ≡ (best t (initial_found initial) pre).value
unfolding least words
least_is t initial rise pre u post e =
    let o : Ordered (pre ++ u ∷ post) = subst Ordered e (in_order t rise t.depth [] tt) in
    ap (λ ws. (best t (initial_found initial) (filter (λ w. is_before w u) ws)).value) e
    ∙ ap (λ ws. (best t (initial_found initial) ws).value) (earlier pre u post o)

-- by letters: the visited words there are those that the search visits
visited_by : (t : WordTree) (initial : ℕ) → BoundHolds t → (n : ℕ) (u letters : List ℕ) (pre post : List (List ℕ)) → IsWord t u → Follow t u letters
    → words t ≡ pre ++ (words_by t n u letters ++ post)
    → ((a : ℕ) (front back : List (List ℕ)) → Contains (t.letters u) a →
    words t ≡ front ++ (words_from t n (u ++ a ∷ []) ++ back) →
    filter (is_visited t initial) (words_from t n (u ++ a ∷ [])) ≡ visit t n (u ++ a ∷ [])
    (best t (initial_found initial) front))
    → filter (is_visited t initial) (words_by t n u letters) ≡ visit_by t (visit t n) u (best t (initial_found initial) pre) letters
visited_by t initial bounded n u [] pre post w follow e go = refl
visited_by t initial bounded n u (a ∷ letters) pre post w follow e go =
    let mine : List (List ℕ) = words_from t n (u ++ a ∷ []) in
    let rest : List (List ℕ) = words_by t n u letters in
    let f : Found = best t (initial_found initial) pre in
    let split : words t ≡ pre ++ (mine ++ (rest ++ post)) = e ∙ ap (λ ws. pre ++ ws) (append_assoc mine rest post) in
    let first : filter (is_visited t initial) mine ≡ visit t n (u ++ a ∷ []) f = go a pre (rest ++ post) follow.0 split in
    let later : filter (is_visited t initial) rest ≡ visit_by t (visit t n) u
    (best t (initial_found initial) (pre ++ mine)) letters =
    visited_by t initial bounded n u letters (pre ++ mine) post w follow.1
    (split ∙ sym (append_assoc pre mine (rest ++ post))) go in
    let same : best t (initial_found initial) (pre ++ mine) ≡ best t f (visit t n (u ++ a ∷ []) f) =
    fold-append (better t) (initial_found initial) pre mine
    ∙ sym (best_visit t bounded n (u ++ a ∷ []) f (word_push t u a w follow.0)) in
    filter-append (is_visited t initial) mine rest
    ∙ ap (λ ws. ws ++ filter (is_visited t initial) rest) first
    ∙ ap (λ ws. visit t n (u ++ a ∷ []) f ++ ws) (later ∙ ap (λ g. visit_by t (visit t n) u g letters) same)

-- the words by letters: none is visited if u is closed, otherwise those that the search visits
by_bound : (t : WordTree) (initial n : ℕ) (u : List ℕ) (f : Found) → IsWord t u → least t initial u ≡ f.value
    → (is_open t initial u ≡ true → filter (is_visited t initial) (words_by t n u (t.letters u)) ≡ visit_by t (visit t n) u (better t f u) (t.letters u))
    → filter (is_visited t initial) (words_by t n u (t.letters u)) ≡ cond (nat_le f.value (t.bound u)) [] (visit_by t (visit t n) u (better t f u) (t.letters u))
unfolding is_open
by_bound t initial n u f w low opened = by_test (cases_Bool (nat_le f.value (t.bound u)))
  where
    made : List (List ℕ)
    made = visit_by t (visit t n) u (better t f u) (t.letters u)

    by_test : (nat_le f.value (t.bound u) ≡ true) ⊎ (nat_le f.value (t.bound u) ≡ false) → filter (is_visited t initial) (words_by t n u (t.letters u)) ≡ cond (nat_le f.value (t.bound u)) [] made
    by_test (inl high) =
        let h : f.value ≤ t.bound u = leb-true f.value (t.bound u) high in
        let closed : is_open t initial u ≡ false = le-ltb (t.bound u) (least t initial u) (omega (arith, h, low)) in
        filter_none (is_visited t initial) (words_by t n u (t.letters u))
        (each_weaker (IsProperlyBelow t u) (λ x. is_visited t initial x ≡ false)
        (λ x b. closed_below t initial u x closed b) (words_by t n u (t.letters u))
        (proper_members t n u (t.letters u) w (all_follow t u)))
        ∙ sym (cond-true (nat_le f.value (t.bound u)) [] made high)
    by_test (inr under) =
        let h : t.bound u < f.value = leb-false f.value (t.bound u) under in
        opened (lt-ltb (t.bound u) (least t initial u) (omega (arith, h, low)))
        ∙ sym (cond-false (nat_le f.value (t.bound u)) [] made under)

-- the visited words that begin with a visited word are those of the search
visited_below : (t : WordTree) (initial : ℕ) → KeepsLaws t → (n : ℕ) (u : List ℕ) (pre post : List (List ℕ)) → IsWord t u → is_visited t initial u ≡ true
    → words t ≡ pre ++ (words_from t n u ++ post) → filter (is_visited t initial) (words_from t n u) ≡ visit t n u (best t (initial_found initial) pre)
visited_below t initial k zero u pre post w v e = cond-true (is_visited t initial u) (u ∷ []) [] v
visited_below t initial k (suc n) u pre post w v e =
    let f : Found = best t (initial_found initial) pre in
    let by : List (List ℕ) = words_by t n u (t.letters u) in
    let low : least t initial u ≡ f.value = least_is t initial k.rise pre u (by ++ post) e in
    let front : words t ≡ (pre ++ u ∷ []) ++ (by ++ post) = e ∙ sym (append_assoc pre (u ∷ []) (by ++ post)) in
    let found : best t (initial_found initial) (pre ++ u ∷ []) ≡ better t f u = fold-append (better t) (initial_found initial) pre (u ∷ []) in
    cond-true (is_visited t initial u) (u ∷ filter (is_visited t initial) by) (filter (is_visited t initial) by) v
    ∙ ap (λ ws. u ∷ ws)
    (by_bound t initial n u f w low (λ opened.
    visited_by t initial k.bounded n u (t.letters u) (pre ++ u ∷ []) post w (all_follow t u) front
    (λ a before after l s. visited_below t initial k n (u ++ a ∷ []) before after (word_push t u a w l) (child_visited t initial u a v opened) s)
    ∙ ap (λ g. visit_by t (visit t n) u g (t.letters u)) found))

-- `visited_words` are the words of the search
pub visited_is : (t : WordTree) (initial : ℕ) → KeepsLaws t → visited_words t initial ≡ visit t t.depth [] (initial_found initial)
unfolding visited_words words is_visited
visited_is t initial k = visited_below t initial k t.depth [] [] [] tt refl (sym (append-nil (words_from t t.depth [])))
