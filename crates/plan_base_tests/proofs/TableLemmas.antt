-- The tree of the tests obeys the laws.
use Rattle.std.proofs.Common.{get_or, take, false, ◌≡◌, ℕ, ◌+◌, ◌<◌, ◌≤◌, true, Bool, nat_lt, List, [], ◌∷◌, ◌++◌, length, slice_index, filter, fold, sym, ap}
use Rattle.std.proofs.Common.{◌∙◌, subst, append_assoc, append-nil, length-append, arith}
use Rattle.std.specs.List.{AllByRecursion}
use Rattle.std.proofs.lemmas.Bool.{cond_both, cond-true, cond-false, and_parts, ltb-true}
use Rattle.std.proofs.lemmas.List.Elements.{filter_passes, filter_more, All-contains}
use Rattle.std.proofs.lemmas.List.Sums.{fold-append}
use Rattle.plan_exact.specs.Words.{Continues}
use Rattle.plan_exact.specs.Laws.{LettersRise, WordsAreFinite, BoundHolds, KeepsLaws}
use Rattle.plan_base_tests.specs.TableTree.{Reached, next_place, after_letter, reached, may_follow, table_tree}
use Rattle.plan_exact.proofs.OrderLemmas.{InOrder, by_places}

-- a filter preserves facts on each element, and the order
each_filtered : (p : ℕ → Bool) (P : ℕ → Type 0) (xs : List ℕ) → AllByRecursion P xs
    → AllByRecursion P (filter p xs)
each_filtered p P [] e = tt
each_filtered p P (x ∷ xs) e =
    cond_both (p x) (x ∷ filter p xs) (filter p xs) (AllByRecursion P) (λ _. (e.0, each_filtered p P xs e.1)) (λ _. each_filtered p P xs e.1)

in_order_filtered : (p : ℕ → Bool) (R : ℕ → ℕ → Type 0) (xs : List ℕ) → InOrder R xs → InOrder R (filter p xs)
in_order_filtered p R [] o = tt
in_order_filtered p R (x ∷ xs) o =
    cond_both (p x) (x ∷ filter p xs) (filter p xs) (InOrder R) (λ _. (each_filtered p (R x) xs o.0, in_order_filtered p R xs o.1)) (λ _. in_order_filtered p R xs o.1)

table_rises : (floors ends : List ℕ) → LettersRise (table_tree floors ends)
unfolding LettersRise
table_rises floors ends w word =
    by_places (λ a b. a < b) (filter (may_follow floors w) (1 ∷ 2 ∷ 3 ∷ []))
    (in_order_filtered (may_follow floors w) (λ a b. a < b) (1 ∷ 2 ∷ 3 ∷ []) ((omega arith, (omega arith, tt)), ((omega arith, tt), (tt, tt))))

-- a word of at most three letters stays so with each letter that may follow
short : (floors ends : List ℕ) (u v : List ℕ) → Continues (table_tree floors ends) u v → length u ≤ 3
    → length (u ++ v) ≤ 3
short floors ends u [] c l = subst (λ (w : List ℕ). length w ≤ 3) (sym (append-nil u)) l
short floors ends u (a ∷ v) c l =
    let passes : may_follow floors u a ≡ true = All-contains (λ b. may_follow floors u b ≡ true)
    (filter (may_follow floors u) (1 ∷ 2 ∷ 3 ∷ [])) a
    (filter_passes (may_follow floors u) (1 ∷ 2 ∷ 3 ∷ [])) c.0 in
    let room : length u < 3 = ltb-true (length u) 3 (and_parts (nat_lt (length u) 3) (nat_lt 0 (slice_index floors (next_place (reached floors u).place a))) passes).0 in
    subst (λ (w : List ℕ). length w ≤ 3) (append_assoc u (a ∷ []) v) (short floors ends (u ++ a ∷ []) v c.1 (omega (arith, length-append u (a ∷ []), room)))

table_is_finite : (floors ends : List ℕ) → WordsAreFinite (table_tree floors ends)
unfolding WordsAreFinite
table_is_finite floors ends w word = short floors ends [] w word (omega arith)

-- the bound never falls along a word
grows : (floors : List ℕ) (r : Reached) (v : List ℕ) → r.bound ≤ (fold (after_letter floors) r v).bound
grows floors r [] = omega arith
grows floors r (a ∷ v) =
    let more : r.bound ≤ (after_letter floors r a).bound = omega arith in
    let rest : (after_letter floors r a).bound ≤ (fold (after_letter floors) (after_letter floors r a) v).bound = grows floors (after_letter floors r a) v in
    omega (arith, more, rest)

table_bound_holds : (floors ends : List ℕ) → BoundHolds (table_tree floors ends)
unfolding BoundHolds
table_bound_holds floors ends u v word full =
    let k : (reached floors u).bound ≤ (fold (after_letter floors) (reached floors u) v).bound = grows floors (reached floors u) v in
    let e : (reached floors (u ++ v)).bound ≡ (fold (after_letter floors) (reached floors u) v).bound =
    ap (λ (r : Reached). r.bound) (fold-append (after_letter floors)
    (record { place = 0; bound = slice_index floors 0 }) u v) in
    omega (arith, k, e)

-- each pair of tables describes a tree that obeys the laws
pub table_keeps_laws : (floors ends : List ℕ) → KeepsLaws (table_tree floors ends)
table_keeps_laws floors ends = record { rise = table_rises floors ends; finite = table_is_finite floors ends; bounded = table_bound_holds floors ends }

-- one letter more of a list, taken or left out
pub letter_taken : (p : ℕ → Bool) (xs old list : List ℕ) (i : ℕ) → i < length xs → p (get_or xs i 0) ≡ true
    → list ≡ old ++ filter p (take i xs)
    → list ++ get_or xs i 0 ∷ [] ≡ old ++ filter p (take (i + 1) xs)
letter_taken p xs old list i l passes e =
    ap (λ ys. ys ++ get_or xs i 0 ∷ []) e
    ∙ append_assoc old (filter p (take i xs)) (get_or xs i 0 ∷ [])
    ∙ ap (λ ys. old ++ (filter p (take i xs) ++ ys)) (sym (cond-true (p (get_or xs i 0)) (get_or xs i 0 ∷ []) [] passes))
    ∙ ap (λ ys. old ++ ys) (sym (filter_more p xs i 0 l))

pub letter_left : (p : ℕ → Bool) (xs old list : List ℕ) (i : ℕ) → i < length xs → p (get_or xs i 0) ≡ false
    → list ≡ old ++ filter p (take i xs)
    → list ≡ old ++ filter p (take (i + 1) xs)
letter_left p xs old list i l fails e =
    e
    ∙ ap (λ ys. old ++ ys) (sym (append-nil (filter p (take i xs))))
    ∙ ap (λ ys. old ++ (filter p (take i xs) ++ ys)) (sym (cond-false (p (get_or xs i 0)) (get_or xs i 0 ∷ []) [] fails))
    ∙ ap (λ ys. old ++ ys) (sym (filter_more p xs i 0 l))
