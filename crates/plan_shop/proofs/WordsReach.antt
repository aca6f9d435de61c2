-- Full words reach what feasible lists reach, and are all active lists.
use Rattle.std.proofs.Common.{◌≡◌, ℕ, zero, suc, ◌+◌, ◌*◌, ◌≤◌, ◌<◌, true, false, inl, inr, List, [], ◌∷◌, ◌++◌, length, get_or, sym, ◌∙◌, ap, subst, arith}
use Rattle.std.specs.List.{Contains}
use Rattle.std.proofs.lemmas.Bool.{cases_lt, cases_eq}
use Rattle.std.proofs.lemmas.List.{ext_get_or, length-append, length-set}
use Rattle.plan_sgs.specs.Problem.{makespan, count, duration, IsFeasible, IsActive}
use Rattle.plan_sgs.proofs.TotalLemmas.{greatest_grows}
use Rattle.plan_shop.specs.Shop.{JobShop, IsShop, count_steps, job_of, place_of, problem_of}
use Rattle.plan_shop.specs.Words.{Placed, steps_done, next_step, ready, place, letter_of, placed_by, jobs_after, letters_after, Follows, IsWord, is_full, start_in, starts_of, makespan_of}
use Rattle.plan_shop.specs.Continuation.{Agrees, Continues}
use Rattle.plan_shop.specs.Laws.{placed_in, IsContinued, Letter, FullIsFeasible, LetterIsThere, Reaches, WordsReach, LeastWordIsShortest, IsSpelled, ActiveIsSpelled}
use Rattle.plan_shop.proofs.NumberLemmas.{length_table, get_or_table}
use Rattle.plan_shop.proofs.ShopBasics.{at, number_below, IsSound, count_is, sound_from}
use Rattle.plan_shop.proofs.Reached.{Reached, letter_there, placed_cases}
use Rattle.plan_shop.proofs.FullWords.{reached, start_new, start_old, all_done, full_is_feasible}
use Rattle.plan_shop.proofs.WordCount.{length_placed, count_full, short_not_full}
use Rattle.plan_shop.proofs.ShopBound.{placed_append}
use Rattle.plan_shop.proofs.Earlier.{IsLeft, mover, moved, moved_no_later, moved_continues, moved_feasible, letter_is_there}

-- the start of a placed step is that of each schedule that agrees
pub start_is : (s : JobShop) (starts : ℕ → ℕ) (xs : List Placed) → Reached s xs → Agrees starts xs → (x : ℕ) → place_of s x < steps_done xs (job_of s x) → start_in xs x ≡ starts x
start_is s starts [] r a x l = absurd (omega (arith, l))
start_is s starts (p ∷ xs) r a x l = elim (cases_eq x p.step) [
  | inl same ↦ start_new p xs x (sym same) ∙ sym a.0 ∙ ap starts (sym same)
  | inr apart ↦ elim (placed_cases s p xs r.2 x l) [
    | inl before ↦ start_old p xs x apart ∙ start_is s starts xs r.0 a.1 x before
    | inr new ↦ absurd (apart new)
  ]
]

-- if all steps are placed, the starts are those of each list that continues the word
pub starts_are : (s : JobShop) → IsShop s → (starts : List ℕ) (xs : List Placed) → length starts ≡ count_steps s → Reached s xs → Agrees (at starts) xs → is_full s xs ≡ true → starts_of s xs ≡ starts
starts_are s shop starts xs whole r a full =
    let long : length (starts_of s xs) ≡ count_steps s = length_table (count_steps s) (start_in xs) in
    ext_get_or 0 (starts_of s xs) starts (long ∙ sym whole) (λ i l.
    let below : i < count_steps s = omega (arith, l, long) in
    get_or_table (count_steps s) (start_in xs) i below ∙ start_is s (at starts) xs r a i (all_done s shop xs full i below))

-- if no step starts later, the makespan is no greater
pub makespan_grows : (s : JobShop) (other starts : List ℕ) → ((x : ℕ) → at other x ≤ at starts x) → makespan (problem_of s) other ≤ makespan (problem_of s) starts
makespan_grows s other starts earlier =
    greatest_grows (count (problem_of s)) (λ i. get_or other i 0 + duration (problem_of s) i) (λ i. get_or starts i 0 + duration (problem_of s) i) (λ i l. omega (arith, earlier i))

-- a word with one letter more
pub follows_last : (s : JobShop) (xs : List Placed) (w : List ℕ) (a : ℕ) → Follows s xs w → Contains (letters_after s (placed_by s xs w)) a → Follows s xs (w ++ a ∷ [])
follows_last s xs [] a f c = (c, tt)
follows_last s xs (b ∷ w) a f c = (f.0, follows_last s (placed_by s xs (b ∷ [])) w a f.1 c)

length_last : (w : List ℕ) (a : ℕ) → length (w ++ a ∷ []) ≡ suc (length w)
length_last w a = omega (arith, length-append w (a ∷ []))

-- a word that a feasible list continues leads to a full one with a makespan that is no greater
reach_from : (s : JobShop) → IsShop s → (n : ℕ) (w starts : List ℕ) → length w + n ≡ s.jobs * s.machines → IsWord s w → IsContinued s w starts → Reaches s (makespan (problem_of s) starts)
unfolding LetterIsThere makespan_of
reach_from s shop zero w starts e is c =
    let xs = placed_in s w in
    let full : is_full s xs ≡ true = count_full s xs (reached s w is) (omega (arith, e, length_placed s [] w)) in
    let same : starts_of s xs ≡ starts = starts_are s shop starts xs (c.feasible.each_started ∙ count_is s) (reached s w is) c.continues.placed full in
    record { word = w; is_word = is; full = full; makespan = omega (arith, ap (makespan (problem_of s)) same) }
reach_from s shop (suc n) w starts e is c =
    let xs = placed_in s w in
    let some : is_full s xs ≡ false = short_not_full s xs (reached s w is) (omega (arith, e, length_placed s [] w)) in
    let l : Letter s w starts = letter_is_there s shop w starts is some c in
    let h : Reaches s (makespan (problem_of s) l.other) =
    reach_from s shop n (w ++ l.letter ∷ []) l.other (omega (arith, e, length_last w l.letter))
    (follows_last s [] w l.letter is l.follows) l.continued in
    record { word = h.word; is_word = h.is_word; full = h.full; makespan = omega (arith, h.makespan, makespan_grows s l.other starts l.no_later) }

-- every list continues the empty word
continues_nothing : (s : JobShop) (starts : ℕ → ℕ) → Continues s starts []
continues_nothing s starts = record { placed = tt; unplaced = λ x xl l t. omega arith }

-- for every feasible list there is a full word with a makespan that is no greater
pub words_reach : (s : JobShop) → IsShop s → WordsReach s
unfolding WordsReach
words_reach s shop starts feasible = reach_from s shop (s.jobs * s.machines) [] starts (omega arith) tt (record { feasible = feasible; continues = continues_nothing s (at starts) })

-- so the least makespan of full words is the least of all
pub least_word_is_shortest : (s : JobShop) → IsShop s → LeastWordIsShortest s
unfolding LeastWordIsShortest FullIsFeasible WordsReach makespan_of
least_word_is_shortest s shop w is full least = record {
  feasible = full_is_feasible s shop w is full;
  least = λ other feasible.
      let h = words_reach s shop other feasible in
      omega (arith, least h.word h.is_word h.full, h.makespan);
}

-- an active list isn't changed by a move to an earlier start
not_changed : (s : JobShop) → IsShop s → (starts : List ℕ) (xs : List Placed) (j : ℕ) →
    IsActive (problem_of s) starts → Reached s xs → Continues s (at starts) xs →
    IsLeft s (at starts) (at (moved s starts xs j)) xs j → IsFeasible (problem_of s) (moved s starts xs j) →
    moved s starts xs j ≡ starts
not_changed s shop starts xs j active r con left feasible = ext_get_or 0 other starts (length-set starts y (ready s xs j)) (λ i l. same i) where
  y : ℕ
  y = next_step s xs j

  other : List ℕ
  other = moved s starts xs j

  whole : length starts ≡ count_steps s
  whole = active.feasible.each_started ∙ count_is s

  below : y < count (problem_of s)
  below = omega (arith, number_below s shop j (steps_done xs j) left.job left.next, count_is s)

  here : at other y ≡ at starts y
  here = elim (cases_lt (at other y) (at starts y)) [
    | inl less ↦ absurd (active.no_shift other y below (record { less = less; rest = left.rest }) feasible)
    | inr not_less ↦ omega (arith, not_less, moved_no_later s shop (at starts) (at other) xs j r (sound_from s shop starts active.feasible) con left y)
  ]

  same : (i : ℕ) → at other i ≡ at starts i
  same i = elim (cases_eq i y) [
    | inl e ↦ omega (arith, here, ap (at other) e, ap (at starts) e)
    | inr apart ↦ left.rest i apart
  ]

spell_from : (s : JobShop) → IsShop s → (n : ℕ) (w starts : List ℕ) → length w + n ≡ s.jobs * s.machines →
    IsWord s w → IsActive (problem_of s) starts → Continues s (at starts) (placed_in s w) → IsSpelled s starts
spell_from s shop zero w starts e is active con =
    let xs = placed_in s w in
    let full : is_full s xs ≡ true = count_full s xs (reached s w is) (omega (arith, e, length_placed s [] w)) in
    record { word = w; is_word = is; full = full; same = starts_are s shop starts xs (active.feasible.each_started ∙ count_is s) (reached s w is) con.placed full }
spell_from s shop (suc n) w starts e is active con =
    let xs = placed_in s w in
    let r : Reached s xs = reached s w is in
    let some : is_full s xs ≡ false = short_not_full s xs r (omega (arith, e, length_placed s [] w)) in
    let sound : IsSound s (at starts) = sound_from s shop starts active.feasible in
    let whole : length starts ≡ count_steps s = active.feasible.each_started ∙ count_is s in
    let m = mover s shop starts xs whole r sound con some in
    let j = m.0 in
    let left : IsLeft s (at starts) (at (moved s starts xs j)) xs j = m.1.left in
    let feasible : IsFeasible (problem_of s) (moved s starts xs j) = moved_feasible s shop starts xs j whole r sound con left in
    let same : moved s starts xs j ≡ starts = not_changed s shop starts xs j active r con left feasible in
    let con' : Continues s (at (moved s starts xs j)) (place s xs j) = moved_continues s shop (at starts) (at (moved s starts xs j)) xs j r sound con left in
    let con'' : Continues s (at starts) (place s xs j) = subst (λ (ts : List ℕ). Continues s (at ts) (place s xs j)) same con' in
    let next : IsWord s (w ++ letter_of j ∷ []) = follows_last s [] w (letter_of j) is (letter_there (jobs_after s xs) j m.1.there) in
    spell_from s shop n (w ++ letter_of j ∷ []) starts
    (omega (arith, e, length_last w (letter_of j))) next active
    (subst (λ (zs : List Placed). Continues s (at starts) zs)
    (sym (placed_append s [] w (letter_of j ∷ []))) con'')

-- every active list is that of a full word
pub active_is_spelled : (s : JobShop) → IsShop s → ActiveIsSpelled s
unfolding ActiveIsSpelled
active_is_spelled s shop starts active = spell_from s shop (s.jobs * s.machines) [] starts (omega arith) tt active (continues_nothing s (at starts))
