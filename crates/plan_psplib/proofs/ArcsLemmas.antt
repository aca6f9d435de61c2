-- The precedence section: reading succeeds exactly for the words that spell the result.
use Rattle.std.proofs.Common.{◌≡◌, ℕ, zero, suc, ◌+◌, ◌≤◌, ◌&&◌, ◌||◌, Bool, true, false, List, [], ◌∷◌, ◌++◌, Ok, length, refl, sym, ap, ◌∙◌, subst, append_assoc, append-nil}
use Rattle.std.specs.Prelude.{nat_le, nat_eq, not}
use Rattle.std.specs.List.{AllByRecursion, IsDistinct}
use Rattle.plan_psplib.specs.declared.text.fault.FileCode.TheVariants as code
use Rattle.plan_psplib.specs.Streams.{Stream}
use Rattle.plan_psplib.specs.Tokens.{LineNumber, check, number_at, expect_at, end_at}
use Rattle.plan_psplib.specs.Precedence.{is_among, job_at, successor_at, successors_at, precedence_row_at, precedence_rows_at, precedence}
use Rattle.plan_net.specs.Successors.{arcs_from, arcs_of_rows, IsRow}
use Rattle.plan_psplib.specs.Says.{SpellsArcs, precedence_numbers}
use Rattle.plan_psplib.proofs.GoesLemmas.{Goes, goes_append, goes_split, goes_spells, spells_goes, then_ok, ok_bind, same_ok, check_ok, ok_check, between_true, true_between, number_goes, goes_number, expect_goes, goes_expect, end_none, none_end}

true_not : (b : Bool) → not b ≡ true → b ≡ false
true_not true e = cc
true_not false e = refl

job_goes : (n : ℕ) (s : Stream) (x : LineNumber × Stream) → job_at n s ≡ Ok x → Goes s (x.0.value ∷ []) x.1 × (1 ≤ x.0.value) × (x.0.value ≤ n)
unfolding job_at
job_goes n s x e =
    then_ok (number_at s) _ x e (λ y read e.
    then_ok (check (nat_le 1 y.0.value && nat_le y.0.value n) code.JobOrder y.0.line) _ x e (λ u holds e.
    let inside = between_true 1 n y.0.value (check_ok _ code.JobOrder y.0.line u holds) in
    let P : LineNumber × Stream → Type 0 = λ z. Goes s (z.0.value ∷ []) z.1 × (1 ≤ z.0.value) × (z.0.value ≤ n) in
    subst P (same_ok y x e) (number_goes s y read, inside.0, inside.1)))

goes_job : (n j : ℕ) (s t : Stream) → Goes s (j ∷ []) t → 1 ≤ j → j ≤ n → job_at n s ≡ Ok (record { value = j; line = t.last }, t)
unfolding job_at
goes_job n j s t p low high =
    let job : LineNumber × Stream = (record { value = j; line = t.last }, t) in
    ok_bind (number_at s) _ job job (goes_number s t j p)
    (ok_bind (check (nat_le 1 j && nat_le j n) code.JobOrder t.last) _ tt job (ok_check _ code.JobOrder t.last (true_between 1 n j low high)) refl)

pub successor_goes : (n : ℕ) (before : List ℕ) (s : Stream) (x : ℕ × Stream) → successor_at n before s ≡ Ok x → Goes s (x.0 ∷ []) x.1 × (1 ≤ x.0) × (x.0 ≤ n) × (is_among before x.0 ≡ false)
unfolding successor_at
successor_goes n before s x e =
    then_ok (job_at n s) _ x e (λ y read e.
    then_ok (check (not (is_among before y.0.value)) code.Double y.0.line) _ x e (λ u holds e.
    let new = true_not (is_among before y.0.value) (check_ok _ code.Double y.0.line u holds) in
    let job = job_goes n s y read in
    let P : ℕ × Stream → Type 0 = λ z. Goes s (z.0 ∷ []) z.1 × (1 ≤ z.0) × (z.0 ≤ n) × (is_among before z.0 ≡ false) in
    subst P (same_ok (y.0.value, y.1) x e) (job.0, job.1, job.2, new)))

pub goes_successor : (n j : ℕ) (before : List ℕ) (s t : Stream) → Goes s (j ∷ []) t → 1 ≤ j → j ≤ n → is_among before j ≡ false → successor_at n before s ≡ Ok (j, t)
unfolding successor_at
goes_successor n j before s t p low high new =
    ok_bind (job_at n s) _ (record { value = j; line = t.last }, t) (j, t) (goes_job n j s t p low high)
    (ok_bind (check (not (is_among before j)) code.Double t.last) _ tt (j, t) (ok_check _ code.Double t.last (ap not new)) refl)

-- jobs of 1 to n, none of which is among the jobs before it
abbrev pub AreNew : ℕ → List ℕ → List ℕ → Type 0
AreNew n before [] = Unit {0}
AreNew n before (j ∷ js) = (1 ≤ j) × (j ≤ n) × (is_among before j ≡ false) × AreNew n (before ++ j ∷ []) js

-- one more successor
pub AreNew-push : (n : ℕ) (before js : List ℕ) (j : ℕ) → AreNew n before js → 1 ≤ j → j ≤ n → is_among (before ++ js) j ≡ false → AreNew n before (js ++ j ∷ [])
AreNew-push n before [] j h low high new = (low, high, ap (λ (xs : List ℕ). is_among xs j) (sym (append-nil before)) ∙ new, tt)
AreNew-push n before (x ∷ js) j h low high new =
    (h.0, h.1, h.2, AreNew-push n (before ++ x ∷ []) js j h.3 low high (ap (λ (xs : List ℕ). is_among xs j) (append_assoc before (x ∷ []) js) ∙ new))

successors_goes : (n count : ℕ) (before : List ℕ) (s : Stream) (x : List ℕ × Stream) →
    successors_at n count before s ≡ Ok x → (new : List ℕ) × (x.0 ≡ before ++ new) × (length new ≡ count)
    × Goes s new x.1 × AreNew n before new
unfolding successors_at
successors_goes n zero before s x e =
    let P : List ℕ × Stream → Type 0 = λ z. (new : List ℕ) × (z.0 ≡ before ++ new) × (length new ≡ 0) × Goes s new z.1 × AreNew n before new in
    subst P (same_ok (before, s) x e) ([], sym (append-nil before), refl, refl, tt)
successors_goes n (suc count) before s x e =
    then_ok (successor_at n before s) _ x e (λ y read e.
    let one = successor_goes n before s y read in
    let rest = successors_goes n count (before ++ y.0 ∷ []) y.1 x e in
    (y.0 ∷ rest.0, rest.1 ∙ append_assoc before (y.0 ∷ []) rest.0, ap suc rest.2, goes_append s y.1 x.1 (y.0 ∷ []) rest.0 one.0 rest.3, (one.1, one.2, one.3, rest.4)))

goes_successors : (n : ℕ) (before new : List ℕ) (s t : Stream) → Goes s new t → AreNew n before new → successors_at n (length new) before s ≡ Ok (before ++ new, t)
unfolding successors_at
goes_successors n before [] s t p are = ap (λ (u : Stream). Ok (before, u)) (sym p) ∙ ap (λ (xs : List ℕ). Ok (xs, t)) (sym (append-nil before))
goes_successors n before (j ∷ js) s t p are =
    let mid : Stream = record { last = p.0.line; words = p.1 } in
    ok_bind (successor_at n before s) _ (j, mid) (before ++ j ∷ js, t) (goes_successor n j before s mid (p.0, p.1, p.2, p.3, refl) are.0 are.1 are.2)
    (goes_successors n (before ++ j ∷ []) js mid t p.4 are.3 ∙ ap (λ (xs : List ℕ). Ok (xs, t)) (append_assoc before (j ∷ []) js))

pub row_goes : (n job : ℕ) (s : Stream) (x : List ℕ × Stream) → precedence_row_at n job s ≡ Ok x → Goes s (job ∷ 1 ∷ length x.0 ∷ x.0) x.1 × AreNew n [] x.0
unfolding precedence_row_at
row_goes n job s x e =
    then_ok (expect_at job code.JobOrder s) _ x e (λ a first e.
    then_ok (expect_at 1 code.Modes a) _ x e (λ b second e.
    then_ok (number_at b) _ x e (λ c third e.
    let row = successors_goes n c.0.value [] c.1 x e in
    let P : List ℕ → Type 0 = λ js. Goes s (job ∷ 1 ∷ length js ∷ js) x.1 × AreNew n [] js in
    let Q : ℕ → Type 0 = λ count. Goes s (job ∷ 1 ∷ count ∷ row.0) x.1 in
    let whole = goes_append s a x.1 (job ∷ []) (1 ∷ c.0.value ∷ row.0) (expect_goes job code.JobOrder s a first)
    (goes_append a b x.1 (1 ∷ []) (c.0.value ∷ row.0) (expect_goes 1 code.Modes a b second)
    (goes_append b c.1 x.1 (c.0.value ∷ []) row.0 (number_goes b c third) row.3)) in
    subst P (sym row.1) (subst Q (sym row.2) whole, row.4))))

pub goes_row : (n job : ℕ) (row : List ℕ) (s t : Stream) → Goes s (job ∷ 1 ∷ length row ∷ row) t → AreNew n [] row → precedence_row_at n job s ≡ Ok (row, t)
unfolding precedence_row_at
goes_row n job row s t p are =
    let a = goes_split s t (job ∷ []) (1 ∷ length row ∷ row) p in
    let b = goes_split a.0 t (1 ∷ []) (length row ∷ row) a.2 in
    let c = goes_split b.0 t (length row ∷ []) row b.2 in
    ok_bind (expect_at job code.JobOrder s) _ a.0 (row, t) (goes_expect job code.JobOrder s a.0 a.1)
    (ok_bind (expect_at 1 code.Modes a.0) _ b.0 (row, t) (goes_expect 1 code.Modes a.0 b.0 b.1)
    (ok_bind (number_at b.0) _ (record { value = length row; line = c.0.last }, c.0) (row, t) (goes_number b.0 c.0 (length row) c.1)
    (goes_successors n [] row c.0 t c.2 are)))

pub rows_goes : (n more job : ℕ) (arcs : List (ℕ × ℕ)) (s : Stream) (x : List (ℕ × ℕ) × Stream) →
    precedence_rows_at n more job arcs s ≡ Ok x → (rows : List (List ℕ)) × (length rows ≡ more)
    × AllByRecursion (AreNew n []) rows × Goes s (precedence_numbers job rows) x.1
    × (x.0 ≡ arcs ++ arcs_of_rows job rows)
unfolding precedence_rows_at
rows_goes n zero job arcs s x e =
    let P : List (ℕ × ℕ) × Stream → Type 0 = λ z. (rows : List (List ℕ)) × (length rows ≡ 0)
    × AllByRecursion (AreNew n []) rows × Goes s (precedence_numbers job rows) z.1
    × (z.0 ≡ arcs ++ arcs_of_rows job rows) in
    subst P (same_ok (arcs, s) x e) ([], refl, tt, refl, sym (append-nil arcs))
rows_goes n (suc more) job arcs s x e =
    then_ok (precedence_row_at n job s) _ x e (λ y read e.
    let one = row_goes n job s y read in
    let rest = rows_goes n more (job + 1) (arcs ++ arcs_from job y.0) y.1 x e in (
      y.0 ∷ rest.0,
      ap suc rest.1,
      (one.1, rest.2),
      goes_append s y.1 x.1 (job ∷ 1 ∷ length y.0 ∷ y.0) (precedence_numbers (job + 1) rest.0) one.0 rest.3,
      rest.4 ∙ append_assoc arcs (arcs_from job y.0) (arcs_of_rows (job + 1) rest.0),
    ))

pub goes_rows : (n job : ℕ) (arcs : List (ℕ × ℕ)) (rows : List (List ℕ)) (s t : Stream) →
    Goes s (precedence_numbers job rows) t → AllByRecursion (AreNew n []) rows →
    precedence_rows_at n (length rows) job arcs s ≡ Ok (arcs ++ arcs_of_rows job rows, t)
unfolding precedence_rows_at
goes_rows n job arcs [] s t p are = ap (λ (u : Stream). Ok (arcs, u)) (sym p) ∙ ap (λ (xs : List (ℕ × ℕ)). Ok (xs, t)) (sym (append-nil arcs))
goes_rows n job arcs (row ∷ rows) s t p are =
    let a = goes_split s t (job ∷ 1 ∷ length row ∷ row) (precedence_numbers (job + 1) rows) p in
    ok_bind (precedence_row_at n job s) _ (row, a.0) (arcs ++ (arcs_from job row ++ arcs_of_rows (job + 1) rows), t) (goes_row n job row s a.0 a.1 are.0)
    (goes_rows n (job + 1) (arcs ++ arcs_from job row) rows a.0 t a.2 are.1 ∙ ap (λ (xs : List (ℕ × ℕ)). Ok (xs, t)) (append_assoc arcs (arcs_from job row) (arcs_of_rows (job + 1) rows)))

-- ---- jobs that aren't among those before them, and distinct jobs

-- none of the jobs is among those before it
abbrev AllNew : List ℕ → List ℕ → Type 0
AllNew before js = AllByRecursion (λ j. is_among before j ≡ false) js

among_push : (before : List ℕ) (j y : ℕ) → is_among (before ++ j ∷ []) y ≡ (is_among before y || nat_eq j y)
among_push [] j y = or_false (nat_eq j y)
  where
    or_false : (b : Bool) → (b || false) ≡ b
    or_false true = refl
    or_false false = refl
among_push (x ∷ before) j y = ap (λ b. nat_eq x y || b) (among_push before j y) ∙ or_assoc (nat_eq x y) (is_among before y) (nat_eq j y)
  where
    or_assoc : (a b c : Bool) → (a || (b || c)) ≡ (a || b || c)
    or_assoc true b c = refl
    or_assoc false b c = refl

false_or : (a b : Bool) → (a || b) ≡ false → (a ≡ false) × (b ≡ false)
false_or true b e = absurd (cc)
false_or false b e = (refl, e)

or_both_false : (a b : Bool) → a ≡ false → b ≡ false → (a || b) ≡ false
or_both_false a b p q = ap (λ c. c || b) p ∙ q

-- jobs that aren't among a list with one more: they aren't in the list, and differ from the one
AllNew-push : (before : List ℕ) (j : ℕ) (js : List ℕ) → AllNew (before ++ j ∷ []) js → AllNew before js × AllByRecursion (λ y. nat_eq j y ≡ false) js
AllNew-push before j [] h = (tt, tt)
AllNew-push before j (y ∷ js) h =
    let rest = AllNew-push before j js h.1 in
    let parts = false_or (is_among before y) (nat_eq j y) (sym (among_push before j y) ∙ h.0) in
    ((parts.0, rest.0), (parts.1, rest.1))

push-AllNew : (before : List ℕ) (j : ℕ) (js : List ℕ) → AllNew before js → AllByRecursion (λ y. nat_eq j y ≡ false) js → AllNew (before ++ j ∷ []) js
push-AllNew before j [] h k = tt
push-AllNew before j (y ∷ js) h k = (among_push before j y ∙ or_both_false (is_among before y) (nat_eq j y) h.0 k.0, push-AllNew before j js h.1 k.1)

pub new_is_row : (n : ℕ) (before row : List ℕ) → AreNew n before row → AllNew before row × IsRow n row
unfolding IsDistinct
new_is_row n before [] h = (tt, (tt, tt))
new_is_row n before (j ∷ js) h =
    let rest = new_is_row n (before ++ j ∷ []) js h.3 in
    let parts = AllNew-push before j js rest.0 in
    ((h.2, parts.0), (((h.0, h.1), rest.1.0), (parts.1, rest.1.1)))

pub row_is_new : (n : ℕ) (before row : List ℕ) → AllNew before row → IsRow n row → AreNew n before row
unfolding IsDistinct
row_is_new n before [] h r = tt
row_is_new n before (j ∷ js) h r = (r.0.0.0, r.0.0.1, h.0, row_is_new n (before ++ j ∷ []) js (push-AllNew before j js h.1 r.1.0) (r.0.1, r.1.1))

pub nothing_before : (row : List ℕ) → AllNew [] row
nothing_before [] = tt
nothing_before (j ∷ js) = (refl, nothing_before js)

pub rows_are : (n : ℕ) (rows : List (List ℕ)) → AllByRecursion (AreNew n []) rows → AllByRecursion (IsRow n) rows
rows_are n [] h = tt
rows_are n (row ∷ rows) h = ((new_is_row n [] row h.0).1, rows_are n rows h.1)

pub are_rows : (n : ℕ) (rows : List (List ℕ)) → AllByRecursion (IsRow n) rows → AllByRecursion (AreNew n []) rows
are_rows n [] h = tt
are_rows n (row ∷ rows) h = (row_is_new n [] row (nothing_before row) h.0, are_rows n rows h.1)

-- the words that were read spell the result
pub precedence_spelled : (n : ℕ) (s : Stream) (arcs : List (ℕ × ℕ)) → precedence n s ≡ Ok arcs → SpellsArcs n s.words arcs
unfolding precedence
precedence_spelled n s arcs e =
    then_ok (precedence_rows_at n n 1 [] s) _ arcs e (λ x read e.
    then_ok (end_at x.1) _ arcs e (λ u nothing_left e.
    let rows = rows_goes n n 1 [] s x read in
    (rows.0, rows.1, rows_are n rows.0 rows.2, goes_spells s x.1 (precedence_numbers 1 rows.0) rows.3 (end_none x.1 u nothing_left), sym (same_ok x.0 arcs e) ∙ rows.4)))

-- words that spell a result are read as that result
pub precedence_read : (n : ℕ) (s : Stream) (arcs : List (ℕ × ℕ)) → SpellsArcs n s.words arcs → precedence n s ≡ Ok arcs
unfolding precedence
precedence_read n s arcs h =
    let rows = h.0 in
    let a = spells_goes s (precedence_numbers 1 rows) h.3 in
    let read : precedence_rows_at n n 1 [] s ≡ Ok (arcs_of_rows 1 rows, a.0) = ap (λ more. precedence_rows_at n more 1 [] s) (sym h.1) ∙ goes_rows n 1 [] rows s a.0 a.1 (are_rows n rows h.2) in
    ok_bind (precedence_rows_at n n 1 [] s) _ (arcs_of_rows 1 rows, a.0) arcs read
    (ok_bind (end_at a.0) _ tt arcs (none_end a.0 a.2) (ap (λ (xs : List (ℕ × ℕ)). Ok xs) (sym h.4)))

-- the row of a job that was read is valid
pub row_is_row : (n job : ℕ) (s t : Stream) (row : List ℕ) → precedence_row_at n job s ≡ Ok (row, t) → IsRow n row
row_is_row n job s t row e = (new_is_row n [] row (row_goes n job s (row, t) e).1).1
