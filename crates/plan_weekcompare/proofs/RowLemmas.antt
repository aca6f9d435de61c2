-- Schedules by ids with one more activity.
use Rattle.std.proofs.Common.{◌≡◌, ℕ, zero, suc, ◌+◌, ◌≤◌, ◌<◌, ◌==◌, Bool, false, List, [], ◌∷◌, ◌++◌, Option, Some, None, cond, get_or, length, map, refl, sym, ap, ◌∙◌, append_assoc, arith}
use Rattle.std.specs.List.{All, AllByRecursion, flat_map, range_with_len}
use Rattle.std.specs.Option.{option_map}
use Rattle.std.proofs.lemmas.Bool.{eq-eqb, ne_eqb}
use Rattle.std.proofs.lemmas.List.{append-nil, get_or_append_left, get_or_push, length_push, map-append}
use Rattle.std.proofs.lemmas.List.Elements.{All-map, recursion_from_All}
use Rattle.plan_table.specs.Names.{Name, first_name, name_of}
use Rattle.plan_table.specs.declared.names.NameLine.{NameLine}
use Rattle.plan_views.specs.IdComparisons.{IdStart, id_start_at, id_starts, started}

-- ---- lists of lists, by the numbers from a on

flat_more : {Y : Type 0} (f : ℕ → List Y) (a n : ℕ) → flat_map f (range_with_len a (suc n)) ≡ flat_map f (range_with_len a n) ++ f (a + n)
flat_more {Y} f a zero =
    let place : a ≡ a + 0 = omega arith in
    append-nil (f a) ∙ ap f place
flat_more {Y} f a (suc n) =
    let place : a + 1 + n ≡ a + suc n = omega arith in
    ap (λ (ys : List Y). f a ++ ys) (flat_more f (a + 1) n)
    ∙ sym (append_assoc (f a) (flat_map f (range_with_len (a + 1) n)) (f (a + 1 + n)))
    ∙ ap (λ (k : ℕ). (f a ++ flat_map f (range_with_len (a + 1) n)) ++ f k) place

flat_same : {Y : Type 0} (f g : ℕ → List Y) (a n : ℕ) → ((k : ℕ) → a ≤ k → k < a + n → f k ≡ g k)
    → flat_map f (range_with_len a n) ≡ flat_map g (range_with_len a n)
flat_same {Y} f g a zero same = refl
flat_same {Y} f g a (suc n) same =
    ap (λ (ys : List Y). ys ++ flat_map f (range_with_len (a + 1) n)) (same a (omega arith) (omega arith))
    ∙ ap (λ (ys : List Y). g a ++ ys) (flat_same f g (a + 1) n (λ k low high. same k (omega (arith, low)) (omega (arith, high))))

-- ---- the first name of a number

first_other : (n : ℕ) (names : List Name) (last : Name) → (last.number == n) ≡ false → first_name n (names ++ last ∷ []) ≡ first_name n names
first_other n [] last other = ap (λ (b : Bool). cond b (Some last) None) other
first_other n (name ∷ names) last other = ap (λ (rest : Option Name). cond (name.number == n) (Some name) rest) (first_other n names last other)

first_last : (most n : ℕ) (names : List Name) (last : Name) → AllByRecursion (λ name. name.number ≤ most) names → most < n → last.number ≡ n
    → first_name n (names ++ last ∷ []) ≡ Some last
first_last most n [] last few above is = ap (λ (b : Bool). cond b (Some last) None) (eq-eqb last.number n is)
first_last most n (name ∷ names) last few above is =
    ap (λ (b : Bool). cond b (Some name) (first_name n (names ++ last ∷ []))) (ne_eqb name.number n (λ same. absurd (omega (arith, few.0, above, same))))
    ∙ first_last most n names last few.1 above is

-- ---- rows

-- one more activity doesn't change the row of another one
same_row : (ids : List Name) (starts : List ℕ) (last : Name) (start k : ℕ) → k < length starts → last.number ≡ length starts + 1
    → id_start_at (ids ++ last ∷ []) (starts ++ start ∷ []) k ≡ id_start_at ids starts k
same_row ids starts last start k inside is =
    let other : (last.number == k + 1) ≡ false = ne_eqb last.number (k + 1) (λ same. absurd (omega (arith, inside, is, same))) in
    ap (λ (name : Option Name). started (option_map (λ id. id.name) name) (get_or (starts ++ start ∷ []) k 0)) (first_other (k + 1) ids last other)
    ∙ ap (λ (n : ℕ). started (option_map (λ id. id.name) (first_name (k + 1) ids)) n) (get_or_append_left starts (start ∷ []) 0 k inside)

-- the row of one more activity
last_row : (ids : List Name) (starts : List ℕ) (last : Name) (start : ℕ) → AllByRecursion (λ name. name.number ≤ length starts) ids
    → last.number ≡ length starts + 1
    → id_start_at (ids ++ last ∷ []) (starts ++ start ∷ []) (length starts) ≡ record { id = last.name; start = start } ∷ []
last_row ids starts last start few is =
    ap (λ (name : Option Name). started (option_map (λ id. id.name) name) (get_or (starts ++ start ∷ []) (length starts) 0))
    (first_last (length starts) (length starts + 1) ids last few (omega arith) is)
    ∙ ap (λ (n : ℕ). started (Some last.name) n) (get_or_push starts start 0 (length starts) refl)

-- the rows with one more activity
more_rows : (ids : List Name) (starts : List ℕ) (last : Name) (start : ℕ) → AllByRecursion (λ name. name.number ≤ length starts) ids
    → last.number ≡ length starts + 1
    → id_starts (ids ++ last ∷ []) (starts ++ start ∷ []) ≡ id_starts ids starts ++ record { id = last.name; start = start } ∷ []
more_rows ids starts last start few is =
    let n = length starts in
    let row : ℕ → List IdStart = id_start_at (ids ++ last ∷ []) (starts ++ start ∷ []) in
    let whole : length (starts ++ start ∷ []) ≡ suc n = omega (arith, length_push starts start) in
    let place : 0 + n ≡ n = omega arith in
    ap (λ (m : ℕ). flat_map row (range_with_len 0 m)) whole
    ∙ flat_more row 0 n
    ∙ ap (λ (rows : List IdStart). rows ++ row (0 + n))
    (flat_same row (id_start_at ids starts) 0 n (λ k low high. same_row ids starts last start k (omega (arith, high)) is))
    ∙ ap (λ (rows : List IdStart). id_starts ids starts ++ rows) (ap row place ∙ last_row ids starts last start few is)

-- the same as the program keeps them
pub pushed_row : (ids new : List NameLine) (starts later : List ℕ) (line : NameLine) (start : ℕ)
    → All (λ id. id.number ≤ length starts) ids → line.number ≡ length starts + 1
    → new ≡ ids ++ line ∷ [] → later ≡ starts ++ start ∷ []
    → id_starts (map name_of new) later ≡ id_starts (map name_of ids) starts ++ record { id = line.name.now; start = start } ∷ []
pushed_row ids new starts later line start few is named started =
    let numbers : AllByRecursion (λ (name : Name). name.number ≤ length starts) (map name_of ids) =
    recursion_from_All (λ (name : Name). name.number ≤ length starts) (map name_of ids)
    (All-map (λ (name : Name). name.number ≤ length starts) name_of ids few) in
    ap (λ (xs : List NameLine). id_starts (map name_of xs) later) named
    ∙ ap (λ (names : List Name). id_starts names later) (map-append name_of ids (line ∷ []))
    ∙ ap (λ (xs : List ℕ). id_starts (map name_of ids ++ name_of line ∷ []) xs) started
    ∙ more_rows (map name_of ids) starts (name_of line) start numbers is
