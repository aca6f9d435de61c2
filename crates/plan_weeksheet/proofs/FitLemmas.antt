-- The needs that are drawn fit the capacities, and the starts are those of a chart.
use Rattle.std.proofs.Common.{◌≡◌, ℕ, ◌+◌, ◌≤◌, ◌<◌, ◌++◌, Bool, true, List, [], ◌∷◌, length, map, get_or, refl, sym, ap, ◌∙◌, subst, arith, zero, suc, min, replicate}
use Rattle.std.specs.Prelude.{nat_le, slice_index}
use Rattle.std.specs.List.{AllByRecursion, list_all, range_with_len}
use Rattle.std.proofs.lemmas.Bool.{and_parts, leb-true}
use Rattle.std.proofs.lemmas.List.{length-map}
use Rattle.plan_sgs.specs.Instances.{problem_of}
use Rattle.plan_sgs.specs.Problem.{NeedsFit}
use Rattle.plan_table.specs.Jobs.{Job, capacities_of, dummy, durations_of, is_first, job_of, numbers_where, or_zero, table_jobs}
use Rattle.plan_table.specs.Numbered.{numbered}
use Rattle.plan_table.specs.Table.{Activity, Resource}
use Rattle.plan_table.proofs.JobLemmas.{jobs_count}
use Rattle.plan_weeksheet.specs.Drawn.{drawn_capacities, drawn_need, drawn_needs, drawn_project, drawn_starts, is_drawable, is_within, latest, list_of, row_of, supply_of}
use Rattle.plan_weeksheet.specs.Rectangles.{Rectangle}

-- ---- needs

-- a row of needs fits capacities
abbrev pub Fits : List ℕ → List ℕ → Type 0
Fits capacities needs = (k : ℕ) → get_or needs k 0 ≤ get_or capacities k 0

zeros_fit : (capacities : List ℕ) (n : ℕ) → Fits capacities (replicate n 0)
zeros_fit capacities zero k = omega arith
zeros_fit capacities (suc n) zero = omega arith
zeros_fit [] (suc n) (suc k) = let rest = zeros_fit [] n k in omega (arith, rest)
zeros_fit (c ∷ cs) (suc n) (suc k) = zeros_fit cs n k

-- amounts of which each is at most a capacity, from place a on
least_fit : (needs capacities : List ℕ) (a n k : ℕ)
    → get_or (map (drawn_need capacities needs) (range_with_len a n)) k 0 ≤ slice_index capacities (a + k)
least_fit needs capacities a zero k = omega arith
least_fit needs capacities a (suc n) zero =
    let place : a + 0 ≡ a = omega arith in
    subst (λ j. min (slice_index needs a) (slice_index capacities a) ≤ slice_index capacities j) (sym place) (omega arith)
least_fit needs capacities a (suc n) (suc k) =
    let place : a + 1 + k ≡ a + suc k = omega arith in
    subst (λ j. get_or (map (drawn_need capacities needs) (range_with_len (a + 1) n)) k 0 ≤ slice_index capacities j)
    place (least_fit needs capacities (a + 1) n k)

same_capacities : (capacities : List ℕ) → map (λ (r : Resource). r.capacity) (map supply_of capacities) ≡ capacities
same_capacities [] = refl
same_capacities (c ∷ cs) = ap (λ xs. c ∷ xs) (same_capacities cs)

drawn_fit : (capacities needs : List ℕ) → Fits (drawn_capacities capacities) (or_zero (drawn_needs capacities needs))
drawn_fit [] needs k = omega arith
drawn_fit (c ∷ cs) needs k =
    let place : 0 + k ≡ k = omega arith in
    let here = least_fit needs (c ∷ cs) 0 (length (c ∷ cs)) k in
    subst (λ (xs : List ℕ). get_or (drawn_needs (c ∷ cs) needs) k 0 ≤ get_or (c ∷ xs) k 0) (sym (same_capacities cs))
    (subst (λ j. get_or (drawn_needs (c ∷ cs) needs) k 0 ≤ slice_index (c ∷ cs) j) place here)

rows_fit : (capacities : List ℕ) (all : List Activity) (n m : ℕ) (rs : List Rectangle)
    → AllByRecursion (Fits (drawn_capacities capacities))
    (map (λ (job : Job). job.needs) (numbered (λ j a. job_of all j a ∷ []) n (map (row_of capacities) rs) ++ dummy [] m ∷ []))
rows_fit capacities all n m [] = (zeros_fit (drawn_capacities capacities) m, tt)
rows_fit capacities all n m (r ∷ rs) = (drawn_fit capacities r.needs, rows_fit capacities all (n + 1) m rs)

all_fit : (capacities : List ℕ) (rs : List Rectangle)
    → AllByRecursion (Fits (drawn_capacities capacities)) (map (λ (job : Job). job.needs) (table_jobs (list_of capacities rs)))
all_fit capacities rs =
    let m = length (capacities_of (map supply_of capacities)) in
    (zeros_fit (drawn_capacities capacities) m, rows_fit capacities (map (row_of capacities) rs) 2 m rs)

fit_at : (capacities : List ℕ) (rows : List (List ℕ)) (i : ℕ) → AllByRecursion (Fits capacities) rows → Fits capacities (get_or rows i [])
fit_at capacities [] i h = λ k. omega arith
fit_at capacities (row ∷ rows) zero h = h.0
fit_at capacities (row ∷ rows) (suc i) h = fit_at capacities rows i h.1

-- the needs that are drawn
pub needs_fit : (capacities : List ℕ) (rs : List Rectangle) → NeedsFit (problem_of (drawn_project capacities rs))
unfolding problem_of
needs_fit capacities rs i k inside takes kind =
    fit_at (drawn_capacities capacities) (map (λ (job : Job). job.needs) (table_jobs (list_of capacities rs))) i (all_fit capacities rs) k

-- ---- starts

from_small : (rs : List Rectangle) (makespan k : ℕ) → list_all is_drawable rs ≡ true → makespan ≤ latest
    → get_or (map (λ (r : Rectangle). r.from) rs ++ makespan ∷ []) k 0 ≤ latest
from_small [] makespan zero drawable small = small
from_small [] makespan (suc k) drawable small = omega arith
from_small (r ∷ rs) makespan zero drawable small =
    let first = (and_parts (is_drawable r) (list_all is_drawable rs) drawable).0 in
    leb-true r.from latest (and_parts (nat_le r.lasts 10000) (nat_le r.from latest) first).1
from_small (r ∷ rs) makespan (suc k) drawable small =
    from_small rs makespan k (and_parts (is_drawable r) (list_all is_drawable rs) drawable).1 small

-- each start is early enough for a chart
pub starts_small : (capacities : List ℕ) (rs : List Rectangle) (makespan k : ℕ) → is_within capacities rs makespan ≡ true
    → slice_index (drawn_starts rs makespan) k ≤ latest
starts_small capacities rs makespan zero is = omega arith
starts_small capacities rs makespan (suc k) is =
    let behind = (and_parts _ _ is).1 in
    let both = and_parts _ (nat_le makespan latest) behind in
    let small = (and_parts (list_all (λ c. nat_le c 10000) capacities) _ both.0).1 in
    from_small rs makespan k (and_parts (list_all is_drawable rs) _ small).0 (leb-true makespan latest both.1)

behind_count : (rs : List Rectangle) (makespan : ℕ) → length (map (λ (r : Rectangle). r.from) rs ++ makespan ∷ []) ≡ length rs + 1
behind_count [] makespan = refl
behind_count (r ∷ rs) makespan = let rest = behind_count rs makespan in omega (arith, rest)

-- there is a start for each activity
pub starts_count : (capacities : List ℕ) (rs : List Rectangle) (makespan : ℕ)
    → length (drawn_starts rs makespan) ≡ length (durations_of (table_jobs (list_of capacities rs)))
starts_count capacities rs makespan =
    let jobs = table_jobs (list_of capacities rs) in
    let n : length (durations_of jobs) ≡ length jobs = length-map jobs (λ job. job.duration) in
    let m = jobs_count (map (row_of capacities) rs) (length (capacities_of (map supply_of capacities))) in
    let rows : length (map (row_of capacities) rs) ≡ length rs = length-map rs (row_of capacities) in
    let starts = behind_count rs makespan in
    omega (arith, n, m, rows, starts)

-- with a resource the capacities stay as they are
pub some_capacities : (capacities : List ℕ) → 1 ≤ length capacities → drawn_capacities capacities ≡ capacities
some_capacities [] some = absurd (omega (arith, some))
some_capacities (c ∷ cs) some = ap (λ xs. c ∷ xs) (same_capacities cs)
