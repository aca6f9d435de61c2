-- The list of rectangles is within the limits of a project file, and its project has no cycle.
use Rattle.std.proofs.Common.{◌≡◌, ℕ, ◌+◌, ◌≤◌, ◌<◌, ◌++◌, Bool, true, false, List, [], ◌∷◌, length, map, get_or, refl, sym, ap, ◌∙◌, subst, arith, zero, suc, min, cond}
use Rattle.std.specs.Prelude.{All, codes, nat_le, not, slice_index}
use Rattle.std.specs.Char.{is_control}
use Rattle.std.specs.List.{AllByRecursion, list_all, list_any, range_with_len, sum_by}
use Rattle.std.specs.Str.{IsAscii, chars, is_utf8}
use Rattle.std.proofs.lemmas.Bool.{and_from, and_parts, false≢true, leb-true}
use Rattle.std.proofs.lemmas.Str.{IsUtf8-from_ascii, chars-IsAscii, is_utf8-from_IsUtf8}
use Rattle.std.proofs.lemmas.List.{length-map}
use Rattle.std.proofs.lemmas.List.Elements.{All-from_recursion}
use Rattle.std.proofs.lemmas.List.FromFn.{length-map-range_with_len}
use Rattle.std.proofs.lemmas.List.Sums.{sum_by-cons}
use Rattle.plan_net.specs.Limits.{IsSound}
use Rattle.plan_net.specs.Successors.{arcs_from, arcs_of_rows}
use Rattle.plan_net.proofs.SuccessorLemmas.{IsWithinLimits-rows}
use Rattle.plan_table.specs.Jobs.{Job, capacities_of, dummy, durations_of, follows, is_first, job_of, last_job_of, network_of, numbers_where, or_last, rows_of, successors_of, table_jobs}
use Rattle.plan_table.specs.Limits.{IsEntry, IsName, IsSupply, IsTable, IsWithinLimits, is_printable}
use Rattle.plan_table.specs.Numbered.{numbered}
use Rattle.plan_table.specs.Table.{Activity, Resource, Table, activity_of, resource_of, table_of}
use Rattle.plan_table.specs.declared.table.Activity as declared_activity
use Rattle.plan_table.specs.declared.table.Resource as declared_resource
use Rattle.plan_table.proofs.NetworkLemmas.{table_durations, table_rows, table_size}
use Rattle.plan_weeksheet.specs.Drawn.{are_few, are_small, drawn_need, is_drawable, list_of, row_of, supply_of}
use Rattle.plan_weeksheet.specs.Rectangles.{Rectangle}
use Rattle.plan_weeksheet.proofs.StarLemmas.{Rises, rising_acyclic}

-- ---- limits

ascii_name : IsAscii (codes "R")
ascii_name zero = omega arith
ascii_name (suc i) = omega arith

-- an ASCII text without control characters is printable
printable : (text : List ℕ) → IsAscii text → not (list_any is_control text) ≡ true → is_printable text ≡ true
printable text ascii plain =
    and_from (is_utf8 text) (not (list_any is_control (chars text))) (is_utf8-from_IsUtf8 text (IsUtf8-from_ascii text ascii))
    (ap (λ (cs : List ℕ). not (list_any is_control cs)) (chars-IsAscii text ascii) ∙ plain)

no_name : IsName []
no_name = record { short = omega arith; trimmed = refl; plain = refl; printable = printable [] (λ i. omega arith) refl }

resource_name : IsName (codes "R")
resource_name = record { short = omega arith; trimmed = refl; plain = refl; printable = printable (codes "R") ascii_name refl }

-- an amount of a list of small ones
pub small_at : (xs : List ℕ) (k : ℕ) → list_all (λ x. nat_le x 10000) xs ≡ true → slice_index xs k ≤ 10000
small_at [] k h = omega arith
small_at (x ∷ xs) zero h = leb-true x 10000 (and_parts (nat_le x 10000) _ h).0
small_at (x ∷ xs) (suc k) h = small_at xs k (and_parts (nat_le x 10000) _ h).1

small_needs : (capacities needs ks : List ℕ) → list_all (λ x. nat_le x 10000) capacities ≡ true
    → AllByRecursion (λ n. n ≤ 10000) (map (drawn_need capacities needs) ks)
small_needs capacities needs [] h = tt
small_needs capacities needs (k ∷ ks) h =
    let small = small_at capacities k h in
    (omega (arith, small), small_needs capacities needs ks h)

-- a rectangle as an entry of a list with n rows
entry : (n : ℕ) (capacities : List ℕ) (r : Rectangle) → list_all (λ x. nat_le x 10000) capacities ≡ true → is_drawable r ≡ true
    → IsEntry n (length capacities) (row_of capacities r)
entry n capacities r small drawable = record {
  name = no_name;
  duration = leb-true r.lasts 10000 (and_parts (nat_le r.lasts 10000) (nat_le r.from 10000000) drawable).0;
  predecessors = tt;
  whole = length-map-range_with_len _ 0 (length capacities);
  needs = small_needs capacities r.needs (range_with_len 0 (length capacities)) small;
}

entries : (n : ℕ) (capacities : List ℕ) (rs : List Rectangle) → list_all (λ x. nat_le x 10000) capacities ≡ true → list_all is_drawable rs ≡ true
    → AllByRecursion (IsEntry n (length capacities)) (map (row_of capacities) rs)
entries n capacities [] small drawable = tt
entries n capacities (r ∷ rs) small drawable =
    let both = and_parts (is_drawable r) (list_all is_drawable rs) drawable in
    (entry n capacities r small both.0, entries n capacities rs small both.1)

supplies : (capacities : List ℕ) → list_all (λ x. nat_le x 10000) capacities ≡ true → AllByRecursion IsSupply (map supply_of capacities)
supplies [] small = tt
supplies (c ∷ cs) small =
    let both = and_parts (nat_le c 10000) (list_all (λ x. nat_le x 10000) cs) small in (
      record { name = resource_name; named = omega arith; capacity = leb-true c 10000 both.0 },
      supplies cs both.1,
    )

total : (capacities : List ℕ) (rs : List Rectangle) → sum_by (λ (a : Activity). a.duration) (map (row_of capacities) rs) ≡ sum_by (λ (r : Rectangle). r.lasts) rs
total capacities [] = refl
total capacities (r ∷ rs) =
    let rest = total capacities rs in
    let left = sum_by-cons (λ (a : Activity). a.duration) (row_of capacities r) (map (row_of capacities) rs) in
    let right = sum_by-cons (λ (r : Rectangle). r.lasts) r rs in
    omega (arith, rest, left, right)

within : (capacities : List ℕ) (rs : List Rectangle) → are_few capacities rs ≡ true → are_small capacities rs ≡ true → IsWithinLimits (list_of capacities rs)
within capacities rs few small =
    let n : length (map (row_of capacities) rs) ≡ length rs = length-map rs (row_of capacities) in
    let k : length (map supply_of capacities) ≡ length capacities = length-map capacities supply_of in
    let counts = and_parts (nat_le (length rs) 500) (nat_le (length capacities) 16) few in
    let rows = leb-true (length rs) 500 counts.0 in
    let columns = leb-true (length capacities) 16 counts.1 in
    let first = and_parts (list_all (λ x. nat_le x 10000) capacities) _ small in
    let second = and_parts (list_all is_drawable rs) (nat_le (sum_by (λ (r : Rectangle). r.lasts) rs) 1000000) first.1 in
    let sums = leb-true (sum_by (λ (r : Rectangle). r.lasts) rs) 1000000 second.1 in
    let all = total capacities rs in
    record {
      rows = omega (arith, n, rows);
      columns = omega (arith, k, columns);
      activities = subst (λ m. AllByRecursion (IsEntry (length (map (row_of capacities) rs)) m) (map (row_of capacities) rs)) (sym k)
          (entries (length (map (row_of capacities) rs)) capacities rs first.0 second.0);
      ids = λ own. absurd (false≢true own);
      resources = supplies capacities first.0;
      total = omega (arith, all, sums);
    }

-- ---- arcs

all_append : {A : Type 0} (P : A → Type 0) (xs ys : List A) → AllByRecursion P xs → AllByRecursion P ys → AllByRecursion P (xs ++ ys)
all_append P [] ys first last = last
all_append P (x ∷ xs) ys first last = (first.0, all_append P xs ys first.1 last)

-- no rectangle is a successor of another one
none_follows : (capacities : List ℕ) (j n : ℕ) (rs : List Rectangle)
    → numbered (λ i a. cond (follows j a) (i ∷ []) []) n (map (row_of capacities) rs) ≡ []
none_follows capacities j n [] = refl
none_follows capacities j n (r ∷ rs) = none_follows capacities j (n + 1) rs

-- numbers from n on, from which arcs of activity 1 lead
firsts_rise : (n : ℕ) (activities : List Activity) → 2 ≤ n
    → AllByRecursion Rises (arcs_from 1 (numbered (λ j a. cond (is_first a) (j ∷ []) []) n activities))
firsts_rise n [] low = tt
firsts_rise n (a ∷ others) low = by_test (is_first a) (firsts_rise (n + 1) others (omega (arith, low)))
  where
    by_test : (b : Bool) → AllByRecursion Rises (arcs_from 1 (numbered (λ j a. cond (is_first a) (j ∷ []) []) (n + 1) others))
        → AllByRecursion Rises (arcs_from 1 (cond b (n ∷ []) [] ++ numbered (λ j a. cond (is_first a) (j ∷ []) []) (n + 1) others))
    by_test true rest = (omega (arith, low), rest)
    by_test false rest = rest

-- the only successor of a rectangle is the last dummy
last_rises : (capacities : List ℕ) (all : List Rectangle) (n : ℕ) → n < last_job_of (map (row_of capacities) all)
    → AllByRecursion Rises (arcs_from n (successors_of (map (row_of capacities) all) n))
last_rises capacities all n below =
    subst (λ (js : List ℕ). AllByRecursion Rises (arcs_from n (or_last (last_job_of (map (row_of capacities) all)) js)))
    (sym (none_follows capacities n 2 all)) (below, tt)

rows_rise : (capacities : List ℕ) (all : List Rectangle) (k n : ℕ) (rs : List Rectangle) → n + length rs ≤ last_job_of (map (row_of capacities) all)
    → AllByRecursion Rises (arcs_of_rows n (rows_of (numbered (λ j a. job_of (map (row_of capacities) all) j a ∷ []) n (map (row_of capacities) rs) ++ dummy [] k ∷ [])))
rows_rise capacities all k n [] fits = tt
rows_rise capacities all k n (r ∷ rs) fits =
    all_append Rises (arcs_from n (successors_of (map (row_of capacities) all) n)) _
    (last_rises capacities all n (omega (arith, fits)))
    (rows_rise capacities all k (n + 1) rs (omega (arith, fits)))

jobs_rise : (capacities : List ℕ) (rs : List Rectangle) → AllByRecursion Rises (arcs_of_rows 1 (rows_of (table_jobs (list_of capacities rs))))
jobs_rise capacities rs =
    let activities = map (row_of capacities) rs in
    let n : length activities ≡ length rs = length-map rs (row_of capacities) in
    all_append Rises (arcs_from 1 (numbers_where is_first activities)) _
    (firsts_rise 2 activities (omega arith))
    (rows_rise capacities rs (length (capacities_of (map supply_of capacities))) 2 rs (omega (arith, n)))

sound : (capacities : List ℕ) (rs : List Rectangle) → IsWithinLimits (list_of capacities rs) → IsSound (network_of (table_jobs (list_of capacities rs)))
sound capacities rs limits =
    let t = list_of capacities rs in
    record {
      limits = IsWithinLimits-rows (durations_of (table_jobs t)) (rows_of (table_jobs t)) (table_size t limits) (table_durations t limits) (table_rows t limits);
      acyclic = rising_acyclic (network_of (table_jobs t)) (All-from_recursion Rises (arcs_of_rows 1 (rows_of (table_jobs t))) (jobs_rise capacities rs));
    }

-- the list of rectangles within the limits
list_is_table : (capacities : List ℕ) (rs : List Rectangle) → are_few capacities rs ≡ true → are_small capacities rs ≡ true → IsTable (list_of capacities rs)
list_is_table capacities rs few small =
    let limits = within capacities rs few small in
    record { limits = limits; sound = sound capacities rs limits }

-- as the program keeps it
pub kept_is_table : (activities : List declared_activity.Activity) (resources : List declared_resource.Resource) (capacities : List ℕ) (rs : List Rectangle)
    → map activity_of activities ≡ map (row_of capacities) rs → map resource_of resources ≡ map supply_of capacities
    → are_few capacities rs ≡ true → are_small capacities rs ≡ true → IsTable (table_of false activities resources)
kept_is_table activities resources capacities rs rows supply few small =
    subst (λ (xs : List Activity). IsTable (record { own_ids = false; activities = xs; resources = map resource_of resources })) (sym rows)
    (subst (λ (ys : List Resource). IsTable (record { own_ids = false; activities = map (row_of capacities) rs; resources = ys })) (sym supply)
    (list_is_table capacities rs few small))
