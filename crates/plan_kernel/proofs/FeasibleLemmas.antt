-- The check of a list of starts.
use Rattle.std.proofs.Common.{◌≡◌, ◌∙◌, ℕ, ◌+◌, ◌-◌, ◌≤◌, ◌<◌, List, take, length, get_or, ap, subst, sym, arith}
use Rattle.std.specs.List.{All, sum_by}
use Rattle.std.proofs.lemmas.List.{take_all}
use Rattle.std.proofs.lemmas.List.Sums.{sum_by_more, sum_by_more_le}
use Rattle.std.proofs.lemmas.List.Elements.{All-more}
use Rattle.plan_sgs.specs.Problem.{Problem, count, capacity, total, greatest_below, KeepsArcs}
use Rattle.plan_sgs.proofs.StartLemmas.{usage_is, total_next, total_longer}
use Rattle.plan_kernel.specs.declared.input.Arc.{Arc}
use Rattle.plan_kernel.specs.declared.input.StartWindow.{StartWindow}
use Rattle.plan_kernel.specs.declared.input.Absence.{Absence}
use Rattle.plan_kernel.specs.declared.input.Input.{Input}
use Rattle.plan_kernel.proofs.InputLemmas.{arc_kept}
use Rattle.plan_kernel.specs.Inputs.{problem_of, KeepsArc, amount_at, end_of}
use Rattle.plan_kernel.specs.Plans.{KeepsWindow, absent, FitsFor, FitsAt, FitsAtStarts, FitsAtAbsences, reach_of, cost}

-- no arc in particular
abbrev pub no_arc : Arc
no_arc = record { from = 0; to = 0; lag = 0 }

-- the needs of all activities beside what is absent
pub fits_whole : (input : Input) (starts : List ℕ) (t k n used : ℕ) → length starts ≡ count (problem_of input) → n ≡ count (problem_of input)
    → used ≡ absent input t k + total n (amount_at (problem_of input) starts t k) → used ≤ capacity (problem_of input) k → FitsFor input starts t k
fits_whole input starts t k n used whole all sum small =
    let p = problem_of input in
    omega (arith, small, sum, ap (λ (m : ℕ). total m (amount_at p starts t k)) all, usage_is p starts t k whole)

-- the greatest end of all with its tail is the cost
pub greatest_whole : (input : Input) (starts : List ℕ) (n greatest : ℕ) → n ≡ count (problem_of input) → greatest ≡ greatest_below n (reach_of input starts)
    → greatest ≡ cost input starts
greatest_whole input starts n greatest all is = is ∙ ap (λ (m : ℕ). greatest_below m (reach_of input starts)) all

-- one arc more is kept
pub arc_more : (p : Problem) (starts : List ℕ) (items all : List Arc) (i end start : ℕ) → items ≡ all → i < length items → All (KeepsArc p starts) (take i all)
    → end ≡ end_of p starts (get_or items i no_arc).from → start ≡ get_or starts (get_or items i no_arc).to 0 → end + (get_or items i no_arc).lag ≤ start
    → All (KeepsArc p starts) (take (i + 1) all)
arc_more p starts items all i end start same inside before is_end is_start kept =
    subst (λ (xs : List Arc). All (KeepsArc p starts) (take i xs) → All (KeepsArc p starts) (take (i + 1) xs)) same
    (λ held. All-more (KeepsArc p starts) items i no_arc inside held (omega (arith, is_end, is_start, kept))) before

-- what one activity more needs isn't there
pub over_with : (input : Input) (starts : List ℕ) (t k i used more : ℕ) → length starts ≡ count (problem_of input) → i < count (problem_of input)
    → used ≡ absent input t k + total i (amount_at (problem_of input) starts t k) → more ≡ amount_at (problem_of input) starts t k i
    → used ≤ capacity (problem_of input) k → capacity (problem_of input) k - used < more → FitsFor input starts t k → ⊥
over_with input starts t k i used more whole inside sum is most over fits =
    let p = problem_of input in
    omega (arith, sum, is, most, over, fits, usage_is p starts t k whole, total_next i (amount_at p starts t k), total_longer (i + 1) (count p) (amount_at p starts t k) (omega (arith, inside)))

-- an arc that isn't kept
pub arc_broken : (input : Input) (starts : List ℕ) (items : List Arc) (i end start : ℕ) → items ≡ input.arcs.items → i < length items
    → end ≡ end_of (problem_of input) starts (get_or items i no_arc).from → start ≡ get_or starts (get_or items i no_arc).to 0
    → start < end + (get_or items i no_arc).lag → KeepsArcs (problem_of input) starts → ⊥
arc_broken input starts items i end start same inside is_end is_start broken kept =
    let within : i < length input.arcs.items = omega (arith, inside, ap length same) in
    let held : KeepsArc (problem_of input) starts (get_or items i no_arc) =
    subst (λ (xs : List Arc). KeepsArc (problem_of input) starts (get_or xs i no_arc)) (sym same) (arc_kept input starts i no_arc kept within) in
    omega (arith, held, is_end, is_start, broken)

-- no window in particular
abbrev pub no_window : StartWindow
no_window = record { activity = 0; earliest = 0; latest = 0 }

-- one window more is kept
pub window_more : (starts : List ℕ) (items all : List StartWindow) (i start : ℕ) → items ≡ all → i < length items → All (KeepsWindow starts) (take i all)
    → start ≡ get_or starts (get_or items i no_window).activity 0 → (get_or items i no_window).earliest ≤ start → start ≤ (get_or items i no_window).latest
    → All (KeepsWindow starts) (take (i + 1) all)
window_more starts items all i start same inside before is since until =
    subst (λ (xs : List StartWindow). All (KeepsWindow starts) (take i xs) → All (KeepsWindow starts) (take (i + 1) xs)) same
    (λ held. All-more (KeepsWindow starts) items i no_window inside held (omega (arith, is, since), omega (arith, is, until))) before

-- a window that is kept, if all are
pub window_kept : (starts : List ℕ) (items all : List StartWindow) (i start : ℕ) → items ≡ all → i < length items → All (KeepsWindow starts) all
    → start ≡ get_or starts (get_or items i no_window).activity 0 → ((get_or items i no_window).earliest ≤ start) × (start ≤ (get_or items i no_window).latest)
window_kept starts items all i start same inside kept is =
    let held : All (KeepsWindow starts) items = subst (λ (xs : List StartWindow). All (KeepsWindow starts) xs) (sym same) kept in
    let here : KeepsWindow starts (get_or items i no_window) = held i no_window inside in
    (omega (arith, here.0, is), omega (arith, here.1, is))

-- no absence in particular
abbrev pub no_absence : Absence
no_absence = record { resource = 0; from = 0; until = 0; amount = 0 }

-- what one absence more takes
pub absent_more : (f : Absence → ℕ) (items all : List Absence) (i sum more : ℕ) → items ≡ all → i < length items → sum ≡ sum_by f (take i all)
    → more ≡ f (get_or items i no_absence) → sum + more ≡ sum_by f (take (i + 1) all)
absent_more f items all i sum more same inside before is =
    let step : sum_by f (take (i + 1) items) ≡ sum_by f (take i items) + f (get_or items i no_absence) = sum_by_more f items i no_absence inside in
    omega (arith, before, is, step, ap (λ (xs : List Absence). sum_by f (take i xs)) same, ap (λ (xs : List Absence). sum_by f (take (i + 1) xs)) same)

-- more is absent than there is
pub absent_above : (f : Absence → ℕ) (items all : List Absence) (i sum more limit : ℕ) → items ≡ all → i < length items → sum ≡ sum_by f (take i all)
    → more ≡ f (get_or items i no_absence) → sum ≤ limit → limit - sum < more → limit < sum_by f all
absent_above f items all i sum more limit same inside before is most over =
    let whole : sum_by f (take i items) + f (get_or items i no_absence) ≤ sum_by f items = sum_by_more_le f items i no_absence inside in
    omega (arith, before, is, most, over, whole, ap (λ (xs : List Absence). sum_by f (take i xs)) same, ap (λ (xs : List Absence). sum_by f xs) same)

-- what all absences take
pub absent_whole : (f : Absence → ℕ) (all : List Absence) (i sum : ℕ) → length all ≤ i → sum ≡ sum_by f (take i all) → sum ≡ sum_by f all
absent_whole f all i sum whole is = is ∙ ap (λ (xs : List Absence). sum_by f xs) (take_all i all whole)

-- one start more at which all fits
pub start_more : (input : Input) (starts : List ℕ) (i : ℕ) → i < length starts → All (FitsAt input starts) (take i starts) → FitsAt input starts (get_or starts i 0)
    → All (FitsAt input starts) (take (i + 1) starts)
start_more input starts i inside before here = All-more (FitsAt input starts) starts i 0 inside before here

-- all starts
pub starts_whole : (input : Input) (starts : List ℕ) (i : ℕ) → length starts ≤ i → All (FitsAt input starts) (take i starts) → FitsAtStarts input starts
starts_whole input starts i whole all = subst (λ (xs : List ℕ). All (FitsAt input starts) xs) (take_all i starts whole) all

-- one absence more where all fits
pub begin_more : (input : Input) (starts : List ℕ) (items : List Absence) (i : ℕ) → items ≡ input.absences.items → i < length items
    → All (λ a. FitsAt input starts a.from) (take i input.absences.items) → FitsAt input starts (get_or items i no_absence).from
    → All (λ a. FitsAt input starts a.from) (take (i + 1) input.absences.items)
begin_more input starts items i same inside before here =
    let P : Absence → Type 0 = λ a. FitsAt input starts a.from in
    subst (λ (xs : List Absence). All P (take i xs) → All P (take (i + 1) xs)) same
    (λ held. All-more P items i no_absence inside held here) before

-- all absences
pub begins_whole : (input : Input) (starts : List ℕ) (i : ℕ) → length input.absences.items ≤ i → All (λ a. FitsAt input starts a.from) (take i input.absences.items)
    → FitsAtAbsences input starts
begins_whole input starts i whole all =
    let P : Absence → Type 0 = λ a. FitsAt input starts a.from in
    subst (λ (xs : List Absence). All P xs) (take_all i input.absences.items whole) all
