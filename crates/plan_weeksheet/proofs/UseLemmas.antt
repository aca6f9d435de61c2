-- The use that the rectangles of a plan draw is the needs and the absences together.
use Rattle.std.proofs.Common.{◌≡◌, ℕ, ◌+◌, ◌-◌, ◌≤◌, ◌<◌, ◌&&◌, ◌⊎◌, ◌++◌, Bool, true, false, inl, inr, List, [], ◌∷◌, length, map, flat_map, get_or, min}
use Rattle.std.proofs.Common.{nat_eq, nat_le, nat_lt, cond, refl, sym, ap, ◌∙◌, subst, arith, zero, suc, append-nil}
use Rattle.std.specs.Prelude.{slice_index}
use Rattle.std.specs.List.{range_with_len, sum_by}
use Rattle.std.proofs.lemmas.Bool.{and_left, and_right, cases_eq, cases_lt, cond-false, eq-eqb, le-leb, le-ltb, lt-leb, lt-ltb, ne_eqb}
use Rattle.std.proofs.lemmas.List.Concat.{flat_map-append}
use Rattle.std.proofs.lemmas.List.FromFn.{get_or-map-range_with_len}
use Rattle.std.proofs.lemmas.List.Sums.{sum_by-append, sum_by-cons}
use Rattle.plan_kernel.specs.declared.input.Absence.{Absence}
use Rattle.plan_kernel.specs.Plans.{taken_by}
use Rattle.plan_sgs.specs.Problem.{count, need, total}
use Rattle.plan_views.specs.LinkColumns.{Links}
use Rattle.plan_week.specs.declared.week.State.{State}
use Rattle.plan_week.specs.declared.week.State.TheVariants.{Open, Begun, Done}
use Rattle.plan_week.specs.declared.week.Week.{Week}
use Rattle.plan_week.specs.Weeks.{IsWeekPlan, KeepsState, end_of, missing, needed, needed_by, project_of, rest, rest_of, state_of}
use Rattle.plan_weekfile.specs.Links.{needs_at}
use Rattle.plan_weeklist.specs.declared.listed.ListedWeek.{ListedWeek}
use Rattle.plan_weeks.specs.WeekTables.{places}
use Rattle.plan_weeks.specs.declared.planning.WeekPlan.{WeekPlan}
use Rattle.plan_weekview.specs.WeekDays.{begin_of}
use Rattle.plan_weeksheet.specs.Rectangles.{Rectangle}
use Rattle.plan_weeksheet.specs.Uses.{DrawsUse, drawn_use, takes}
use Rattle.plan_weeksheet.specs.WeekRectangles.{absence_part, absence_rectangle, absence_rectangles, activity_rectangle, activity_rectangles, missing_amount}
use Rattle.plan_weeksheet.specs.WeekRectangles.{missing_amounts, rectangle_at, rectangle_if, week_rectangles}
use Rattle.plan_weeksheet.proofs.StepLemmas.{range_more}

-- ---- sums

-- the sum over one rectangle
alone : (f : Rectangle → ℕ) (r : Rectangle) → sum_by f (r ∷ []) ≡ f r
alone f r =
    let first = sum_by-cons f r [] in
    let none : sum_by f [] ≡ 0 = refl in
    omega (arith, first, none)

-- the sum over the rectangles of all activities
sums_total : (f : Rectangle → ℕ) (g : ℕ → List Rectangle) (h : ℕ → ℕ) (n : ℕ) → ((i : ℕ) → i < n → sum_by f (g i) ≡ h i)
    → sum_by f (flat_map g (range_with_len 0 n)) ≡ total n h
sums_total f g h zero each = refl
sums_total f g h (suc n) each =
    let place : suc n ≡ n + 1 = omega arith in
    let whole : sum_by f (flat_map g (range_with_len 0 (suc n))) ≡ sum_by f (flat_map g (range_with_len 0 n)) + sum_by f (g n ++ []) =
    ap (λ ns. sum_by f (flat_map g ns)) (ap (range_with_len 0) place ∙ range_more n)
    ∙ ap (sum_by f) (flat_map-append g (range_with_len 0 n) (n ∷ []))
    ∙ sum_by-append f (flat_map g (range_with_len 0 n)) (g n ++ []) in
    let last : sum_by f (g n ++ []) ≡ sum_by f (g n) = ap (sum_by f) (append-nil (g n)) in
    let before = sums_total f g h n (λ i below. each i (omega (arith, below))) in
    let this = each n (omega arith) in
    omega (arith, whole, last, before, this)

-- ---- activities

-- at an instant from its start on, an activity takes as much from an earlier begin on
same_taken : (from start t ends a : ℕ) → from ≤ start → start ≤ ends → (start ≤ t) ⊎ (from ≡ start)
    → cond (nat_le from t && nat_lt t (from + (ends - from))) a 0 ≡ cond (nat_le start t && nat_lt t ends) a 0
same_taken from start t ends a early late (inl over) =
    let whole : from + (ends - from) ≡ ends = omega (arith, early, late) in
    ap (λ e. cond (nat_le from t && nat_lt t e) a 0) whole
    ∙ ap (λ b. cond (b && nat_lt t ends) a 0) (le-leb from t (omega (arith, early, over)) ∙ sym (le-leb start t over))
same_taken from start t ends a early late (inr same) =
    let whole : from + (ends - from) ≡ ends = omega (arith, early, late) in
    ap (λ e. cond (nat_le from t && nat_lt t e) a 0) whole ∙ ap (λ b. cond (nat_le b t && nat_lt t ends) a 0) same

-- nothing is taken in no time
none_taken : (start t ends a : ℕ) → ends ≤ start → cond (nat_le start t && nat_lt t ends) a 0 ≡ 0
none_taken start t ends a none =
    cond-false (nat_le start t && nat_lt t ends) a 0 (by_case (cases_lt t start))
  where
    by_case : (t < start) ⊎ (start ≤ t) → (nat_le start t && nat_lt t ends) ≡ false
    by_case (inl before) = and_left (nat_le start t) (nat_lt t ends) (lt-leb start t before)
    by_case (inr behind) = and_right (nat_le start t) (nat_lt t ends) (le-ltb t ends (omega (arith, none, behind)))

-- an activity by its state
by_state : (listed : ListedWeek) (links : List Links) (t k i start : ℕ) (s : State) (lasts : ℕ) → KeepsState listed.week.today start s → listed.week.today ≤ t
    → sum_by (takes t k) (rectangle_if listed links i (begin_of s start) start (start + rest lasts s))
    ≡ cond (nat_le start t && nat_lt t (start + rest lasts s)) (slice_index (needs_at listed.week i) k) 0
by_state listed links t k i start (Open earliest fixed) lasts keeps later =
    alone (takes t k) (rectangle_at listed links i (min start start) (start + lasts))
    ∙ same_taken (min start start) start t (start + lasts) (slice_index (needs_at listed.week i) k) (omega arith) (omega arith) (inr (omega arith))
by_state listed links t k i start (Begun began remaining) lasts keeps later =
    alone (takes t k) (rectangle_at listed links i (min began start) (start + remaining))
    ∙ same_taken (min began start) start t (start + remaining) (slice_index (needs_at listed.week i) k) (omega arith) (omega arith) (inl (omega (arith, keeps, later)))
by_state listed links t k i start (Done ended) lasts keeps later =
    sym (none_taken start t (start + 0) (slice_index (needs_at listed.week i) k) (omega arith))

-- one activity
one_activity : (listed : ListedWeek) (links : List Links) (starts : List ℕ) (t k i : ℕ)
    → KeepsState listed.week.today (get_or starts i 0) (state_of listed.week i) → listed.week.today ≤ t
    → sum_by (takes t k) (activity_rectangle listed links starts i) ≡ needed_by listed.week starts t k i
unfolding project_of
one_activity listed links starts t k i keeps later =
    by_state listed links t k i (get_or starts i 0) (state_of listed.week i) (get_or listed.week.durations.items i 0) keeps later

-- all activities
activities_use : (listed : ListedWeek) (links : List Links) (starts : List ℕ) (t k : ℕ) → IsWeekPlan listed.week starts → listed.week.today ≤ t
    → drawn_use (activity_rectangles listed links starts) t k ≡ needed listed.week starts t k
unfolding project_of
activities_use listed links starts t k plan later =
    sums_total (takes t k) (activity_rectangle listed links starts) (needed_by listed.week starts t k) (length listed.week.durations.items)
    (λ i below. one_activity listed links starts t k i (plan.states i below) later)

-- ---- absences

-- the part before an instant m takes as much until then
same_part : (from until m t : ℕ) → t < m
    → (nat_le from t && nat_lt t (from + (min until m - from))) ≡ (nat_le from t && nat_lt t until)
same_part from until m t before = by_begin (cases_lt t from)
  where
    by_end : from ≤ t → (t < until) ⊎ (until ≤ t) → nat_lt t (from + (min until m - from)) ≡ nat_lt t until
    by_end begun (inl lasts) = lt-ltb t _ (omega (arith, before, begun, lasts)) ∙ sym (lt-ltb t until lasts)
    by_end begun (inr over) = le-ltb t _ (omega (arith, before, begun, over)) ∙ sym (le-ltb t until over)

    by_begin : (t < from) ⊎ (from ≤ t) → (nat_le from t && nat_lt t (from + (min until m - from))) ≡ (nat_le from t && nat_lt t until)
    by_begin (inl early) =
        and_left (nat_le from t) _ (lt-leb from t early) ∙ sym (and_left (nat_le from t) (nat_lt t until) (lt-leb from t early))
    by_begin (inr begun) = ap (λ b. nat_le from t && b) (by_end begun (cases_lt t until))

-- the order of compared numbers doesn't matter
same_eq : (a b : ℕ) → nat_eq a b ≡ nat_eq b a
same_eq a b = by_case (cases_eq a b)
  where
    by_case : (a ≡ b) ⊎ (a ≡ b → ⊥) → nat_eq a b ≡ nat_eq b a
    by_case (inl same) = eq-eqb a b same ∙ sym (eq-eqb b a (sym same))
    by_case (inr other) = ne_eqb a b other ∙ sym (ne_eqb b a (λ same. other (sym same)))

-- a test inside another one
both_tests : (x y : Bool) (v : ℕ) → cond y (cond x v 0) 0 ≡ cond (x && y) v 0
both_tests true y v = refl
both_tests false true v = refl
both_tests false false v = refl

-- the part of an absence before the end of a plan
part_taken : (n m t k : ℕ) (a : Absence) → t < m → k < n → sum_by (takes t k) (absence_part n m a ∷ []) ≡ taken_by t k a
part_taken n m t k a before inside =
    alone (takes t k) (absence_part n m a)
    ∙ ap (λ x. cond (nat_le a.from t && nat_lt t (a.from + (min a.until m - a.from))) x 0)
    (get_or-map-range_with_len (missing_amount a) 0 n k k 0 inside (omega arith))
    ∙ ap (λ b. cond b (missing_amount a k) 0) (same_part a.from a.until m t before)
    ∙ ap (λ b. cond (nat_le a.from t && nat_lt t a.until) (cond b a.amount 0) 0) (same_eq k a.resource)
    ∙ both_tests (nat_eq a.resource k) (nat_le a.from t && nat_lt t a.until) a.amount

-- nothing of one that begins later
later_taken : (m t k : ℕ) (a : Absence) → t < m → m ≤ a.from → 0 ≡ taken_by t k a
later_taken m t k a before later =
    sym (cond-false (nat_eq a.resource k && (nat_le a.from t && nat_lt t a.until)) a.amount 0
    (and_right (nat_eq a.resource k) (nat_le a.from t && nat_lt t a.until)
    (and_left (nat_le a.from t) (nat_lt t a.until) (lt-leb a.from t (omega (arith, before, later))))))

-- one absence, by whether it begins before the end of a plan
by_begin : (n m t k : ℕ) (a : Absence) → t < m → k < n → (a.from < m) ⊎ (m ≤ a.from)
    → sum_by (takes t k) (absence_rectangle n m a) ≡ taken_by t k a
by_begin n m t k a before inside (inl begins) =
    ap (λ b. sum_by (takes t k) (cond b (absence_part n m a ∷ []) [])) (lt-ltb a.from m begins) ∙ part_taken n m t k a before inside
by_begin n m t k a before inside (inr later) =
    ap (λ b. sum_by (takes t k) (cond b (absence_part n m a ∷ []) [])) (le-ltb a.from m later) ∙ later_taken m t k a before later

one_absence : (n m t k : ℕ) (a : Absence) → t < m → k < n → sum_by (takes t k) (absence_rectangle n m a) ≡ taken_by t k a
one_absence n m t k a before inside = by_begin n m t k a before inside (cases_lt a.from m)

-- all absences
absences_use : (n m t k : ℕ) (absences : List Absence) → t < m → k < n
    → sum_by (takes t k) (flat_map (absence_rectangle n m) absences) ≡ sum_by (taken_by t k) absences
absences_use n m t k [] before inside = refl
absences_use n m t k (a ∷ others) before inside =
    let first = one_absence n m t k a before inside in
    let rest = absences_use n m t k others before inside in
    let left = sum_by-append (takes t k) (absence_rectangle n m a) (flat_map (absence_rectangle n m) others) in
    let right = sum_by-cons (taken_by t k) a others in
    omega (arith, first, rest, left, right)

pub draws_use : DrawsUse
unfolding DrawsUse project_of
draws_use listed links p t k plan later before inside =
    sum_by-append (takes t k) (activity_rectangles listed links p.starts.items) (absence_rectangles listed p.makespan)
    ∙ ap (λ x. x + sum_by (takes t k) (absence_rectangles listed p.makespan)) (activities_use listed links p.starts.items t k plan later)
    ∙ ap (λ y. needed listed.week p.starts.items t k + y)
    (absences_use (length listed.week.capacities.items) p.makespan t k listed.week.absences.items before inside)
