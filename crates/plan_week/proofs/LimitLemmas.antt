-- A week that has a plan has one that ends by its limit: while a plan is longer, there is an
-- instant behind all dates at which no activity is in progress. All later ones can start one
-- instant earlier.
use Rattle.std.proofs.Common.{◌≡◌, ◌≢◌, ◌∙◌, ℕ, zero, suc, ◌+◌, ◌-◌, ◌≤◌, ◌<◌, ◌&&◌, ◌⊎◌, max, min, inl, inr, true, List, [], ◌∷◌, Some, None, cond, nat_le}
use Rattle.std.proofs.Common.{nat_lt, map, length, get_or, refl, sym, ap, subst, arith}
use Rattle.std.specs.List.{All, sum_by}
use Rattle.std.proofs.lemmas.Bool.{cases_lt, cases_eq, cond-true, cond-false, and_from, and_left, and_right, le-leb, lt-leb, lt-ltb, le-ltb}
use Rattle.std.proofs.lemmas.List.{get_or-map, get_or_past, length-map}
use Rattle.std.proofs.lemmas.List.Sums.{sum_by-cons, sum_by_more_le}
use Rattle.plan_sgs.specs.Problem.{count, need, capacity, total, greatest_below}
use Rattle.plan_sgs.proofs.TotalLemmas.{total_same, total_none, total_plus, total_grows, total_above, greatest_above, greatest_reached}
use Rattle.plan_kernel.specs.declared.input.Arc.{Arc}
use Rattle.plan_kernel.specs.declared.input.Absence.{Absence}
use Rattle.plan_kernel.specs.Plans.{taken_by}
use Rattle.plan_kernel.proofs.PlanLemmas.{taken_late}
use Rattle.plan_week.specs.declared.week.State.{State}
use Rattle.plan_week.specs.declared.week.State.TheVariants.{Open, Begun, Done}
use Rattle.plan_week.specs.declared.week.Week.{Week}
use Rattle.plan_week.specs.Weeks.{project_of, state_of, rest_of, KeepsState, end_of, KeepsArc, needed_by, needed, missing, no_absence, IsWeekPlan, makespan_of}
use Rattle.plan_week.specs.WeekAnswers.{awaited_by, latest_awaited, latest_return, limit_of, LimitsAreEnough}
use Rattle.plan_week.proofs.WeekLemmas.{project_count, past_rest}

-- 1 from an instant on, before another
covers : ℕ → ℕ → ℕ → ℕ
covers from until t = cond (nat_le from t && nat_lt t until) 1 0

covers_inside : (from until t : ℕ) → from ≤ t → t < until → covers from until t ≡ 1
unfolding covers
covers_inside from until t since before = cond-true (nat_le from t && nat_lt t until) 1 0 (and_from (nat_le from t) (nat_lt t until) (le-leb from t since) (lt-ltb t until before))

covers_before : (from until t : ℕ) → t < from → covers from until t ≡ 0
unfolding covers
covers_before from until t early = cond-false (nat_le from t && nat_lt t until) 1 0 (and_left (nat_le from t) (nat_lt t until) (lt-leb from t early))

covers_behind : (from until t : ℕ) → until ≤ t → covers from until t ≡ 0
unfolding covers
covers_behind from until t late = cond-false (nat_le from t && nat_lt t until) 1 0 (and_right (nat_le from t) (nat_lt t until) (le-ltb t until late))

uncovered : (from until t : ℕ) → covers from until t ≡ 0 → (t < from) ⊎ (until ≤ t)
uncovered from until t none = elim (cases_lt t from) [
  | inl early ↦ inl early
  | inr since ↦ elim (cases_lt t until) [
    | inr late ↦ inr late
    | inl before ↦ absurd (omega (arith, none, covers_inside from until t since before))
  ]
]

-- a span covers no more instants than it has
span_total : (from long base m : ℕ) → total m (λ j. covers from (from + long) (base + j)) ≤ min (base + m - from) long
span_total from long base zero = omega arith
span_total from long base (suc m) = elim (cases_lt (base + m) from) [
  | inl early ↦ omega (arith, span_total from long base m, covers_before from (from + long) (base + m) early)
  | inr since ↦ elim (cases_lt (base + m) (from + long)) [
    | inl before ↦ omega (arith, since, before, span_total from long base m, covers_inside from (from + long) (base + m) since before)
    | inr late ↦ omega (arith, span_total from long base m, covers_behind from (from + long) (base + m) late)
  ]
]

-- sums of sums in the other order
total_exchange : (m n : ℕ) (g : ℕ → ℕ → ℕ) → total m (λ j. total n (λ i. g i j)) ≡ total n (λ i. total m (g i))
total_exchange zero n g = sym (total_none n (λ i. 0) (λ i inside. refl))
total_exchange (suc m) n g = omega (arith, total_exchange m n g, total_plus n (λ i. total m (g i)) (λ i. g i m))

-- the spans of arcs cover no more instants than their lags
lags_total : (m : ℕ) (h : Arc → ℕ → ℕ) (xs : List Arc) → ((a : Arc) → total m (h a) ≤ a.lag) → total m (λ j. sum_by (λ a. h a j) xs) ≤ sum_by (λ a. a.lag) xs
lags_total m h [] most = omega (arith, total_none m (λ j. 0) (λ j inside. refl))
lags_total m h (a ∷ xs) most =
    let split : total m (λ j. sum_by (λ b. h b j) (a ∷ xs)) ≡ total m (λ j. h a j + sum_by (λ b. h b j) xs) =
    total_same m (λ j. sum_by (λ b. h b j) (a ∷ xs)) (λ j. h a j + sum_by (λ b. h b j) xs) (λ j inside. sum_by-cons (λ b. h b j) a xs) in
    omega (
      arith,
      split,
      total_plus m (h a) (λ j. sum_by (λ b. h b j) xs),
      most a,
      lags_total m h xs most,
      sum_by-cons (λ (b : Arc). b.lag) a xs,
    )

-- if a sum has less than one for each number, one of its terms is 0
one_none : (m : ℕ) (f : ℕ → ℕ) → total m f < m → (j : ℕ) × (j < m) × (f j ≡ 0)
one_none zero f short = absurd (omega (arith, short))
one_none (suc m) f short = elim (cases_eq (f m) 0) [
  | inl none ↦ (m, omega arith, none)
  | inr some ↦ let before = one_none m f (omega (arith, short, some)) in (before.0, omega (arith, before.1), before.2)
]

-- a sum is less if no term is greater and one is less
total_less : (n : ℕ) (f g : ℕ → ℕ) (j : ℕ) → j < n → ((i : ℕ) → i < n → f i ≤ g i) → f j < g j → total n f < total n g
total_less zero f g j inside most less = absurd (omega (arith, inside))
total_less (suc n) f g j inside most less = elim (cases_eq j n) [
  | inl same ↦ omega (arith, total_grows n f g (λ i below. most i (omega (arith, below))), ap f same, ap g same, less)
  | inr other ↦ omega (arith, total_less n f g j (omega (arith, inside, other)) (λ i below. most i (omega (arith, below))) less, most n (omega arith))
]

-- the activities and lags that go on at an instant
busy : Week → List ℕ → ℕ → ℕ
busy week starts t =
    total (count (project_of week)) (λ i. covers (get_or starts i 0) (end_of week starts i) t)
    + sum_by (λ a. covers (end_of week starts a.from) (end_of week starts a.from + a.lag) t) week.arcs.items

-- the latest date of a week
settled : Week → ℕ
settled week = max week.today (max (latest_awaited week) (latest_return week))

-- the total of the remaining durations and the lags
work : Week → ℕ
work week = total (count (project_of week)) (rest_of week) + sum_by (λ (a : Arc). a.lag) week.arcs.items

limit_is : (week : Week) → limit_of week ≡ settled week + work week
unfolding settled work
limit_is week = refl

-- all together they cover no more instants than that
busy_total : (week : Week) (starts : List ℕ) (base m : ℕ) → total m (λ j. busy week starts (base + j)) ≤ work week
unfolding busy work
busy_total week starts base m =
    let n : ℕ = count (project_of week) in
    let g : ℕ → ℕ → ℕ = λ i j. covers (get_or starts i 0) (end_of week starts i) (base + j) in
    let h : Arc → ℕ → ℕ = λ a j. covers (end_of week starts a.from) (end_of week starts a.from + a.lag) (base + j) in
    let each : total n (λ i. total m (g i)) ≤ total n (rest_of week) =
    total_grows n (λ i. total m (g i)) (rest_of week) (λ i inside. omega (arith, span_total (get_or starts i 0) (rest_of week i) base m)) in
    let lags : total m (λ j. sum_by (λ a. h a j) week.arcs.items) ≤ sum_by (λ (a : Arc). a.lag) week.arcs.items =
    lags_total m h week.arcs.items (λ a. omega (arith, span_total (end_of week starts a.from) a.lag base m)) in
    omega (
      arith,
      total_plus m (λ j. total n (λ i. g i j)) (λ j. sum_by (λ a. h a j) week.arcs.items),
      total_exchange m n g,
      each,
      lags,
    )

-- a plan that is longer has an instant behind all dates at which nothing goes on
idle_instant : (week : Week) (starts : List ℕ) → settled week + work week < makespan_of week starts
    → (t : ℕ) × (settled week ≤ t) × (t < makespan_of week starts) × (busy week starts t ≡ 0)
idle_instant week starts long =
    let base : ℕ = settled week in
    let m : ℕ = makespan_of week starts - base in
    let one = one_none m (λ j. busy week starts (base + j)) (omega (arith, long, busy_total week starts base m)) in
    (base + one.0, omega arith, omega (arith, one.1, long), one.2)

-- then each activity starts later or has ended
still : (week : Week) (starts : List ℕ) (t i : ℕ) → length starts ≡ count (project_of week) → busy week starts t ≡ 0 → (t < get_or starts i 0) ⊎ (end_of week starts i ≤ t)
unfolding busy
still week starts t i each none = elim (cases_lt i (count (project_of week))) [
  | inl inside ↦
      uncovered (get_or starts i 0) (end_of week starts i) t
      (omega (arith, none, total_above (count (project_of week)) (λ j. covers (get_or starts j 0) (end_of week starts j) t) i inside))
  | inr past ↦ inr (omega (arith, get_or_past starts i 0 (omega (arith, past, each)), past_rest week i (omega (arith, past, project_count week))))
]

-- and no lag goes on
still_lag : (week : Week) (starts : List ℕ) (t k : ℕ) (d : Arc) → busy week starts t ≡ 0 → k < length week.arcs.items
    → (t < end_of week starts (get_or week.arcs.items k d).from)
    ⊎ (end_of week starts (get_or week.arcs.items k d).from + (get_or week.arcs.items k d).lag ≤ t)
unfolding busy
still_lag week starts t k d none inside =
    let a : Arc = get_or week.arcs.items k d in
    let f : Arc → ℕ = λ b. covers (end_of week starts b.from) (end_of week starts b.from + b.lag) t in
    uncovered (end_of week starts a.from) (end_of week starts a.from + a.lag) t
    (omega (arith, none, sum_by_more_le f week.arcs.items k d inside))

-- one earlier, if it is later than an instant
earlier : ℕ → ℕ → ℕ
earlier t start = cond (nat_lt t start) (start - 1) start

earlier_late : (t start : ℕ) → t < start → earlier t start ≡ start - 1
unfolding earlier
earlier_late t start late = cond-true (nat_lt t start) (start - 1) start (lt-ltb t start late)

earlier_early : (t start : ℕ) → start ≤ t → earlier t start ≡ start
unfolding earlier
earlier_early t start early = cond-false (nat_lt t start) (start - 1) start (le-ltb t start early)

moved : ℕ → List ℕ → List ℕ
moved t starts = map (earlier t) starts

moved_at : (t : ℕ) (starts : List ℕ) (i : ℕ) → get_or (moved t starts) i 0 ≡ earlier t (get_or starts i 0)
unfolding moved
moved_at t starts i = elim (cases_lt i (length starts)) [
  | inl inside ↦ get_or-map (earlier t) starts i 0 0 inside
  | inr past ↦
      get_or_past (map (earlier t) starts) i 0 (omega (arith, past, length-map starts (earlier t)))
      ∙ sym (ap (earlier t) (get_or_past starts i 0 past) ∙ earlier_early t 0 (omega arith))
]

moved_length : (t : ℕ) (starts : List ℕ) → length (moved t starts) ≡ length starts
unfolding moved
moved_length t starts = length-map starts (earlier t)

-- a state is still kept
moved_state : (today t start : ℕ) (s : State) → today ≤ t → awaited_by s ≤ t → KeepsState today start s → KeepsState today (earlier t start) s
moved_state today t start (Open from None) now awaited kept = elim (cases_lt t start) [
  | inl late ↦ (omega (arith, late, now, earlier_late t start late), omega (arith, late, awaited, earlier_late t start late), tt)
  | inr early ↦ (omega (arith, kept.0, earlier_early t start early), omega (arith, kept.1, earlier_early t start early), tt)
]
moved_state today t start (Open from (Some fixed)) now awaited kept =
    let same : earlier t start ≡ start = earlier_early t start (omega (arith, kept.2, awaited)) in
    (omega (arith, kept.0, same), omega (arith, kept.1, same), same ∙ kept.2)
moved_state today t start (Begun began remaining) now awaited kept = earlier_early t start (omega (arith, kept, now)) ∙ kept
moved_state today t start (Done ended) now awaited kept = earlier_early t start (omega (arith, kept, now)) ∙ kept

-- an arc is still kept
moved_arc : (from lasts lag to t : ℕ) → (t < from) ⊎ (from + lasts ≤ t) → (t < from + lasts) ⊎ (from + lasts + lag ≤ t) → from + lasts + lag ≤ to
    → earlier t from + lasts + lag ≤ earlier t to
moved_arc from lasts lag to t (inl late) lags kept = omega (arith, late, kept, earlier_late t from late, earlier_late t to (omega (arith, late, kept)))
moved_arc from lasts lag to t (inr over) lags kept = elim (cases_lt t to) [
  | inr early ↦ omega (arith, over, kept, earlier_early t from (omega (arith, over)), earlier_early t to early)
  | inl late ↦ elim lags [
    | inl on ↦ absurd (omega (arith, on, over))
    | inr off ↦ omega (arith, over, off, late, earlier_early t from (omega (arith, over)), earlier_late t to late)
  ]
]

-- the need of an activity before and behind the instant
needs_at : ℕ → ℕ → ℕ → ℕ → ℕ
needs_at start lasts amount u = cond (nat_le start u && nat_lt u (start + lasts)) amount 0

needs_none : (start lasts amount u : ℕ) → (u < start) ⊎ (start + lasts ≤ u) → needs_at start lasts amount u ≡ 0
unfolding needs_at
needs_none start lasts amount u (inl early) = cond-false (nat_le start u && nat_lt u (start + lasts)) amount 0 (and_left (nat_le start u) (nat_lt u (start + lasts)) (lt-leb start u early))
needs_none start lasts amount u (inr late) = cond-false (nat_le start u && nat_lt u (start + lasts)) amount 0 (and_right (nat_le start u) (nat_lt u (start + lasts)) (le-ltb u (start + lasts) late))

needs_all : (start lasts amount u : ℕ) → start ≤ u → u < start + lasts → needs_at start lasts amount u ≡ amount
unfolding needs_at
needs_all start lasts amount u since before =
    cond-true (nat_le start u && nat_lt u (start + lasts)) amount 0 (and_from (nat_le start u) (nat_lt u (start + lasts)) (le-leb start u since) (lt-ltb u (start + lasts) before))

moved_before : (start lasts amount t u : ℕ) → u < t → needs_at (earlier t start) lasts amount u ≤ needs_at start lasts amount u
moved_before start lasts amount t u before = elim (cases_lt t start) [
  | inl late ↦ omega (arith, needs_none (earlier t start) lasts amount u (inl (omega (arith, before, late, earlier_late t start late))))
  | inr early ↦ omega (arith, ap (λ (x : ℕ). needs_at x lasts amount u) (earlier_early t start early))
]

moved_behind : (start lasts amount t u : ℕ) → t ≤ u → (t < start) ⊎ (start + lasts ≤ t) → needs_at (earlier t start) lasts amount u ≤ needs_at start lasts amount (suc u)
moved_behind start lasts amount t u behind (inr over) =
    omega (arith, needs_none (earlier t start) lasts amount u (inr (omega (arith, over, behind, earlier_early t start (omega (arith, over))))))
moved_behind start lasts amount t u behind (inl late) = elim (cases_lt (suc u) start) [
  | inl early ↦ omega (arith, needs_none (earlier t start) lasts amount u (inl (omega (arith, early, earlier_late t start late))))
  | inr since ↦ elim (cases_lt (suc u) (start + lasts)) [
    | inl before ↦ omega (
      arith,
      needs_all (earlier t start) lasts amount u (omega (arith, since, late, earlier_late t start late)) (omega (arith, before, late, earlier_late t start late)),
      needs_all start lasts amount (suc u) since before,
    )
    | inr past ↦ omega (arith, needs_none (earlier t start) lasts amount u (inr (omega (arith, past, late, earlier_late t start late))))
  ]
]

-- in the words of a week
needed_is : (week : Week) (starts : List ℕ) (u k i : ℕ) → needed_by week starts u k i ≡ needs_at (get_or starts i 0) (rest_of week i) (need (project_of week) i k) u
unfolding needs_at
needed_is week starts u k i = refl

moved_is : (week : Week) (starts : List ℕ) (t u k i : ℕ)
    → needed_by week (moved t starts) u k i ≡ needs_at (earlier t (get_or starts i 0)) (rest_of week i) (need (project_of week) i k) u
moved_is week starts t u k i =
    needed_is week (moved t starts) u k i
    ∙ ap (λ (x : ℕ). needs_at x (rest_of week i) (need (project_of week) i k) u) (moved_at t starts i)

needed_before : (week : Week) (starts : List ℕ) (t u k : ℕ) → u < t → needed week (moved t starts) u k ≤ needed week starts u k
needed_before week starts t u k before = total_grows (count (project_of week)) (needed_by week (moved t starts) u k) (needed_by week starts u k)
    (λ i inside. omega (
      arith,
      moved_is week starts t u k i,
      needed_is week starts u k i,
      moved_before (get_or starts i 0) (rest_of week i) (need (project_of week) i k) t u before,
    ))

needed_behind : (week : Week) (starts : List ℕ) (t u k : ℕ) → length starts ≡ count (project_of week) → busy week starts t ≡ 0 → t ≤ u
    → needed week (moved t starts) u k ≤ needed week starts (suc u) k
needed_behind week starts t u k each none behind = total_grows (count (project_of week)) (needed_by week (moved t starts) u k) (needed_by week starts (suc u) k)
    (λ i inside. omega (
      arith,
      moved_is week starts t u k i,
      needed_is week starts (suc u) k i,
      moved_behind (get_or starts i 0) (rest_of week i) (need (project_of week) i k) t u behind (still week starts t i each none),
    ))

-- nobody is absent behind all absences
none_absent : (u k : ℕ) (xs : List Absence) → ((j : ℕ) → j < length xs → (get_or xs j no_absence).until ≤ u) → sum_by (taken_by u k) xs ≡ 0
none_absent u k [] back = refl
none_absent u k (a ∷ xs) back =
    omega (
      arith,
      sum_by-cons (taken_by u k) a xs,
      taken_late u k a (back 0 (omega arith)),
      none_absent u k xs (λ j inside. back (suc j) (omega (arith, inside))),
    )

all_back : (week : Week) (u k : ℕ) → settled week ≤ u → missing week u k ≡ 0
unfolding settled
all_back week u k late = none_absent u k week.absences.items
    (λ j inside. omega (arith, late, greatest_above (length week.absences.items) (λ h. (get_or week.absences.items h no_absence).until) j inside))

awaited_most : (week : Week) (t i : ℕ) → settled week ≤ t → i < count (project_of week) → awaited_by (state_of week i) ≤ t
unfolding settled
awaited_most week t i late inside = omega (arith, late, greatest_above (count (project_of week)) (λ j. awaited_by (state_of week j)) i inside)

today_most : (week : Week) (t : ℕ) → settled week ≤ t → week.today ≤ t
unfolding settled
today_most week t late = omega (arith, late)

-- the starts that are later than such an instant can all be one earlier
moved_plan : (week : Week) (starts : List ℕ) (t : ℕ) → IsWeekPlan week starts → settled week ≤ t → busy week starts t ≡ 0 → IsWeekPlan week (moved t starts)
moved_plan week starts t plan late none = record {
  each_started = moved_length t starts ∙ plan.each_started;
  states = λ i inside. subst (λ (x : ℕ). KeepsState week.today x (state_of week i)) (sym (moved_at t starts i))
      (moved_state week.today t (get_or starts i 0) (state_of week i) (today_most week t late) (awaited_most week t i late inside) (plan.states i inside));
  arcs = λ k d inside on.
      let a : Arc = get_or week.arcs.items k d in
      omega (
        arith,
        moved_at t starts a.from,
        moved_at t starts a.to,
        moved_arc (get_or starts a.from 0) (rest_of week a.from) a.lag (get_or starts a.to 0) t (still week starts t a.from plan.each_started none)
            (still_lag week starts t k d none inside) (plan.arcs k d inside on),
      );
  fits = fits;
} where
  fits : (u k : ℕ) → week.today ≤ u → k < length (project_of week).capacities → needed week (moved t starts) u k + missing week u k ≤ capacity (project_of week) k
  fits u k since inside =
      elim (cases_lt u t) [
        | inl before ↦ omega (arith, plan.fits u k since inside, needed_before week starts t u k before)
        | inr behind ↦ omega (
          arith,
          plan.fits (suc u) k (omega (arith, since)) inside,
          needed_behind week starts t u k plan.each_started none behind,
          all_back week u k (omega (arith, late, behind)),
        )
      ]

-- and one of them is
moved_less : (week : Week) (starts : List ℕ) (t : ℕ) → IsWeekPlan week starts → t < makespan_of week starts → busy week starts t ≡ 0
    → total (count (project_of week)) (λ i. get_or (moved t starts) i 0) < total (count (project_of week)) (λ i. get_or starts i 0)
moved_less week starts t plan before none =
    let n : ℕ = count (project_of week) in
    let some : 0 < n = elim (cases_lt 0 n) [ inl some ↦ some | inr empty ↦ absurd (omega (arith, before, ap (λ (m : ℕ). greatest_below m (end_of week starts)) (let z : n ≡ 0 = omega (arith, empty) in z))) ] in
    let last = greatest_reached n (end_of week starts) some in
    let late : t < get_or starts last.0 0 = elim (still week starts t last.0 plan.each_started none) [ inl late ↦ late | inr over ↦ absurd (omega (arith, over, last.2, before)) ] in
    total_less n (λ i. get_or (moved t starts) i 0) (λ i. get_or starts i 0) last.0 last.1
    (λ i inside. elim (cases_lt t (get_or starts i 0)) [
      | inl after ↦ omega (arith, moved_at t starts i, earlier_late t (get_or starts i 0) after)
      | inr early ↦ omega (arith, moved_at t starts i, earlier_early t (get_or starts i 0) early)
    ])
    (omega (arith, late, moved_at t starts last.0, earlier_late t (get_or starts last.0 0) late))

-- a plan that isn't longer than the limit, or one whose starts are less
step : (week : Week) (starts : List ℕ) → IsWeekPlan week starts
    → (makespan_of week starts ≤ limit_of week)
    ⊎ ((other : List ℕ) × IsWeekPlan week other
    × (total (count (project_of week)) (λ i. get_or other i 0) < total (count (project_of week)) (λ i. get_or starts i 0)))
step week starts plan = elim (cases_lt (limit_of week) (makespan_of week starts)) [
  | inr short ↦ inl short
  | inl long ↦
      let idle = idle_instant week starts (omega (arith, long, limit_is week)) in
      inr (moved idle.0 starts, moved_plan week starts idle.0 plan idle.1 idle.3, moved_less week starts idle.0 plan idle.2 idle.3)
]

-- so a plan that is longer than the limit becomes one that isn't
within_limit : (fuel : ℕ) (week : Week) (starts : List ℕ) → total (count (project_of week)) (λ i. get_or starts i 0) ≤ fuel → IsWeekPlan week starts
    → (other : List ℕ) × IsWeekPlan week other × (makespan_of week other ≤ limit_of week)
within_limit zero week starts most plan = elim (step week starts plan) [
  | inl short ↦ (starts, plan, short)
  | inr (other, less, fewer) ↦ absurd (omega (arith, most, fewer))
]
within_limit (suc fuel) week starts most plan = elim (step week starts plan) [
  | inl short ↦ (starts, plan, short)
  | inr (other, less, fewer) ↦ within_limit fuel week other (omega (arith, most, fewer)) less
]

pub limits_are_enough : LimitsAreEnough
unfolding LimitsAreEnough
limits_are_enough week starts plan = within_limit (total (count (project_of week)) (λ i. get_or starts i 0)) week starts (omega arith) plan
