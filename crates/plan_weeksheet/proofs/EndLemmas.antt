-- No rectangle of a plan ends after the plan.
use Rattle.std.proofs.Common.{◌≡◌, ℕ, ◌+◌, ◌-◌, ◌≤◌, ◌<◌, ◌++◌, Option, Some, None, List, [], ◌∷◌, length, flat_map, get_or, min, cond, nat_lt, refl, arith, zero, suc, Bool, true, false}
use Rattle.std.specs.Prelude.{All}
use Rattle.std.specs.List.{AllByRecursion, range_with_len}
use Rattle.std.proofs.lemmas.Bool.{ltb-true}
use Rattle.std.proofs.lemmas.List.Elements.{All-from_recursion}
use Rattle.plan_kernel.specs.declared.input.Absence.{Absence}
use Rattle.plan_sgs.proofs.TotalLemmas.{greatest_above}
use Rattle.plan_views.specs.LinkColumns.{Links}
use Rattle.plan_week.specs.Weeks.{end_of, makespan_of, project_of}
use Rattle.plan_weeklist.specs.declared.listed.ListedWeek.{ListedWeek}
use Rattle.plan_weeks.specs.declared.planning.WeekPlan.{WeekPlan}
use Rattle.plan_weekview.specs.WeekDays.{begins_at}
use Rattle.plan_weeksheet.specs.Rectangles.{Rectangle}
use Rattle.plan_weeksheet.specs.Uses.{EndsBy, EndsWithPlan}
use Rattle.plan_weeksheet.specs.WeekRectangles.{absence_part, absence_rectangle, absence_rectangles, activity_rectangle, activity_rectangles, rectangle_if, week_rectangles}

all_append : {A : Type 0} (P : A → Type 0) (xs ys : List A) → AllByRecursion P xs → AllByRecursion P ys → AllByRecursion P (xs ++ ys)
all_append P [] ys first last = last
all_append P (x ∷ xs) ys first last = (first.0, all_append P xs ys first.1 last)

-- the rectangles that numbers from n on give
all_given : (P : Rectangle → Type 0) (g : ℕ → List Rectangle) (n k : ℕ) → ((i : ℕ) → n ≤ i → i < n + k → AllByRecursion P (g i))
    → AllByRecursion P (flat_map g (range_with_len n k))
all_given P g n zero each = tt
all_given P g n (suc k) each =
    all_append P (g n) (flat_map g (range_with_len (n + 1) k)) (each n (omega arith) (omega arith))
    (all_given P g (n + 1) k (λ i low high. each i (omega (arith, low)) (omega (arith, high))))

-- one activity
activity_ends : (listed : ListedWeek) (links : List Links) (i start ends m : ℕ) (begin : Option ℕ) → start ≤ ends → ends ≤ m
    → AllByRecursion (EndsBy m) (rectangle_if listed links i begin start ends)
activity_ends listed links i start ends m None early late = tt
activity_ends listed links i start ends m (Some begin) early late = (omega (arith, early, late), tt)

activities_end : (listed : ListedWeek) (links : List Links) (starts : List ℕ) (m : ℕ) → m ≡ makespan_of listed.week starts
    → AllByRecursion (EndsBy m) (activity_rectangles listed links starts)
unfolding project_of
activities_end listed links starts m is =
    all_given (EndsBy m) (activity_rectangle listed links starts) 0 (length listed.week.durations.items) (λ i low high.
    let most = greatest_above (length listed.week.durations.items) (end_of listed.week starts) i (omega (arith, high)) in
    activity_ends listed links i (get_or starts i 0) (end_of listed.week starts i) m (begins_at listed.week starts i) (omega arith) (omega (arith, most, is)))

-- one absence
absence_ends : (n m : ℕ) (a : Absence) (b : Bool) → nat_lt a.from m ≡ b → AllByRecursion (EndsBy m) (cond b (absence_part n m a ∷ []) [])
absence_ends n m a true begins = let before = ltb-true a.from m begins in (omega (arith, before), tt)
absence_ends n m a false begins = tt

absences_end : (n m : ℕ) (absences : List Absence) → AllByRecursion (EndsBy m) (flat_map (absence_rectangle n m) absences)
absences_end n m [] = tt
absences_end n m (a ∷ others) =
    all_append (EndsBy m) (absence_rectangle n m a) (flat_map (absence_rectangle n m) others) (absence_ends n m a (nat_lt a.from m) refl) (absences_end n m others)

pub ends_with_plan : EndsWithPlan
unfolding EndsWithPlan
ends_with_plan listed links p is =
    All-from_recursion (EndsBy p.makespan) (week_rectangles listed links p)
    (all_append (EndsBy p.makespan) (activity_rectangles listed links p.starts.items) (absence_rectangles listed p.makespan)
    (activities_end listed links p.starts.items p.makespan is)
    (absences_end (length listed.week.capacities.items) p.makespan listed.week.absences.items))
