-- The tests of lists decide whether the lists are the same.
use Rattle.std.proofs.Common.{◌≡◌, ℕ, Bool, true, false, ◌&&◌, List, [], ◌∷◌, Option, Some, None, refl, sym, ap, ◌∙◌, true≢false}
use Rattle.std.specs.Prelude.{bytes_eq, nat_eq, ◌==◌}
use Rattle.std.specs.Bool.{Decides}
use Rattle.std.specs.Cmp.Lexicographic.{pointwise}
use Rattle.std.proofs.lemmas.Bool.Decides.{Decides-and, Decides-eqb, Decides-like, not_from_Decides}
use Rattle.std.proofs.lemmas.Slice.Eq.{bytes_eq-Decides, slice_eq-Decides}
use Rattle.plan_kernel.specs.declared.input.Absence.{Absence}
use Rattle.plan_kernel.specs.declared.input.Arc.{Arc}
use Rattle.plan_table.specs.Table.{Activity, Resource, Table}
use Rattle.plan_week.specs.declared.week.State.{State}
use Rattle.plan_week.specs.declared.week.State.TheVariants.{Open, Begun, Done}
use Rattle.plan_week.specs.declared.week.Week.{Week}
use Rattle.plan_weekback.specs.Comparisons.{is_begun, is_done, is_open, rows_of, same_absence, same_activity, same_arc, same_flag, same_instant, same_list}
use Rattle.plan_weekback.specs.Comparisons.{same_numbers, same_resource, same_state, same_table, same_week}
use Rattle.plan_weekback.specs.Sameness.{IsSameList, IsSameWeek}
use Rattle.plan_weeklist.specs.declared.listed.ListedWeek.{ListedWeek}

flags : (a b : Bool) → Decides (same_flag a b) (a ≡ b)
flags false false = (λ e. refl, λ e. refl)
flags false true = (λ e. cc, λ e. cc)
flags true false = (λ e. cc, λ e. cc)
flags true true = (λ e. refl, λ e. refl)

numbers : (a b : List ℕ) → Decides (same_numbers a b) (a ≡ b)
numbers a b = slice_eq-Decides Decides-eqb a b (pointwise nat_eq a b) refl

-- ---- tables

activities : (a b : Activity) → Decides (same_activity a b) (a ≡ b)
activities a b =
    Decides-like (same_activity a b)
    (λ e. λ i. record {
      line = e.0 i;
      id = e.1.0 i;
      name = e.1.1.0 i;
      duration = e.1.1.1.0 i;
      predecessors = e.1.1.1.1.0 i;
      needs = e.1.1.1.1.1 i;
    })
    (λ e. (
      ap (λ (w : Activity). w.line) e,
      (
        ap (λ (w : Activity). w.id) e,
        (
          ap (λ (w : Activity). w.name) e,
          (ap (λ (w : Activity). w.duration) e, (ap (λ (w : Activity). w.predecessors) e, ap (λ (w : Activity). w.needs) e)),
        ),
      ),
    ))
    (Decides-and _ _ (Decides-eqb a.line b.line)
    (Decides-and _ _ (bytes_eq-Decides a.id b.id)
    (Decides-and _ _ (bytes_eq-Decides a.name b.name)
    (Decides-and _ _ (Decides-eqb a.duration b.duration)
    (Decides-and _ _ (numbers a.predecessors b.predecessors) (numbers a.needs b.needs))))))

resources : (a b : Resource) → Decides (same_resource a b) (a ≡ b)
resources a b =
    Decides-like (same_resource a b) (λ e. λ i. record { name = e.0 i; capacity = e.1 i })
    (λ e. (ap (λ (w : Resource). w.name) e, ap (λ (w : Resource). w.capacity) e))
    (Decides-and _ _ (bytes_eq-Decides a.name b.name) (Decides-eqb a.capacity b.capacity))

tables : (a b : Table) → Decides (same_table a b) (a ≡ b)
tables a b =
    Decides-like (same_table a b) (λ e. λ i. record { own_ids = e.0 i; activities = e.1.0 i; resources = e.1.1 i })
    (λ e. (ap (λ (w : Table). w.own_ids) e, (ap (λ (w : Table). w.activities) e, ap (λ (w : Table). w.resources) e)))
    (Decides-and _ _ (flags a.own_ids b.own_ids)
    (Decides-and _ _ (slice_eq-Decides activities a.activities b.activities (pointwise same_activity a.activities b.activities) refl)
    (slice_eq-Decides resources a.resources b.resources (pointwise same_resource a.resources b.resources) refl)))

-- ---- weeks

arcs : (a b : Arc) → Decides (same_arc a b) (a ≡ b)
arcs a b =
    Decides-like (same_arc a b) (λ e. λ i. record { from = e.0 i; to = e.1.0 i; lag = e.1.1 i })
    (λ e. (ap (λ (w : Arc). w.from) e, (ap (λ (w : Arc). w.to) e, ap (λ (w : Arc). w.lag) e)))
    (Decides-and _ _ (Decides-eqb a.from b.from) (Decides-and _ _ (Decides-eqb a.to b.to) (Decides-eqb a.lag b.lag)))

instants : (a b : Option ℕ) → Decides (same_instant a b) (a ≡ b)
instants None None = (λ e. refl, λ e. refl)
instants None (Some b) = (λ e. cc, λ e. cc)
instants (Some a) None = (λ e. cc, λ e. cc)
instants (Some a) (Some b) = Decides-like (a == b) (λ e. ap Some e) (λ e. cc) (Decides-eqb a b)

states : (a b : State) → Decides (same_state a b) (a ≡ b)
states (Open earliest fixed) (Open other appointment) =
    Decides-like (is_open earliest fixed (Open other appointment)) (λ e. λ i. Open (e.0 i) (e.1 i)) (λ e. (cc, cc))
    (Decides-and _ _ (Decides-eqb earliest other) (instants fixed appointment))
states (Open earliest fixed) (Begun began remaining) = (λ e. cc, λ e. cc)
states (Open earliest fixed) (Done ended) = (λ e. cc, λ e. cc)
states (Begun began remaining) (Open earliest fixed) = (λ e. cc, λ e. cc)
states (Begun began remaining) (Begun other rest) =
    Decides-like (is_begun began remaining (Begun other rest)) (λ e. λ i. Begun (e.0 i) (e.1 i)) (λ e. (cc, cc))
    (Decides-and _ _ (Decides-eqb began other) (Decides-eqb remaining rest))
states (Begun began remaining) (Done ended) = (λ e. cc, λ e. cc)
states (Done ended) (Open earliest fixed) = (λ e. cc, λ e. cc)
states (Done ended) (Begun began remaining) = (λ e. cc, λ e. cc)
states (Done ended) (Done other) = Decides-like (ended == other) (λ e. ap Done e) (λ e. cc) (Decides-eqb ended other)

absences : (a b : Absence) → Decides (same_absence a b) (a ≡ b)
absences a b =
    Decides-like (same_absence a b) (λ e. λ i. record { resource = e.0 i; from = e.1.0 i; until = e.1.1.0 i; amount = e.1.1.1 i })
    (λ e. (
      ap (λ (w : Absence). w.resource) e,
      (ap (λ (w : Absence). w.from) e, (ap (λ (w : Absence). w.until) e, ap (λ (w : Absence). w.amount) e)),
    ))
    (Decides-and _ _ (Decides-eqb a.resource b.resource)
    (Decides-and _ _ (Decides-eqb a.from b.from)
    (Decides-and _ _ (Decides-eqb a.until b.until) (Decides-eqb a.amount b.amount))))

weeks : (a b : Week) → Decides (same_week a b) (IsSameWeek a b)
weeks a b =
    Decides-like (same_week a b)
    (λ e. record {
      durations = e.0;
      arcs = e.1.0;
      needs = e.1.1.0;
      capacities = e.1.1.1.0;
      states = e.1.1.1.1.0;
      dues = e.1.1.1.1.1.0;
      absences = e.1.1.1.1.1.1.0;
      today = e.1.1.1.1.1.1.1;
    })
    (λ (s : IsSameWeek a b). (s.durations, (s.arcs, (s.needs, (s.capacities, (s.states, (s.dues, (s.absences, s.today))))))))
    (Decides-and _ _ (numbers a.durations.items b.durations.items)
    (Decides-and _ _ (slice_eq-Decides arcs a.arcs.items b.arcs.items (pointwise same_arc a.arcs.items b.arcs.items) refl)
    (Decides-and _ _ (slice_eq-Decides numbers (rows_of a) (rows_of b) (pointwise same_numbers (rows_of a) (rows_of b)) refl)
    (Decides-and _ _ (numbers a.capacities.items b.capacities.items)
    (Decides-and _ _ (slice_eq-Decides states a.states.items b.states.items (pointwise same_state a.states.items b.states.items) refl)
    (Decides-and _ _ (slice_eq-Decides instants a.dues.items b.dues.items (pointwise same_instant a.dues.items b.dues.items) refl)
    (Decides-and _ _ (slice_eq-Decides absences a.absences.items b.absences.items (pointwise same_absence a.absences.items b.absences.items) refl)
    (Decides-eqb a.today b.today))))))))

lists : (a b : ListedWeek) → Decides (same_list a b) (IsSameList a b)
lists a b =
    Decides-like (same_list a b) (λ e. record { table = e.0; week = e.1 }) (λ (s : IsSameList a b). (s.table, s.week))
    (Decides-and _ _ (tables a.table b.table) (weeks a.week b.week))

-- lists that pass the test are the same
pub same : (a b : ListedWeek) (r : Bool) → r ≡ same_list a b → r ≡ true → IsSameList a b
same a b r is holds = (lists a b).0 (sym is ∙ holds)

-- others aren't
pub other : (a b : ListedWeek) (r : Bool) → r ≡ same_list a b → r ≡ false → IsSameList a b → ⊥
other a b r is fails = not_from_Decides (same_list a b) (lists a b) (sym is ∙ fails)
