use Rattle.std.proofs.Common.{◌≡◌, ◌+◌, ◌∙◌, ℕ, ◌<◌, List, length, get_or, ap, sym, subst, arith}
use Rattle.plan_kernel.specs.declared.input.Absence.{Absence}
use Rattle.plan_week.specs.declared.overload.Overload.{Overload}
use Rattle.plan_week.specs.Weeks.{no_absence}
use Rattle.plan_week.proofs.OverloadLemmas.{found_any, found_same, below_or_at}
use Rattle.plan_week.proofs.overload.first_at_absences.Goals as goal

pub loop-absence-preserved : goal.loop-absence-preserved
loop-absence-preserved c =
    let week = c.args.week.now in
    let place : ℕ = c.loop-absence.absence-index in
    let at : ℕ → ℕ → Type 0 = λ j t. (get_or week.absences.items j no_absence).from ≡ t in
    let here : (get_or c.deref-absence-items.result.now place no_absence).from ≡ (get_or week.absences.items place no_absence).from =
    ap (λ (xs : List Absence). (get_or xs place no_absence).from) c.deref-absence-items.ensures.value in
    found_any week (λ t. (j : ℕ) × (j < place) × at j t) (at place) (λ t. (j : ℕ) × (j < place + 1) × at j t) c.loop-absence.first c.overload_at.result
    c.earlier-first.result c.loop-absence.invariant
    (found_same week (λ t. t ≡ (get_or c.deref-absence-items.result.now place no_absence).from) (at place) c.overload_at.result c.overload_at.ensures (λ t is. sym is ∙ sym here))
    c.earlier-first.ensures (λ t those. below_or_at place at t those)

pub returns : goal.returns
returns c =
    let week = c.args.week.now in
    let at : ℕ → ℕ → Type 0 = λ j t. (get_or week.absences.items j no_absence).from ≡ t in
    found_same week (λ t. (j : ℕ) × (j < c.loop-absence.absence-index) × at j t) (λ t. (j : ℕ) × (j < length week.absences.items) × at j t) c.loop-absence.first
    c.loop-absence.invariant
    (λ t those. (those.0, omega (arith, those.1, c.loop-absence-test.false, ap length c.deref-absence-items.ensures.value), those.2))
