use Rattle.std.proofs.Common.{◌≡◌, ◌+◌, ℕ, ◌<◌, Some, arith}
use Rattle.plan_sgs.specs.Problem.{count}
use Rattle.plan_week.specs.Weeks.{project_of, state_of}
use Rattle.plan_week.specs.Overloads.{settled_start}
use Rattle.plan_week.proofs.WeekLemmas.{project_count}
use Rattle.plan_week.proofs.OverloadLemmas.{found_any, found_same, below_or_at}
use Rattle.plan_week.proofs.overload.first_at_starts.Goals as goal

pub loop-place-preserved : goal.loop-place-preserved
loop-place-preserved c =
    let week = c.args.week.now in
    let place : ℕ = c.loop-place.place in
    let at : ℕ → ℕ → Type 0 = λ i t. settled_start week.today (state_of week i) ≡ Some t in
    found_any week (λ t. (i : ℕ) × (i < place) × at i t) (at place) (λ t. (i : ℕ) × (i < place + 1) × at i t) c.loop-place.first c.overload_of.result
    c.earlier-first.result c.loop-place.invariant c.overload_of.ensures c.earlier-first.ensures (λ t those. below_or_at place at t those)

pub returns : goal.returns
returns c =
    let week = c.args.week.now in
    let at : ℕ → ℕ → Type 0 = λ i t. settled_start week.today (state_of week i) ≡ Some t in
    found_same week (λ t. (i : ℕ) × (i < c.loop-place.place) × at i t) (λ t. (i : ℕ) × (i < count (project_of week)) × at i t) c.loop-place.first
    c.loop-place.invariant
    (λ t those. (those.0, omega (arith, those.1, c.loop-place-test.false, c.len-place-end.ensures, c.loop-place.auto.place-end, project_count week), those.2))
