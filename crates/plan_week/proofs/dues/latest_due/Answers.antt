use Rattle.std.proofs.Common.{◌≡◌, ◌∙◌, ℕ, Option, ap, arith}
use Rattle.plan_sgs.specs.Problem.{count, greatest_below}
use Rattle.plan_week.specs.Weeks.{project_of}
use Rattle.plan_week.specs.Tardiness.{wish_of, date_or}
use Rattle.plan_week.proofs.WeekLemmas.{project_count}
use Rattle.plan_week.proofs.dues.latest_due.Goals as goal

pub returns : goal.returns
returns c =
    let n : c.loop-place.place ≡ count (project_of c.args.week.now) =
    omega (arith, c.loop-place-test.false, c.len-place-end.ensures, c.loop-place.auto.place-end, project_count c.args.week.now) in
    c.loop-place.invariant ∙ ap (λ (m : ℕ). greatest_below m (λ i. date_or 0 (wish_of c.args.week.now i))) n
