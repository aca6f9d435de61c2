use Rattle.std.proofs.Common.{◌≡◌, ◌∙◌, ℕ, ap, arith}
use Rattle.plan_sgs.specs.Problem.{count, greatest_below}
use Rattle.plan_week.specs.Weeks.{project_of}
use Rattle.plan_week.specs.Tardiness.{tardiness_of}
use Rattle.plan_week.proofs.WeekLemmas.{project_count}
use Rattle.plan_week.proofs.dues.greatest_tardiness.Goals as goal

pub returns : goal.returns
returns c =
    let n : c.loop-place.place ≡ count (project_of c.args.week.now) =
    omega (arith, c.loop-place-test.false, c.len-place-end.ensures, c.loop-place.auto.place-end, project_count c.args.week.now) in
    c.loop-place.invariant ∙ ap (λ (m : ℕ). greatest_below m (tardiness_of c.args.week.now c.args.starts.now)) n
