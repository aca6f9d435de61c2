use Rattle.std.proofs.Common.{◌≡◌, ◌∙◌, ◌+◌, ℕ, List, min, get_or, length, ap, arith}
use Rattle.plan_sgs.specs.Problem.{count, total}
use Rattle.plan_sgs.proofs.StartLemmas.{total_next}
use Rattle.plan_solve.specs.declared.plans.TheConstants.{LATEST_COST}
use Rattle.plan_week.specs.declared.week.State.{State}
use Rattle.plan_week.specs.Weeks.{project_of, state_of, rest, rest_of}
use Rattle.plan_week.proofs.WeekLemmas.{project_count, rest_is}
use Rattle.plan_week.proofs.limit.rests.Goals as goal

pub loop-place-preserved : goal.loop-place-preserved
loop-place-preserved c =
    let week = c.args.week.now in
    let place : ℕ = c.loop-place.place in
    let here : c.rest-more.result ≡ rest_of week place =
    rest_is week place c.rest-more.result (get_or c.deref-duration-items.result.now place 0) c.state_of.result c.rest-more.ensures
    (ap (λ (xs : List ℕ). get_or xs place 0) c.deref-duration-items.ensures.value) c.state_of.ensures in
    let sum : c.min-sum.result ≡ min (total (place + 1) (rest_of week)) LATEST_COST =
    omega (arith, here, c.loop-place.invariant, c.min-sum.ensures, total_next place (rest_of week)) in
    sum

pub returns : goal.returns
returns c =
    let week = c.args.week.now in
    let n : c.loop-place.place ≡ count (project_of week) =
    omega (arith, c.loop-place-test.false, c.loop-place.auto.place-end, ap (λ (xs : List ℕ). length xs) c.deref-duration-items.ensures.value, project_count week) in
    c.loop-place.invariant ∙ ap (λ (m : ℕ). min (total m (rest_of week)) LATEST_COST) n
