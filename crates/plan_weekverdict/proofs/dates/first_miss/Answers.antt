use Rattle.std.proofs.Common.{◌≤◌, ℕ, arith}
use Rattle.plan_sgs.specs.Problem.{count}
use Rattle.plan_week.specs.Weeks.{project_of}
use Rattle.plan_weekverdict.proofs.MissLemmas.{misses_at, first_miss_at, no_miss_at_all}
use Rattle.plan_weekverdict.proofs.PinLemmas.{project_count}
use Rattle.plan_weekverdict.proofs.dates.first_miss.Goals as goal

pub loop-place-init : goal.loop-place-init
loop-place-init c = λ i below. absurd (omega (arith, below))

pub returns-in-Some-clause-some : goal.returns-in-Some-clause-some
returns-in-Some-clause-some c =
    let week = c.args.week.now in
    let starts = c.args.starts.now in
    let place : ℕ = c.loop-place.place in
    first_miss_at week starts place c.in-Some.miss c.loop-place.invariant
    (misses_at week starts place c.at.result c.state_of.result c.in-Some.miss (omega (arith, c.loop-place-test.true, c.len-place-end.ensures, project_count week))
    c.at.ensures c.state_of.ensures c.in-Some.ensures.some)

pub returns-clause-none : goal.returns-clause-none
returns-clause-none c =
    let week = c.args.week.now in
    let all : count (project_of week) ≤ c.loop-place.place = omega (arith, c.loop-place-test.false, c.len-place-end.ensures, c.loop-place.auto.place-end, project_count week) in
    no_miss_at_all week c.args.starts.now c.loop-place.place all c.loop-place.invariant
