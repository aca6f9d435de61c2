-- The profile's earliest start is that of the definition.
use Rattle.std.proofs.Common.{ℕ, ◌≡◌, ◌-◌, List, length, ◌∙◌, ap, arith}
use Rattle.plan_net.specs.Network.{Net, duration_of}
use Rattle.plan_profile.specs.InUse.{in_use, capacities}
use Rattle.plan_sgs.specs.Problem.{duration}
use Rattle.plan_sgs.specs.Instances.{problem_of}
use Rattle.plan_sgs.proofs.InstanceLemmas.{capacities-problem}
use Rattle.plan_sgs.proofs.BoundedLemmas.{bounded}
use Rattle.plan_sgs.proofs.StepLemmas.{release_soon}
use Rattle.plan_sgs.proofs.PlaceLemmas.{activity_place, duration_place, needs_place, fits_empty, start_is}
use Rattle.plan_sgs.proofs.placement.earliest_start.Goals as goal

pub release_of-from-requires-clause-partial : goal.release_of-from-requires-clause-partial
release_of-from-requires-clause-partial c = record {
  size = c.requires.partial.size;
  ends = λ h start is. omega (arith, c.requires.partial.ends h start is);
}

pub earliest-requires-clause-from : goal.earliest-requires-clause-from
earliest-requires-clause-from c =
    let i = c.args.instance.now in
    omega (arith, c.release_of-from.ensures, release_soon (problem_of i) c.args.placed.now (c.args.j - 1) 6020000 (bounded i c.network.ensures.instance) c.requires.partial.ends)

pub earliest-requires-clause-needs : goal.earliest-requires-clause-needs
earliest-requires-clause-needs c =
    let caps : length (capacities c.args.profile.now) ≡ length c.args.instance.now.capacities = ap (λ (xs : List ℕ). length xs) (c.requires.holds.caps ∙ capacities-problem c.args.instance.now) in
    omega (arith, caps, c.needs-needs.ensures.amounts.0)

pub earliest-requires-clause-empty : goal.earliest-requires-clause-empty
earliest-requires-clause-empty c =
    let i = c.args.instance.now in
    let lasts : c.duration-duration.result ≡ duration (problem_of c.args.instance.now) (c.args.j - 1) =
    c.duration-duration.ensures.value ∙ ap (λ (n : Net). duration_of n c.args.j) c.network.ensures.network ∙ duration_place c.args.instance.now c.args.j c.requires.activity in
    fits_empty (problem_of i) (c.args.j - 1) c.duration-duration.result
    (capacities c.args.profile.now) c.needs-needs.result.now c.network.ensures.instance.fit
    (activity_place i c.args.j c.requires.activity) lasts c.requires.holds.caps
    (needs_place i c.args.j c.needs-needs.result.now c.requires.activity c.needs-needs.ensures.row)

pub returns-clause-start : goal.returns-clause-start
returns-clause-start c =
    let i = c.args.instance.now in
    let lasts : c.duration-duration.result ≡ duration (problem_of c.args.instance.now) (c.args.j - 1) =
    c.duration-duration.ensures.value ∙ ap (λ (n : Net). duration_of n c.args.j) c.network.ensures.network ∙ duration_place c.args.instance.now c.args.j c.requires.activity in
    let released = c.release_of-from.ensures in
    let is = start_is i (in_use c.args.profile.now)
    (capacities c.args.profile.now) c.args.placed.now c.args.j c.release_of-from.result
    c.duration-duration.result c.earliest.result c.needs-needs.result.now c.network.ensures.instance
    c.requires.activity
    c.requires.holds.caps lasts c.needs-needs.ensures.row c.requires.holds.used released c.earliest.ensures.least in
    is
