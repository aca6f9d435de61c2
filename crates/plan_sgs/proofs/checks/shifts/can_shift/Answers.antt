use Rattle.std.proofs.Common.{ℕ, ◌≡◌, ◌+◌, ◌-◌, ◌≤◌, ◌<◌, inl, inr, List, Option, length, get_or, false, refl, sym, ◌∙◌, ap, subst, arith}
use Rattle.std.proofs.lemmas.Bool.{le-leb, both_ways}
use Rattle.plan_profile.specs.InUse.{in_use, capacities}
use Rattle.plan_profile.specs.declared.profile.TheConstants.{END}
use Rattle.plan_sgs.specs.Problem.{count, all_placed}
use Rattle.plan_sgs.specs.Serial.{release}
use Rattle.plan_sgs.specs.Placement.{IsPartialSchedule}
use Rattle.plan_sgs.specs.Instances.{problem_of}
use Rattle.plan_sgs.proofs.InstanceLemmas.{count-problem, capacities-problem}
use Rattle.plan_sgs.proofs.Shifts.{IsRelease, shift_after_release, shift_by_earliest, shift_by_last, shift_found}
use Rattle.plan_sgs.proofs.BrokenLemmas.{whole_schedule, release_whole, asked_at, needs_room}
use Rattle.plan_sgs.proofs.checks.shifts.can_shift.Goals.{After-release_of-release}
use Rattle.plan_sgs.proofs.checks.shifts.can_shift.Goals as goal

pub bounds-starts-j : goal.bounds-starts-j
bounds-starts-j c = omega (arith, c.requires.activity.0, c.requires.activity.1, c.requires.feasible.each_started, count-problem c.args.instance.now)

pub release_of-release-requires-clause-partial : goal.release_of-release-requires-clause-partial
release_of-release-requires-clause-partial c =
    subst (λ (xs : List (Option ℕ)). IsPartialSchedule c.args.instance.now xs 10010000)
    (sym c.requires.placed) (whole_schedule c.args.instance.now c.args.starts.now
    c.network-network.ensures.instance c.requires.feasible.each_started c.requires.limit)

-- the release of the activity
is_release : (c : After-release_of-release) → IsRelease (problem_of c.args.instance.now) c.args.starts.now (c.args.j - 1) c.release_of-release.result
is_release c =
    let i = c.args.instance.now in
    let s = c.args.starts.now in
    let is : release (problem_of c.args.instance.now) (all_placed c.args.starts.now) (c.args.j - 1) ≡ c.release_of-release.result =
    sym (c.release_of-release.ensures ∙ ap (λ (xs : List (Option ℕ)). release (problem_of c.args.instance.now) xs (c.args.j - 1)) c.requires.placed) in
    subst (IsRelease (problem_of i) s (c.args.j - 1)) is (release_whole i s (c.args.j - 1) c.network-network.ensures.instance c.requires.feasible.each_started)

pub returns-then-start-release : goal.returns-then-start-release
returns-then-start-release c =
    let i = c.args.instance.now in
    let s = c.args.starts.now in
    let release = is_release (goal.at.returns-then-start-release c).After-release_of-release in (
      λ no. absurd (both_ways false refl no),
      λ has. absurd
          (omega (
            arith,
            c.if-start-release.true,
            shift_after_release (problem_of i) s
                (c.args.j - 1) c.release_of-release.result c.requires.feasible release has,
          )),
    )

pub earliest-requires-clause-needs : goal.earliest-requires-clause-needs
earliest-requires-clause-needs c = c.needs-needs.ensures.amounts.0 ∙ sym (ap length (capacities-problem c.args.instance.now)) ∙ sym (ap length c.requires.holds.caps)

pub earliest-requires-clause-empty : goal.earliest-requires-clause-empty
earliest-requires-clause-empty c =
    needs_room c.args.instance.now c.network-network.result.now c.args.j c.duration-d.result
    (capacities c.args.profile.now) c.needs-needs.result.now c.network-network.ensures.network
    c.requires.activity c.network-network.ensures.instance.fit
    c.requires.holds.caps c.duration-d.ensures.value c.needs-needs.ensures.row

pub fits-requires : goal.fits-requires
fits-requires c = c.needs-needs.ensures.amounts.0 ∙ sym (ap length (capacities-problem c.args.instance.now)) ∙ sym (ap length c.requires.holds.caps)

pub returns-then-earliest-d : goal.returns-then-earliest-d
returns-then-earliest-d c =
    let i = c.args.instance.now in
    let s = c.args.starts.now in
    let net = c.network-network.result.now in
    let is = c.network-network.ensures.network in
    let inside : c.args.j - 1 < count (problem_of i) = omega (arith, c.requires.activity.0, c.requires.activity.1, count-problem i) in
    let early : get_or s (c.args.j - 1) 0 ≤ END = c.requires.limit (c.args.j - 1) 0 (omega (arith, inside, c.requires.feasible.each_started)) in
    let release = is_release (goal.at.returns-then-earliest-d c).After-release_of-release in
    let asked = asked_at i net s c.args.j END c.duration-d.result c.args.profile.now c.needs-needs.result.now
    is c.requires.activity c.requires.holds early c.duration-d.ensures.value c.needs-needs.ensures.row in (
      λ yes. shift_by_earliest (problem_of i) s (c.args.j - 1) c.release_of-release.result
          (capacities c.args.profile.now) (in_use c.args.profile.now) c.duration-d.result
          c.needs-needs.result.now c.earliest.result
          c.requires.feasible inside release c.if-start-release.false asked c.earliest.ensures.least c.if-earliest-d.true,
      λ has. le-leb (c.earliest.result + c.duration-d.result) (get_or s (c.args.j - 1) 0) c.if-earliest-d.true,
    )

pub returns-else-earliest-d : goal.returns-else-earliest-d
returns-else-earliest-d c =
    let i = c.args.instance.now in
    let s = c.args.starts.now in
    let net = c.network-network.result.now in
    let is = c.network-network.ensures.network in
    let inside : c.args.j - 1 < count (problem_of i) = omega (arith, c.requires.activity.0, c.requires.activity.1, count-problem i) in
    let early : get_or s (c.args.j - 1) 0 ≤ END = c.requires.limit (c.args.j - 1) 0 (omega (arith, inside, c.requires.feasible.each_started)) in
    let release = is_release (goal.at.returns-else-earliest-d c).After-release_of-release in
    let asked = asked_at i net s c.args.j END c.duration-d.result c.args.profile.now c.needs-needs.result.now
    is c.requires.activity c.requires.holds early c.duration-d.ensures.value c.needs-needs.ensures.row in (
      λ fits. shift_by_last (problem_of i) s (c.args.j - 1) c.release_of-release.result (capacities c.args.profile.now) (in_use c.args.profile.now) c.duration-d.result c.needs-needs.result.now
          c.requires.feasible inside release c.if-start-release.false asked (c.fits.ensures.0 fits),
      λ has. c.fits.ensures.1
          (elim (shift_found (problem_of i) s (c.args.j - 1) c.release_of-release.result
          (capacities c.args.profile.now) (in_use c.args.profile.now) c.duration-d.result
          c.needs-needs.result.now c.earliest.result
          c.requires.feasible release asked c.earliest.ensures.least has) [
            | inl ends ↦ absurd (omega (arith, ends, c.if-earliest-d.false))
            | inr fits ↦ fits
          ]),
    )
