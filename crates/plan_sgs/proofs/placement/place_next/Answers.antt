-- The activity is placed at its earliest start.
use Rattle.std.proofs.Common.{ℕ, true, ◌≡◌, ◌-◌, List, length, set, Option, Some, sym, ◌∙◌, ap, subst, arith}
use Rattle.plan_net.specs.Network.{Net, duration_of}
use Rattle.plan_profile.specs.InUse.{in_use, capacities}
use Rattle.plan_sgs.specs.Problem.{duration}
use Rattle.plan_sgs.specs.Serial.{earliest, fits}
use Rattle.plan_sgs.specs.Instances.{problem_of}
use Rattle.plan_sgs.proofs.InstanceLemmas.{capacities-problem}
use Rattle.plan_sgs.proofs.AmountLemmas.{earliest_is}
use Rattle.plan_sgs.proofs.BoundedLemmas.{bounded}
use Rattle.plan_sgs.proofs.StepLemmas.{fits_back, held_after}
use Rattle.plan_sgs.proofs.PlaceLemmas.{activity_place, duration_place, needs_place, ends_in_time}
use Rattle.plan_sgs.proofs.placement.place_next.Goals as goal

pub place-requires-clause-end : goal.place-requires-clause-end
place-requires-clause-end c =
    let i = c.args.instance.now in
    let lasts : c.duration.result ≡ duration (problem_of c.args.instance.now) (c.args.j - 1) =
    c.duration.ensures.value ∙ ap (λ (n : Net). duration_of n c.args.j) c.network.ensures.network ∙ duration_place c.args.instance.now c.args.j c.requires.activity in
    let is : c.earliest_start-start.result ≡ earliest (problem_of c.args.instance.now) c.args.placed.now.items (c.args.j - 1) =
    c.earliest_start-start.ensures.start ∙ ap (λ (xs : List (Option ℕ)). earliest (problem_of c.args.instance.now) xs (c.args.j - 1)) c.deref.ensures.value in
    ends_in_time (problem_of i) c.args.placed.now.items
    (c.args.j - 1) c.earliest_start-start.result c.duration.result (bounded i c.network.ensures.instance)
    (activity_place i c.args.j c.requires.activity) c.requires.partial.ends lasts is

pub place-requires-clause-needs : goal.place-requires-clause-needs
place-requires-clause-needs c =
    let caps : length (capacities c.args.profile.now) ≡ length c.args.instance.now.capacities = ap (λ (xs : List ℕ). length xs) (c.requires.holds.caps ∙ capacities-problem c.args.instance.now) in
    omega (arith, caps, c.needs.ensures.amounts.0)

pub place-requires-clause-fits : goal.place-requires-clause-fits
place-requires-clause-fits c =
    let i = c.args.instance.now in
    let inside = activity_place i c.args.j c.requires.activity in
    let lasts : c.duration.result ≡ duration (problem_of c.args.instance.now) (c.args.j - 1) =
    c.duration.ensures.value ∙ ap (λ (n : Net). duration_of n c.args.j) c.network.ensures.network ∙ duration_place c.args.instance.now c.args.j c.requires.activity in
    let is : c.earliest_start-start.result ≡ earliest (problem_of c.args.instance.now) c.args.placed.now.items (c.args.j - 1) =
    c.earliest_start-start.ensures.start ∙ ap (λ (xs : List (Option ℕ)). earliest (problem_of c.args.instance.now) xs (c.args.j - 1)) c.deref.ensures.value in
    let fitting : fits (problem_of c.args.instance.now) c.args.placed.now.items (c.args.j - 1) c.earliest_start-start.result ≡ true =
    subst (λ (t : ℕ). fits (problem_of c.args.instance.now) c.args.placed.now.items (c.args.j - 1) t ≡ true)
    (sym is) (earliest_is (problem_of i) c.args.placed.now.items
    (c.args.j - 1) c.network.ensures.instance.fit inside).fitting in
    fits_back (in_use c.args.profile.now) (capacities c.args.profile.now)
    (problem_of i) c.args.placed.now.items (c.args.j - 1) c.earliest_start-start.result c.duration.result
    c.needs.result.now c.requires.holds.caps lasts
    (needs_place i c.args.j c.needs.result.now c.requires.activity c.needs.ensures.row) c.requires.holds.used fitting

pub index_mut-requires : goal.index_mut-requires
index_mut-requires c = omega (arith, activity_place c.args.instance.now c.args.j c.requires.activity, c.requires.partial.size, c.args.placed.now.ok.0)

pub returns-clause-ok : goal.returns-clause-ok
returns-clause-ok c =
    let is : c.earliest_start-start.result ≡ earliest (problem_of c.args.instance.now) c.args.placed.now.items (c.args.j - 1) =
    c.earliest_start-start.ensures.start ∙ ap (λ (xs : List (Option ℕ)). earliest (problem_of c.args.instance.now) xs (c.args.j - 1)) c.deref.ensures.value in
    ap (λ (t : ℕ). set c.args.placed.now.items (c.args.j - 1) (Some t)) is

pub returns-clause-holds : goal.returns-clause-holds
returns-clause-holds c =
    let i = c.args.instance.now in
    let lasts : c.duration.result ≡ duration (problem_of c.args.instance.now) (c.args.j - 1) =
    c.duration.ensures.value ∙ ap (λ (n : Net). duration_of n c.args.j) c.network.ensures.network ∙ duration_place c.args.instance.now c.args.j c.requires.activity in
    record {
      caps = c.in_ok-place.ensures.caps ∙ c.requires.holds.caps;
      used = held_after (in_use c.args.profile.now) (in_use c.place.new.self)
          (problem_of i) c.args.placed.now.items (c.args.j - 1) c.earliest_start-start.result
          c.duration.result c.needs.result.now c.requires.partial.size
          (activity_place i c.args.j c.requires.activity) c.requires.open lasts
          (needs_place i c.args.j c.needs.result.now c.requires.activity c.needs.ensures.row)
          c.requires.holds.used c.in_ok-place.ensures.ok;
    }
