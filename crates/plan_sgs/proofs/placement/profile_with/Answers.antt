-- The interval of the last activity fits beside the others, and the profile then holds them all.
use Rattle.std.proofs.Common.{ℕ, true, ◌≡◌, ◌-◌, List, length, get_or, set, Option, Some, None, sym, ◌∙◌, ap, subst, arith}
use Rattle.std.proofs.lemmas.List.{length-set, set-set, set-get_or, get_or-set_same}
use Rattle.std.proofs.lemmas.Option.{same_Some}
use Rattle.plan_net.specs.Network.{Net, duration_of}
use Rattle.plan_profile.specs.InUse.{in_use, capacities}
use Rattle.plan_sgs.specs.Problem.{duration}
use Rattle.plan_sgs.specs.Serial.{earliest, fits}
use Rattle.plan_sgs.specs.Instances.{problem_of}
use Rattle.plan_sgs.proofs.InstanceLemmas.{capacities-problem}
use Rattle.plan_sgs.proofs.AmountLemmas.{earliest_is}
use Rattle.plan_sgs.proofs.StepLemmas.{IsUsageOf, fits_back, held_after}
use Rattle.plan_sgs.proofs.PlaceLemmas.{activity_place, duration_place, needs_place}
use Rattle.plan_sgs.proofs.placement.profile_with.Goals as goal

pub place-requires-clause-needs : goal.place-requires-clause-needs
place-requires-clause-needs c =
    let caps : length (capacities c.in_ok-made.made) ≡ length c.args.instance.now.capacities =
    ap (λ (xs : List ℕ). length xs) (c.in_ok-made.ensures.caps ∙ c.requires.holds.caps ∙ capacities-problem c.args.instance.now) in
    omega (arith, caps, c.needs-needs.ensures.amounts.0)

pub place-requires-clause-fits : goal.place-requires-clause-fits
place-requires-clause-fits c =
    let i = c.args.instance.now in
    let p = problem_of c.args.instance.now in
    let before = set c.args.placed.now (c.args.j - 1) None in
    let inside = activity_place i c.args.j c.requires.activity in
    let lasts : c.duration-duration.result ≡ duration (problem_of c.args.instance.now) (c.args.j - 1) =
    c.duration-duration.ensures.value ∙ ap (λ (n : Net). duration_of n c.args.j) c.network.ensures.network ∙ duration_place c.args.instance.now c.args.j c.requires.activity in
    let needs = needs_place i c.args.j c.needs-needs.result.now c.requires.activity c.needs-needs.ensures.row in
    let start : c.in-Some.start ≡ earliest (problem_of c.args.instance.now) (set c.args.placed.now (c.args.j - 1) None) (c.args.j - 1) =
    same_Some c.in-Some.start _ (sym c.in-Some.is ∙ c.requires.last) in
    let used : IsUsageOf (in_use c.in_ok-made.made) (problem_of c.args.instance.now) (set c.args.placed.now (c.args.j - 1) None) =
    subst (λ (f : ℕ → ℕ → ℕ). IsUsageOf f (problem_of c.args.instance.now) (set c.args.placed.now (c.args.j - 1) None)) (sym c.in_ok-made.ensures.same) c.requires.holds.used in
    let fitting : fits (problem_of c.args.instance.now) (set c.args.placed.now (c.args.j - 1) None) (c.args.j - 1) c.in-Some.start ≡ true =
    subst (λ (t : ℕ). fits (problem_of c.args.instance.now) (set c.args.placed.now (c.args.j - 1) None)
    (c.args.j - 1) t ≡ true) (sym start) (earliest_is p before
    (c.args.j - 1) c.network.ensures.instance.fit inside).fitting in
    fits_back (in_use c.in_ok-made.made) (capacities c.in_ok-made.made) p before
    (c.args.j - 1) c.in-Some.start c.duration-duration.result c.needs-needs.result.now
    (c.in_ok-made.ensures.caps ∙ c.requires.holds.caps) lasts needs used fitting

pub returns : goal.returns
returns c =
    let i = c.args.instance.now in
    let p = problem_of c.args.instance.now in
    let before = set c.args.placed.now (c.args.j - 1) None in
    let inside = activity_place i c.args.j c.requires.activity in
    let lasts : c.duration-duration.result ≡ duration (problem_of c.args.instance.now) (c.args.j - 1) =
    c.duration-duration.ensures.value ∙ ap (λ (n : Net). duration_of n c.args.j) c.network.ensures.network ∙ duration_place c.args.instance.now c.args.j c.requires.activity in
    let needs = needs_place i c.args.j c.needs-needs.result.now c.requires.activity c.needs-needs.ensures.row in
    let start : c.in-Some.start ≡ earliest (problem_of c.args.instance.now) (set c.args.placed.now (c.args.j - 1) None) (c.args.j - 1) =
    same_Some c.in-Some.start _ (sym c.in-Some.is ∙ c.requires.last) in
    let used : IsUsageOf (in_use c.in_ok-made.made) (problem_of c.args.instance.now) (set c.args.placed.now (c.args.j - 1) None) =
    subst (λ (f : ℕ → ℕ → ℕ). IsUsageOf f (problem_of c.args.instance.now) (set c.args.placed.now (c.args.j - 1) None)) (sym c.in_ok-made.ensures.same) c.requires.holds.used in
    let open_place : get_or (set c.args.placed.now (c.args.j - 1) None) (c.args.j - 1) None ≡ None =
    get_or-set_same c.args.placed.now (c.args.j - 1) None None (omega (arith, inside, c.requires.partial.size)) in
    let again : set (set c.args.placed.now (c.args.j - 1) None) (c.args.j - 1) (Some c.in-Some.start) ≡ c.args.placed.now =
    set-set c.args.placed.now (c.args.j - 1) None (Some c.in-Some.start)
    ∙ ap (λ (o : Option ℕ). set c.args.placed.now (c.args.j - 1) o) (sym c.in-Some.is)
    ∙ set-get_or c.args.placed.now (c.args.j - 1) None in
    record {
      caps = c.in_ok-place.ensures.caps ∙ c.in_ok-made.ensures.caps ∙ c.requires.holds.caps;
      used = subst (IsUsageOf (in_use c.place.new.self) p) again
          (held_after (in_use c.in_ok-made.made) (in_use c.place.new.self) p before
          (c.args.j - 1) c.in-Some.start c.duration-duration.result c.needs-needs.result.now
          (length-set c.args.placed.now (c.args.j - 1) None ∙ c.requires.partial.size) inside open_place lasts needs used c.in_ok-place.ensures.ok);
    }
