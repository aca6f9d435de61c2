-- The list is placed from the first entry on, in an empty profile.
use Rattle.std.proofs.Common.{ℕ, ◌≡◌, List, length, map, replicate, Option, None, sym, ◌∙◌, ap, subst, arith, rules}
use Rattle.plan_net.specs.Network.{count_of}
use Rattle.plan_profile.specs.InUse.{in_use}
use Rattle.plan_sgs.specs.Problem.{count, usage}
use Rattle.plan_sgs.specs.Serial.{unplaced, start_or_zero}
use Rattle.plan_sgs.specs.Instances.{problem_of}
use Rattle.plan_sgs.specs.Placement.{AllEndBy}
use Rattle.plan_sgs.proofs.InstanceLemmas.{count-problem, capacities-problem}
use Rattle.plan_sgs.proofs.BoundedLemmas.{bounded}
use Rattle.plan_sgs.proofs.PlaceLemmas.{none_used}
use Rattle.plan_sgs.proofs.MadeLemmas.{made}
use Rattle.plan_sgs.proofs.placement.schedule_of.Goals as goal

pub place_all-requires-clause-none : goal.place_all-requires-clause-none
place_all-requires-clause-none c =
    let none : c.in_ok-placed.placed.items ≡ replicate c.len.result None = search rules in
    let size : c.len.result ≡ count (problem_of c.args.instance.now) = c.len.ensures.count ∙ ap count_of c.network.ensures.network ∙ sym (count-problem c.args.instance.now) in
    none ∙ ap unplaced size

pub place_all-requires-clause-holds : goal.place_all-requires-clause-holds
place_all-requires-clause-holds c =
    let none : c.in_ok-placed.placed.items ≡ replicate c.len.result None = search rules in
    let size : c.len.result ≡ count (problem_of c.args.instance.now) = c.len.ensures.count ∙ ap count_of c.network.ensures.network ∙ sym (count-problem c.args.instance.now) in
    let caps = c.in_ok-profile.ensures.caps ∙ c.in_ok-caps.ensures.items ∙ c.caps.ensures ∙ sym (capacities-problem c.args.instance.now) in
    record {
      caps = caps;
      used = λ t k within. none_used (in_use c.in_ok-profile.profile)
          (problem_of c.args.instance.now) c.in_ok-profile.ensures.none t k within
          ∙ ap (λ (xs : List (Option ℕ)). usage (problem_of c.args.instance.now) xs t k)
          (sym (none ∙ ap unplaced size));
    }

pub makespan_of-makespan-requires-clause-size : goal.makespan_of-makespan-requires-clause-size
makespan_of-makespan-requires-clause-size c =
    let none : c.in_ok-placed.placed.items ≡ replicate c.len.result None = search rules in
    let size : c.len.result ≡ count (problem_of c.args.instance.now) = c.len.ensures.count ∙ ap count_of c.network.ensures.network ∙ sym (count-problem c.args.instance.now) in
    let starts : c.in_ok-starts.starts.items ≡ map start_or_zero c.place_all.new.placed.items = c.in_ok-starts.ensures ∙ ap (map start_or_zero) c.deref.ensures.value in
    let all = made (problem_of c.args.instance.now) c.args.list.now c.in_ok-starts.starts.items
    c.in_ok-placed.placed.items c.place_all.new.placed.items
    (bounded c.args.instance.now c.network.ensures.instance) c.requires
    (none ∙ ap unplaced size) c.in_ok-place_all.ensures.ok c.in_ok-place_all.ensures.ends starts in
    let same : length c.deref-2.result.now ≡ length c.in_ok-starts.starts.items = ap (λ (xs : List ℕ). length xs) c.deref-2.ensures.value in
    omega (arith, same, all.active.feasible.each_started)

pub makespan_of-makespan-requires-clause-ends : goal.makespan_of-makespan-requires-clause-ends
makespan_of-makespan-requires-clause-ends c =
    let none : c.in_ok-placed.placed.items ≡ replicate c.len.result None = search rules in
    let size : c.len.result ≡ count (problem_of c.args.instance.now) = c.len.ensures.count ∙ ap count_of c.network.ensures.network ∙ sym (count-problem c.args.instance.now) in
    let starts : c.in_ok-starts.starts.items ≡ map start_or_zero c.place_all.new.placed.items = c.in_ok-starts.ensures ∙ ap (map start_or_zero) c.deref.ensures.value in
    let all = made (problem_of c.args.instance.now) c.args.list.now c.in_ok-starts.starts.items
    c.in_ok-placed.placed.items c.place_all.new.placed.items
    (bounded c.args.instance.now c.network.ensures.instance) c.requires
    (none ∙ ap unplaced size) c.in_ok-place_all.ensures.ok c.in_ok-place_all.ensures.ends starts in
    subst (λ (xs : List ℕ). AllEndBy (problem_of c.args.instance.now) xs 6020000) (sym c.deref-2.ensures.value) all.ends

pub returns-clause-starts : goal.returns-clause-starts
returns-clause-starts c =
    let none : c.in_ok-placed.placed.items ≡ replicate c.len.result None = search rules in
    let size : c.len.result ≡ count (problem_of c.args.instance.now) = c.len.ensures.count ∙ ap count_of c.network.ensures.network ∙ sym (count-problem c.args.instance.now) in
    let starts : c.in_ok-starts.starts.items ≡ map start_or_zero c.place_all.new.placed.items = c.in_ok-starts.ensures ∙ ap (map start_or_zero) c.deref.ensures.value in
    let all = made (problem_of c.args.instance.now) c.args.list.now c.in_ok-starts.starts.items
    c.in_ok-placed.placed.items c.place_all.new.placed.items
    (bounded c.args.instance.now c.network.ensures.instance) c.requires
    (none ∙ ap unplaced size) c.in_ok-place_all.ensures.ok c.in_ok-place_all.ensures.ends starts in
    all.serial

pub returns-clause-active : goal.returns-clause-active
returns-clause-active c =
    let none : c.in_ok-placed.placed.items ≡ replicate c.len.result None = search rules in
    let size : c.len.result ≡ count (problem_of c.args.instance.now) = c.len.ensures.count ∙ ap count_of c.network.ensures.network ∙ sym (count-problem c.args.instance.now) in
    let starts : c.in_ok-starts.starts.items ≡ map start_or_zero c.place_all.new.placed.items = c.in_ok-starts.ensures ∙ ap (map start_or_zero) c.deref.ensures.value in
    let all = made (problem_of c.args.instance.now) c.args.list.now c.in_ok-starts.starts.items
    c.in_ok-placed.placed.items c.place_all.new.placed.items
    (bounded c.args.instance.now c.network.ensures.instance) c.requires
    (none ∙ ap unplaced size) c.in_ok-place_all.ensures.ok c.in_ok-place_all.ensures.ends starts in
    all.active

pub returns-clause-ends : goal.returns-clause-ends
returns-clause-ends c =
    let none : c.in_ok-placed.placed.items ≡ replicate c.len.result None = search rules in
    let size : c.len.result ≡ count (problem_of c.args.instance.now) = c.len.ensures.count ∙ ap count_of c.network.ensures.network ∙ sym (count-problem c.args.instance.now) in
    let starts : c.in_ok-starts.starts.items ≡ map start_or_zero c.place_all.new.placed.items = c.in_ok-starts.ensures ∙ ap (map start_or_zero) c.deref.ensures.value in
    let all = made (problem_of c.args.instance.now) c.args.list.now c.in_ok-starts.starts.items
    c.in_ok-placed.placed.items c.place_all.new.placed.items
    (bounded c.args.instance.now c.network.ensures.instance) c.requires
    (none ∙ ap unplaced size) c.in_ok-place_all.ensures.ok c.in_ok-place_all.ensures.ends starts in
    all.ends
