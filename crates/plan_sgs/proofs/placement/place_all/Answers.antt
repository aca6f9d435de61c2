-- One more entry at each turn.
use Rattle.std.proofs.Common.{ℕ, ◌≡◌, ◌+◌, ◌≤◌, List, get_or, set, Option, Some, None, sym, ◌∙◌, ap, subst, arith}
use Rattle.plan_sgs.specs.Serial.{earliest, serial_from}
use Rattle.plan_sgs.specs.Rules.{places}
use Rattle.plan_sgs.specs.Instances.{problem_of}
use Rattle.plan_sgs.proofs.InstanceLemmas.{count-problem}
use Rattle.plan_sgs.proofs.SerialLemmas.{list_parts}
use Rattle.plan_sgs.proofs.BoundedLemmas.{bounded}
use Rattle.plan_sgs.proofs.RunLemmas.{IsRun, run_starts, run_open, run_more, run_ends, entry_place, length-places}
use Rattle.plan_sgs.proofs.placement.place_all.Goals as goal

pub place_next-requires-clause-activity : goal.place_next-requires-clause-activity
place_next-requires-clause-activity c =
    let p = problem_of c.args.instance.now in
    let js = places c.args.list.now in
    let next = run_open p js c.loop-j.j-index c.loop-j.placed.items
    (bounded c.args.instance.now c.requires.instance)
    (list_parts p js c.requires.list.1).0 c.loop-j.invariant.run
    (omega (arith, c.loop-j-test.true, length-places c.args.list.now)) in
    let first : 1 ≤ get_or c.args.list.now c.loop-j.j-index 0 = c.requires.list.0 c.loop-j.j-index 0 c.loop-j-test.true in
    (first, omega (arith, first, next.inside, entry_place c.args.list.now c.loop-j.j-index c.loop-j-test.true, count-problem c.args.instance.now))

pub place_next-requires-clause-open : goal.place_next-requires-clause-open
place_next-requires-clause-open c =
    let p = problem_of c.args.instance.now in
    let js = places c.args.list.now in
    let next = run_open p js c.loop-j.j-index c.loop-j.placed.items
    (bounded c.args.instance.now c.requires.instance)
    (list_parts p js c.requires.list.1).0 c.loop-j.invariant.run
    (omega (arith, c.loop-j-test.true, length-places c.args.list.now)) in
    subst (λ (x : ℕ). get_or c.loop-j.placed.items x None ≡ None) (entry_place c.args.list.now c.loop-j.j-index c.loop-j-test.true) next.none

pub place_next-requires-clause-partial : goal.place_next-requires-clause-partial
place_next-requires-clause-partial c =
    let p = problem_of c.args.instance.now in
    let js = places c.args.list.now in
    record {
      size = c.loop-j.invariant.run.size;
      ends = (run_open p js c.loop-j.j-index c.loop-j.placed.items
          (bounded c.args.instance.now c.requires.instance)
          (list_parts p js c.requires.list.1).0 c.loop-j.invariant.run
          (omega (arith, c.loop-j-test.true, length-places c.args.list.now))).ends;
    }

pub loop-j-init : goal.loop-j-init
loop-j-init c = record {
  run = run_starts (problem_of c.args.instance.now) (places c.args.list.now) c.args.placed.now.items c.requires.list.1 c.requires.none;
  holds = c.requires.holds;
}

pub loop-j-preserved : goal.loop-j-preserved
loop-j-preserved c =
    let p = problem_of c.args.instance.now in
    let js = places c.args.list.now in
    let more : IsRun (problem_of c.args.instance.now) (places c.args.list.now) (c.loop-j.j-index + 1)
    (set c.loop-j.placed.items (get_or (places c.args.list.now) c.loop-j.j-index 0)
    (Some (earliest (problem_of c.args.instance.now) c.loop-j.placed.items
    (get_or (places c.args.list.now) c.loop-j.j-index 0)))) =
    run_more p js c.loop-j.j-index c.loop-j.placed.items (bounded c.args.instance.now c.requires.instance) c.loop-j.invariant.run (omega (arith, c.loop-j-test.true, length-places c.args.list.now)) in
    let here = subst (λ (x : ℕ). IsRun (problem_of c.args.instance.now) (places c.args.list.now)
    (c.loop-j.j-index + 1) (set c.loop-j.placed.items x
    (Some (earliest (problem_of c.args.instance.now) c.loop-j.placed.items x))))
    (entry_place c.args.list.now c.loop-j.j-index c.loop-j-test.true) more in
    record {
      run = subst (IsRun p js (c.loop-j.j-index + 1)) (sym c.in_ok-place_next.ensures.ok) here;
      holds = c.in_ok-place_next.ensures.holds;
    }

pub returns-clause-ok : goal.returns-clause-ok
returns-clause-ok c =
    let p = problem_of c.args.instance.now in
    let js = places c.args.list.now in
    let all = run_ends p js c.loop-j.j-index c.loop-j.placed.items
    (bounded c.args.instance.now c.requires.instance)
    (list_parts p js c.requires.list.1).0 c.loop-j.invariant.run
    (omega (arith, c.loop-j-test.false, length-places c.args.list.now)) in
    all.0 ∙ ap (λ (xs : List (Option ℕ)). serial_from (problem_of c.args.instance.now) xs (places c.args.list.now)) (sym c.requires.none)

pub returns-clause-ends : goal.returns-clause-ends
returns-clause-ends c =
    let p = problem_of c.args.instance.now in
    let js = places c.args.list.now in
    (run_ends p js c.loop-j.j-index c.loop-j.placed.items (bounded c.args.instance.now c.requires.instance)
    (list_parts p js c.requires.list.1).0 c.loop-j.invariant.run
    (omega (arith, c.loop-j-test.false, length-places c.args.list.now))).1
