use Rattle.std.proofs.Common.{◌<◌, false, get_or, refl, ◌∙◌, arith}
use Rattle.std.proofs.lemmas.Bool.{both_ways}
use Rattle.plan_sgs.proofs.Shifts.{shift_from_start, start_from_shift}
use Rattle.plan_shop.specs.Shop.{problem_of}
use Rattle.plan_shop.proofs.ShopBasics.{count_is}
use Rattle.plan_shop.proofs.CheckLemmas.{release_releases, release_least, released_later, end_later, end_behind, free_way}
use Rattle.plan_shop.proofs.checks.shifts.can_shift.Goals as goal

pub bounds-starts-x : goal.bounds-starts-x
bounds-starts-x c = omega (arith, c.requires.step, c.requires.feasible.each_started, count_is c.args.shop.now)

pub release_of-at-requires-clause-whole : goal.release_of-at-requires-clause-whole
release_of-at-requires-clause-whole c = c.requires.feasible.each_started ∙ count_is c.args.shop.now

pub loop-at-init : goal.loop-at-init
loop-at-init c = record {
  released = release_releases c.args.shop.now c.args.starts.now c.args.x c.release_of-at.result c.release_of-at.ensures;
  least = λ t can. release_least c.args.shop.now c.args.starts.now c.args.x c.release_of-at.result t c.requires.step c.release_of-at.ensures can.released;
}

pub end_in_the_way-requires-clause-whole : goal.end_in_the_way-requires-clause-whole
end_in_the_way-requires-clause-whole c = c.requires.feasible.each_started ∙ count_is c.args.shop.now

pub loop-at-preserved : goal.loop-at-preserved
loop-at-preserved c =
    let s = c.args.shop.now in
    let starts = c.args.starts.now in
    let x = c.args.x in
    let behind = c.in-Some.ensures.some in
    record {
      released = released_later (problem_of s) starts x c.loop-at.at c.in-Some.end c.loop-at.invariant.released (end_later s starts x c.loop-at.at c.in-Some.end behind);
      least = λ t can. end_behind s starts x c.loop-at.at c.in-Some.end t c.requires.shop.shop
          (c.requires.feasible.each_started ∙ count_is s) c.requires.step behind
          (c.loop-at.invariant.least t can) can;
    }

pub returns-in-None : goal.returns-in-None
returns-in-None c =
    let s = c.args.shop.now in
    let starts = c.args.starts.now in
    let x = c.args.x in
    let can = free_way s starts x c.loop-at.at c.requires.step c.requires.feasible c.loop-at-test.true c.loop-at.invariant.released c.in-None.ensures.none in
    (λ yes. shift_from_start (problem_of s) starts x c.loop-at.at c.requires.feasible (omega (arith, c.requires.step, count_is s)) can, λ has. refl)

pub returns : goal.returns
returns c =
    let s = c.args.shop.now in
    let starts = c.args.starts.now in
    let x = c.args.x in (
      λ no. absurd (both_ways false refl no),
      λ has.
          let start = start_from_shift (problem_of s) starts x c.requires.feasible has in
          let early : start.0 < get_or starts x 0 = start.1.earlier in
          absurd (omega (arith, early, c.loop-at.invariant.least start.0 start.1, c.loop-at-test.false)),
    )
