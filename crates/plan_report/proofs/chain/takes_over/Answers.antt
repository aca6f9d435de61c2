use Rattle.std.proofs.Common.{false, refl, arith}
use Rattle.std.proofs.lemmas.Bool.{both_ways}
use Rattle.plan_report.proofs.DueLemmas.{same_duration}
use Rattle.plan_report.proofs.chain.takes_over.Goals as goal
use Rattle.plan_report.proofs.chain.takes_over.Goals.{else-first-gt0-via-then-first-gt0+then-second-gt0+else-end-starts}
use Rattle.plan_report.proofs.chain.takes_over.Goals.{else-first-gt0-via-then-first-gt0+else-second-gt0, else-first-gt0-via-else-first-gt0}

pub returns-then-end-starts : goal.returns-then-end-starts
returns-then-end-starts c =
    let i = c.args.instance.now in
    let is = c.network-network.ensures.network in
    let first = same_duration i c.network-network.result.now c.args.i c.duration-first.result is c.requires.before c.duration-first.ensures.value in
    let second = same_duration i c.network-network.result.now c.args.j c.duration-second.result is c.requires.after c.duration-second.ensures.value in (
      λ yes. record {
        first_lasts = omega (arith, c.if-first-gt0.true, first);
        then_lasts = omega (arith, c.if-second-gt0.true, second);
        meets = omega (arith, c.if-end-starts.true, first);
        shared = c.share_resource.ensures.0 yes;
      },
      λ over. c.share_resource.ensures.1 over.shared,
    )

pub returns : goal.returns
returns c =
    let i = c.args.instance.now in
    let is = c.network-network.ensures.network in
    let first = same_duration i c.network-network.result.now c.args.i c.duration-first.result is c.requires.before c.duration-first.ensures.value in
    let second = same_duration i c.network-network.result.now c.args.j c.duration-second.result is c.requires.after c.duration-second.ensures.value in (
      λ no. absurd (both_ways false refl no),
      λ over. elim c.else-first-gt0.branch [
        | else-first-gt0-via-then-first-gt0+then-second-gt0+else-end-starts w ↦ absurd (omega (arith, w.if-end-starts.false, over.meets, first))
        | else-first-gt0-via-then-first-gt0+else-second-gt0 w ↦ absurd (omega (arith, w.if-second-gt0.false, over.then_lasts, second))
        | else-first-gt0-via-else-first-gt0 w ↦ absurd (omega (arith, w.if-first-gt0.false, over.first_lasts, first))
      ],
    )
