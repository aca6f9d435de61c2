use Rattle.std.proofs.lemmas.List.{take_all}
use Rattle.plan_kernel.proofs.ReasonLemmas.{within_more, energy_follows}
use Rattle.plan_kernel.proofs.reason.fill_energy.Goals as goal

pub loop-member-preserved : goal.loop-member-preserved
loop-member-preserved c starts short fail =
    let filled = c.in_ok-fill_member.ensures starts short fail in
    within_more c.args.input.now c.args.from c.args.until c.loop-member.member-index starts c.args.members.now c.loop-member-test.true
    (c.loop-member.invariant starts short filled.0) filled.1

pub returns : goal.returns
returns c _ starts short fail =
    let members = c.args.members.now in
    let whole = take_all c.loop-member.member-index members c.loop-member-test.false in
    energy_follows c.args.input.now c.args.resource c.args.from c.args.until members starts (c.is_overloaded.ensures c.if-not-is_overloaded.false) short
    (rw whole at (c.loop-member.invariant starts short fail))
