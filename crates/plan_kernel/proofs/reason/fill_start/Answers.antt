use Rattle.plan_kernel.specs.Literals.{Fails}
use Rattle.plan_kernel.proofs.ReasonLemmas.{fails_last, start_follows}
use Rattle.plan_kernel.proofs.reason.fill_start.Goals as goal

pub returns : goal.returns
returns c _ starts short fail =
    let input = c.args.input.now in
    let last = fails_last (Fails input starts) c.push.new.self.items c.push-2.new.self.items c.at_least.result c.in_ok-push-2.ensures.items fail in
    let first = fails_last (Fails input starts) c.clear.new.self.items c.push.new.self.items c.below-early.result c.in_ok-push.ensures.items last.1 in
    start_follows input starts c.args.activity c.args.value short (c.is_activity.ensures c.if-not-is_activity.false)
    (rw c.below-early.ensures at first.0) (rw c.at_least.ensures at last.0)
