use Rattle.std.proofs.Common.{rules, ◌≡◌, ◌+◌, length}
use Rattle.plan_weekcompare.proofs.RowLemmas.{pushed_row}
use Rattle.plan_weekcompare.proofs.schedules.WeekSchedule.push.Goals as goal

pub returns : goal.returns
returns c =
    let old = c.args.self.now in
    let number : c.len-number.result ≡ length old.starts.items + 1 = search rules in
    pushed_row old.ids.items c.push-2.new.self.items old.starts.items c.push.new.self.items _ c.args.start
    old.numbered number c.in_ok-push-2.ensures.items c.in_ok-push.ensures.items
