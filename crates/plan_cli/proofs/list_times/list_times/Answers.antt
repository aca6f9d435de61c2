use Rattle.std.proofs.Common.{rules, ◌≡◌, ◌<◌, List, length, map, arith}
use Rattle.plan_table.specs.Table.{activity_of}
use Rattle.plan_cli.specs.ListTimes.{calendar_in}
use Rattle.plan_cli.proofs.ListTimeLemmas.{activity_at, no_times, next_times, day_beyond}
use Rattle.plan_cli.proofs.list_times.list_times.Goals as goal

pub loop-k-init : goal.loop-k-init
loop-k-init c =
    no_times (calendar_in c.args.calendar) c.args.table.now c.args.starts.now c.args.slacks.now c.new-all.result.items c.new-all.ensures.items

pub returns-in_err-times-clause-beyond : goal.returns-in_err-times-clause-beyond
returns-in_err-times-clause-beyond c is =
    let list = c.deref-activity-items.result.now in
    let same : c.args.table.now.activities ≡ map activity_of list = search rules in
    let at = activity_at c.args.table.now list c.loop-k.k c.activity-item.result same (omega (arith, c.loop-k-test.true)) c.activity-item.is in
    day_beyond (calendar_in c.args.calendar) c.args.table.now c.args.starts.now c.loop-k.k (activity_of c.activity-item.result)
    c.number_at-start.result at c.number_at-start.ensures (c.in_err-times.ensures.beyond (search rules))

pub loop-k-preserved : goal.loop-k-preserved
loop-k-preserved c =
    let list = c.deref-activity-items.result.now in
    let same : c.args.table.now.activities ≡ map activity_of list = search rules in
    let at = activity_at c.args.table.now list c.loop-k.k c.activity-item.result same (omega (arith, c.loop-k-test.true)) c.activity-item.is in
    next_times (calendar_in c.args.calendar) c.args.table.now c.args.starts.now c.args.slacks.now c.loop-k.k (activity_of c.activity-item.result)
    c.number_at-start.result c.number_at-slack.result c.loop-k.all.items c.push.new.self.items c.in_ok-times.times c.loop-k.invariant at c.number_at-start.ensures
    c.number_at-slack.ensures (search rules) (search rules)
