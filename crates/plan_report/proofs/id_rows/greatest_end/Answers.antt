use Rattle.std.proofs.Common.{map, arith}
use Rattle.plan_report.specs.Sheet.{id_entry_of}
use Rattle.plan_report.specs.IdRows.{end_at}
use Rattle.plan_report.proofs.MakespanLemmas.{greater_is, greatest_more}
use Rattle.plan_report.proofs.id_rows.greatest_end.Goals as goal

pub loop-i-preserved : goal.loop-i-preserved
loop-i-preserved c =
    let ends = end_at (map id_entry_of c.args.entries.now) c.args.starts.now in
    let greater = greater_is c.loop-i.latest c.end_at.result c.max-latest.result c.max-latest.ensures in
    omega (arith, greater, c.end_at.ensures, c.loop-i.invariant, greatest_more c.loop-i.i ends)
