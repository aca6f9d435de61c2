use Rattle.std.proofs.Common.{sym, ◌∙◌, arith}
use Rattle.plan_table.specs.Csv.{machine_of}
use Rattle.plan_table.proofs.KindLemmas.{found_now, scanned_more, no_content}
use Rattle.plan_table.proofs.records.scanned_to_content.Goals as goal

pub returns-then-branch : goal.returns-then-branch
returns-then-branch c =
    let fed = c.in_ok-feed_to_content.ensures in
    found_now c.args.delimiter c.args.text.now c.loop-byte.byte-index (machine_of c.loop-byte.machine) (machine_of c.feed_to_content.new.self)
    c.loop-byte-test.true c.loop-byte.invariant.scanned fed.fed (sym fed.content ∙ c.if-branch.true)

pub loop-byte-preserved : goal.loop-byte-preserved
loop-byte-preserved c =
    let fed = c.in_ok-feed_to_content.ensures in
    let m = machine_of c.feed_to_content.new.self in
    record {
      scanned = scanned_more c.args.delimiter c.args.text.now c.loop-byte.byte-index (machine_of c.loop-byte.machine) m
          c.loop-byte-test.true c.loop-byte.invariant.scanned fed.fed;
      lines = omega (arith, c.loop-byte.invariant.lines, fed.limit);
      blank = no_content m.rows (sym fed.content ∙ c.if-branch.false);
    }
