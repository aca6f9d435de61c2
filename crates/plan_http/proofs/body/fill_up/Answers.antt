use Rattle.std.proofs.Common.{◌<◌, ◌∙◌, length, arith}
use Rattle.std.proofs.lemmas.Bool.Decides.{nat_tests}
use Rattle.plan_http.proofs.ClientLemmas.{reads_then}
use Rattle.plan_http.proofs.BodyLemmas.{ended}
use Rattle.plan_http.proofs.body.fill_up.Goals as goal

pub loop-preserved : goal.loop-preserved
loop-preserved g c =
    let some : 0 < c.in_ok-came.came = grind (arith, nat_tests) in record {
      within = c.in_ok-came.ensures.within;
      each = omega (arith, some, c.loop.invariant.each);
      calls = omega (arith, c.in_ok-came.ensures.counted.0, c.loop.invariant.calls);
      faults = c.in_ok-came.ensures.counted.1 ∙ c.loop.invariant.faults;
      split =
          reads_then (g.R.Client.known c.args.reader.now) (g.R.Client.known c.loop.reader) (g.R.Client.known c.fill.new.reader)
          c.loop.invariant.split c.in_ok-came.ensures.bytes (λ had between left split fill bytes s. (fill bytes (split bytes s)).0);
    }

pub returns-then-came-eq0-clause-bytes : goal.returns-then-came-eq0-clause-bytes
returns-then-came-eq0-clause-bytes g c =
    let short : c.loop.filled < length c.fill.new.buf = omega (arith, c.fill.auto.buf, c.loop.invariant.within) in
    reads_then (g.R.Client.known c.args.reader.now) (g.R.Client.known c.loop.reader) (g.R.Client.known c.fill.new.reader)
    c.loop.invariant.split c.in_ok-came.ensures.bytes (λ had between left split fill bytes s.
    let after = fill bytes (split bytes s) in
    let end = after.1 c.if-came-eq0.true in
    (ended bytes c.fill.new.buf left c.loop.filled c.in_ok-came.came after.0 c.if-came-eq0.true end short, end))
