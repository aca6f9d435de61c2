use Rattle.std.proofs.Common.{◌<◌, ◌∙◌, arith}
use Rattle.std.proofs.lemmas.Bool.Decides.{nat_tests}
use Rattle.plan_http.proofs.ClientLemmas.{reads_map, reads_then}
use Rattle.plan_http.proofs.BodyLemmas.{at_least, too_few}
use Rattle.plan_http.proofs.body.skip_body.Goals as goal

pub loop-preserved : goal.loop-preserved
loop-preserved g c =
    let some : 0 < c.in_ok-came.came = grind (arith, nat_tests) in record {
      each = omega (arith, some, c.loop.invariant.each);
      calls = omega (arith, c.in_ok-came.ensures.counted.0, c.loop.invariant.calls);
      faults = c.in_ok-came.ensures.counted.1 ∙ c.loop.invariant.faults;
      left =
          reads_then (g.R.Client.known c.args.reader.now) (g.R.Client.known c.loop.reader) (g.R.Client.known c.skip.new.reader)
          c.loop.invariant.left c.in_ok-came.ensures.bytes (λ had between left before skip total h. (skip total c.loop.filled (before total h)).0);
    }

pub returns-then-count-filled-clause-whole : goal.returns-then-count-filled-clause-whole
returns-then-count-filled-clause-whole g c =
    reads_map (g.R.Client.known c.args.reader.now) (g.R.Client.known c.loop.reader) c.loop.invariant.left
    (λ had left before total h. at_least total c.loop.filled c.args.count left (before total h) (omega (arith, c.if-count-filled.true)))

pub returns-then-came-eq0-clause-whole : goal.returns-then-came-eq0-clause-whole
returns-then-came-eq0-clause-whole g c =
    reads_then (g.R.Client.known c.args.reader.now) (g.R.Client.known c.loop.reader) (g.R.Client.known c.skip.new.reader)
    c.loop.invariant.left c.in_ok-came.ensures.bytes (λ had between left before skip total h.
    let next = skip total c.loop.filled (before total h) in
    too_few total c.loop.filled c.in_ok-came.came c.args.count left next.0 c.if-came-eq0.true (next.1 c.if-came-eq0.true) (omega (arith, c.if-count-filled.false)))

pub returns-clause-whole : goal.returns-clause-whole
returns-clause-whole g c =
    reads_map (g.R.Client.known c.args.reader.now) (g.R.Client.known c.loop.reader) c.loop.invariant.left
    (λ had left before total h. at_least total c.loop.filled c.args.count left (before total h) (omega (arith, c.loop.invariant.each, c.loop-test.false)))
