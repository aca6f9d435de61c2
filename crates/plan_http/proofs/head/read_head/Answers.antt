use Rattle.std.proofs.Common.{◌+◌, ◌<◌, ◌∙◌, take, nat_eq, refl, arith}
use Rattle.std.proofs.lemmas.List.{length-take-le}
use Rattle.plan_http.proofs.ClientLemmas.{reads_then}
use Rattle.plan_http.proofs.ReadingLemmas.{nothing_more, came_some}
use Rattle.plan_http.proofs.head.read_head.Goals as goal

pub loop-preserved : goal.loop-preserved
loop-preserved g c =
    let long = length-take-le (c.loop.filled + c.in-Ok.came) c.fill.new.buf c.in-Ok.ensures.within in
    let some : 0 < c.in-Ok.came = came_some c.in-Ok.came c.in-Unfinished.ensures.within.1 in record {
      short = omega (arith, long, c.in-Unfinished.ensures.within.0);
      each = omega (arith, some, c.loop.invariant.each);
      calls = omega (arith, c.in-Ok.ensures.counted.0, c.loop.invariant.calls);
      faults = c.in-Ok.ensures.counted.1 ∙ c.loop.invariant.faults;
      split =
          reads_then (g.R.Client.known c.args.reader.now) (g.R.Client.known c.loop.reader) (g.R.Client.known c.fill.new.reader)
          c.loop.invariant.split c.in-Ok.ensures.bytes (λ had between left split fill bytes is. (fill bytes (split bytes is)).0);
    }

pub returns-in_default-clause-outcome : goal.returns-in_default-clause-outcome
returns-in_default-clause-outcome g c =
    reads_then (g.R.Client.known c.args.reader.now) (g.R.Client.known c.loop.reader) (g.R.Client.known c.fill.new.reader)
    c.loop.invariant.split c.fill.ensures.bytes (λ had between left split fill bytes is. tt)

pub returns-in-Whole-clause-outcome : goal.returns-in-Whole-clause-outcome
returns-in-Whole-clause-outcome g c =
    reads_then (g.R.Client.known c.args.reader.now) (g.R.Client.known c.loop.reader) (g.R.Client.known c.fill.new.reader)
    c.loop.invariant.split c.in-Ok.ensures.bytes (λ had between left split fill bytes is.
    let after = fill bytes (split bytes is) in
    let front = take (c.loop.filled + c.in-Ok.came) c.fill.new.buf in
    let none = nothing_more bytes front left after.0 (nat_eq c.in-Ok.came 0) c.in-Ok.came refl after.1 in
    (c.in-Whole.ensures.judged bytes after.0.more after.0.whole none, after.0))

pub returns-in-Hopeless-clause-outcome : goal.returns-in-Hopeless-clause-outcome
returns-in-Hopeless-clause-outcome g c =
    reads_then (g.R.Client.known c.args.reader.now) (g.R.Client.known c.loop.reader) (g.R.Client.known c.fill.new.reader)
    c.loop.invariant.split c.in-Ok.ensures.bytes (λ had between left split fill bytes is.
    let after = fill bytes (split bytes is) in
    let front = take (c.loop.filled + c.in-Ok.came) c.fill.new.buf in
    let none = nothing_more bytes front left after.0 (nat_eq c.in-Ok.came 0) c.in-Ok.came refl after.1 in
    c.in-Hopeless.ensures.judged bytes after.0.more after.0.whole none)
