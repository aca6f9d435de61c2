use Rattle.std.proofs.Common.{rules, ◌++◌, arith}
use Rattle.plan_http.proofs.SendingLemmas.{sent_next}
use Rattle.plan_http.proofs.output.send_parts.Goals as goal

pub loop-preserved : goal.loop-preserved
loop-preserved g c = record {
  calls = omega (arith, c.in-Ok.ensures.counted.0, c.loop.invariant.calls);
  faults = search rules;
  within = omega (arith, c.in-Ok.ensures.within, c.rest_of.ensures.within);
  written =
      sent_next (g.W.Sink.taken c.args.writer.now) (g.W.Sink.taken c.loop.writer) (g.W.Sink.taken c.write.new.self) (c.args.first.now ++ c.args.second.now)
      c.rest_of.result.now c.loop.sent c.in-Ok.n c.rest_of.ensures.front c.in-Ok.ensures.within c.loop.invariant.written c.in-Ok.ensures.bytes;
}
