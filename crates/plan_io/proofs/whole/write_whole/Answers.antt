use Rattle.std.proofs.Common.{rules, arith, ◌-◌, ℕ, Result, subst, drop, length, take}
use Rattle.std.specs.Io.KnownBytes.{WriteAppends}
use Rattle.plan_io.specs.Devices.{IsCounted}
use Rattle.plan_io.specs.declared.traits.DeviceFault.{DeviceFault}
use Rattle.plan_io.proofs.SentLemmas.{appends_next, mapped_ok}
use Rattle.plan_io.proofs.whole.write_whole.Goals as goal

pub loop-preserved : goal.loop-preserved
loop-preserved g c =
    let sink = g.W.Sink in
    let n = c.in_ok-sent.field-0 in
    let left = take (length c.args.bytes.now - c.loop.sent) (drop c.loop.sent c.args.bytes.now) in
    let was = mapped_ok c.write.result c.map_err.result n _ c.map_err.ensures.cases c.in_ok-sent.was in
    let counted = subst (λ (r : Result ℕ DeviceFault). IsCounted (sink.calls c.loop.writer)
    (sink.calls c.write.new.self) (sink.faults c.loop.writer) (sink.faults c.write.new.self) r)
    was c.write.ensures.counted in
    let bytes = subst (λ (r : Result ℕ DeviceFault). WriteAppends (sink.taken c.loop.writer)
    (sink.taken c.write.new.self) r left) was c.write.ensures.bytes in
    record {
      calls = omega (arith, counted.0, c.loop.invariant.calls);
      faults = search rules;
      within = search rules;
      written = appends_next (sink.taken c.args.writer.now) (sink.taken c.loop.writer)
          (sink.taken c.write.new.self) c.args.bytes.now c.loop.sent n c.loop.invariant.written bytes;
    }
