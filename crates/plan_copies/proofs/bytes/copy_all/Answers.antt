use Rattle.std.proofs.Common.{rules, arith}
use Rattle.plan_copies.proofs.ByteLemmas.{any_err, moved_next, part_next}
use Rattle.plan_copies.proofs.bytes.copy_all.Goals as goal

pub returns-in_err-copy_next-clause-part : goal.returns-in_err-copy_next-clause-part
returns-in_err-copy_next-clause-part g c =
    any_err c.from_residual.result _ (part_next (g.R.Source.remaining c.args.reader.now)
    (g.R.Source.remaining c.loop.reader) (g.R.Source.remaining c.copy_next.new.reader)
    (g.W.Sink.taken c.args.writer.now) (g.W.Sink.taken c.loop.writer)
    (g.W.Sink.taken c.copy_next.new.writer) c.loop.invariant.moved c.in_err-copy_next.ensures.part)

pub returns-then-branch-clause-copied : goal.returns-then-branch-clause-copied
returns-then-branch-clause-copied g c = (
  moved_next (g.R.Source.remaining c.args.reader.now) (g.R.Source.remaining c.loop.reader)
      (g.R.Source.remaining c.copy_next.new.reader) (g.W.Sink.taken c.args.writer.now)
      (g.W.Sink.taken c.loop.writer) (g.W.Sink.taken c.copy_next.new.writer)
      c.loop.invariant.moved c.in_ok-copy_next.ensures.moved,
  c.in_ok-copy_next.ensures.end (search rules),
)

pub loop-preserved : goal.loop-preserved
loop-preserved g c = record {
  calls = omega (arith, c.copy_next.ensures.counted, c.loop.invariant.calls);
  read = search rules;
  written = search rules;
  moved = moved_next (g.R.Source.remaining c.args.reader.now) (g.R.Source.remaining c.loop.reader)
      (g.R.Source.remaining c.copy_next.new.reader) (g.W.Sink.taken c.args.writer.now)
      (g.W.Sink.taken c.loop.writer) (g.W.Sink.taken c.copy_next.new.writer)
      c.loop.invariant.moved c.in_ok-copy_next.ensures.moved;
}
