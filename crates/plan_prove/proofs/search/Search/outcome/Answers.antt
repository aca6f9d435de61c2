use Rattle.plan_prove.proofs.ProgressLemmas.{known_twice, known_before, taken_twice, refuted_before, refuted_behind}
use Rattle.plan_prove.proofs.search.Search.outcome.Goals as goal

pub returns-in_default-clause-refuted : goal.returns-in_default-clause-refuted
returns-in_default-clause-refuted g c = λ is.
    c.loop-part.invariant.rest (refuted_before c.args.self.now c.loop-part.self c.args.limit c.loop-part.waiting.items c.loop-part.invariant.taken (c.in_ok-outcome.ensures.refuted is))

pub loop-part-preserved : goal.loop-part-preserved
loop-part-preserved g c =
    let inv = c.loop-part.invariant in
    record {
      rest = λ all. inv.rest (refuted_before c.args.self.now c.loop-part.self c.args.limit c.loop-part.waiting.items inv.taken
          (c.in_ok-outcome.ensures.stopped c.in-Stopped.is (refuted_behind c.args.self.now c.loop-part.self c.args.limit c.advance.new.waiting.items inv.taken all)));
      taken = taken_twice c.args.self.now c.loop-part.self c.advance.new.self inv.taken c.advance.ensures.taken;
      granted = c.advance.ensures.granted;
      told = known_twice c.args.self.now (g.W.Watcher.was_told c.args.watcher.now) (g.W.Watcher.was_told c.loop-part.watcher) (g.W.Watcher.was_told c.advance.new.watcher) inv.told
          (known_before c.args.self.now c.loop-part.self (g.W.Watcher.was_told c.loop-part.watcher) (g.W.Watcher.was_told c.advance.new.watcher) inv.taken c.advance.ensures.told);
    }
