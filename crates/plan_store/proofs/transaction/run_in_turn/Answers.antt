use Rattle.std.proofs.Common.{◌∙◌, refl, arith}
use Rattle.sqlite.specs.State.{HasCleanDisk}
use Rattle.sqlite.specs.Held.{state}
use Rattle.sqlite.proofs.InsideLemmas.{keeps_then}
use Rattle.plan_store.proofs.TransactionLemmas.{keeps_itself, survives_itself, survives_on, ran_more, none_left, kept_where_ran, kept_where_failed}
use Rattle.plan_store.proofs.transaction.run_in_turn.Goals as goal

pub loop-text-init : goal.loop-text-init
loop-text-init g c = record {
  same = refl;
  ran = λ _ inside. (inside, λ _ h. h);
  kept = λ _ _. keeps_itself (state g.S.Store c.args.tx.now.conn.now);
  survives = survives_itself (state g.S.Store c.args.tx.now.conn.now) (λ _. ⊥);
}

pub returns-in_err-execute-clause-same_reference : goal.returns-in_err-execute-clause-same_reference
returns-in_err-execute-clause-same_reference g c = c.execute.ensures.same_reference ∙ c.loop-text.invariant.same

pub returns-in_err-execute-clause-kept : goal.returns-in_err-execute-clause-kept
returns-in_err-execute-clause-kept g c clean inside =
    let start = state g.S.Store c.args.tx.now.conn.now in
    let old = state g.S.Store c.loop-text.tx.conn.now in
    let new = state g.S.Store c.execute.new.self.conn.now in
    let was : HasCleanDisk old = omega (arith, c.execute.ensures.survives.clean) in
    let it = c.in_err-execute.ensures.runs clean (c.loop-text.invariant.ran was inside).0 in
    keeps_then start old new (c.loop-text.invariant.kept was inside) (kept_where_failed old new it)

pub returns-in_err-execute-clause-survives : goal.returns-in_err-execute-clause-survives
returns-in_err-execute-clause-survives g c = survives_on _ (state g.S.Store c.loop-text.tx.conn.now) _ c.loop-text.invariant.survives c.execute.ensures.survives

pub loop-text-preserved : goal.loop-text-preserved
loop-text-preserved g c =
    let start = state g.S.Store c.args.tx.now.conn.now in
    let old = state g.S.Store c.loop-text.tx.conn.now in
    let new = state g.S.Store c.execute.new.self.conn.now in
    let inv = c.loop-text.invariant in
    let was = λ (clean : HasCleanDisk new). let early : HasCleanDisk old = omega (arith, c.execute.ensures.survives.clean) in early in
    record {
      same = c.execute.ensures.same_reference ∙ inv.same;
      ran = λ clean inside.
          let before = inv.ran (was clean) inside in
          let it = c.in_ok-execute.ensures.runs clean before.0 in (
            it.1.mode,
            λ last more. before.1 last (ran_more g.S.Store c.args.statements.now
                c.loop-text.text-index _ c.loop-text-test.true c.loop-text.tx.conn.now
                c.execute.new.self.conn.now last _ it.1.was_open it.0 more),
          );
      kept = λ clean inside. keeps_then start old new (inv.kept (was clean) inside)
          (kept_where_ran old new (c.in_ok-execute.ensures.runs clean (inv.ran (was clean) inside).0).1);
      survives = survives_on start old new inv.survives c.execute.ensures.survives;
    }

pub returns-clause-same_reference : goal.returns-clause-same_reference
returns-clause-same_reference g c = c.loop-text.invariant.same

pub returns-clause-ran : goal.returns-clause-ran
returns-clause-ran g c clean inside =
    let it = c.loop-text.invariant.ran clean inside in
    (it.1 _ (none_left g.S.Store c.args.statements.now c.loop-text.text-index c.loop-text-test.false c.loop-text.tx.conn.now), it.0)

pub returns-clause-kept : goal.returns-clause-kept
returns-clause-kept g c = c.loop-text.invariant.kept

pub returns-clause-survives : goal.returns-clause-survives
returns-clause-survives g c = c.loop-text.invariant.survives
