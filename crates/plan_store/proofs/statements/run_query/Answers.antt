use Rattle.std.proofs.Common.{Ok, subst₂, sym, ap}
use Rattle.sqlite.specs.Values.{bound}
use Rattle.sqlite.specs.Listing.{understood}
use Rattle.sqlite.specs.Effect.{Database}
use Rattle.sqlite.specs.Held.{state}
use Rattle.sqlite.proofs.Callers.{IsPlain}
use Rattle.plan_store.proofs.QueryEffectLemmas.{queries_then, if_ok, read_from}
use Rattle.plan_store.proofs.statements.run_query.Goals as goal

pub run-requires-clause-plain : goal.run-requires-clause-plain
run-requires-clause-plain g c clean =
    let first = c.in_ok-statement.ensures in
    let did = first.answer clean in
    let same = first.same clean did.0 in
    subst₂ (λ s t. IsPlain (understood s t)) (sym (ap (λ (d : Database). d.schema) same.1)) (sym did.1) (c.requires.query (first.honesty clean) same.0).plain

pub returns : goal.returns
returns g c =
    let old = state g.S.Store c.args.conn.now in
    let mid = state g.S.Store c.prepare.new.conn in
    let new = state g.S.Store c.run.new.conn in
    let first = c.in_ok-statement.ensures in
    let second = c.run.ensures in
    queries_then old mid new (Ok c.in_ok-statement.statement) _ c.run.result _ c.run.result _ first second
    (if_ok c.run.result (λ rows h clean.
    let early = second.honesty clean in
    let live = (second.same clean (h clean).0).0 in
    let same = first.same early live in
    let query = c.requires.query (first.honesty early) same.0 in (
      (h clean).0,
      read_from c.in_ok-statement.statement.text c.args.text.now (bound c.args.params.now) old mid new (first.answer early).1 same.1 query.plain query.ours rows.items (h clean).1,
    )) second.answer)
