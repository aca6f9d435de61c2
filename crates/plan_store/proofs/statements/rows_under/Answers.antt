use Rattle.std.proofs.Common.{[], subst, sym}
use Rattle.sqlite_schema.specs.declared.schema.Schema.{Schema}
use Rattle.sqlite.specs.Effect.{Reads}
use Rattle.sqlite.specs.Held.{state}
use Rattle.plan_store.specs.QueryEffect.{meaning_under, IsQueryUnder}
use Rattle.plan_store.proofs.TableTestLemmas.{looks_from, rest_in}
use Rattle.plan_store.proofs.statements.rows_under.Goals as goal

pub run_query-requires-clause-rest : goal.run_query-requires-clause-rest
run_query-requires-clause-rest g c = rest_in c.args.layout _ c.requires.ready

pub run_query-requires-clause-query : goal.run_query-requires-clause-query
run_query-requires-clause-query g c clean live =
    subst (λ s. IsQueryUnder s c.args.text.now) (sym (c.requires.ready.laid clean live).schema) c.requires.query

pub returns : goal.returns
returns g c =
    let old = state g.S.Store c.args.conn.now in
    let new = state g.S.Store c.run_query.new.conn in
    looks_from c.args.layout old new c.requires.ready c.run_query.result _ _
    (λ rows laid h. subst (λ (s : Schema). Reads (meaning_under s c.args.text.now) old.now [] rows.items) laid.schema h) c.run_query.ensures
