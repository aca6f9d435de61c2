use Rattle.std.proofs.Common.{subst, sym}
use Rattle.sqlite_schema.specs.declared.schema.Schema.{Schema}
use Rattle.sqlite.specs.Effect.{Reads}
use Rattle.sqlite.specs.Values.{bound}
use Rattle.sqlite.specs.Held.{state}
use Rattle.plan_store.specs.QueryEffect.{meaning_under, IsQueryUnder}
use Rattle.plan_store.proofs.QueryEffectLemmas.{asks_from, rest_of}
use Rattle.plan_store.proofs.statements.rows_of.Goals as goal

pub run_query-requires-clause-rest : goal.run_query-requires-clause-rest
run_query-requires-clause-rest g c = rest_of _ c.requires.ready

pub run_query-requires-clause-query : goal.run_query-requires-clause-query
run_query-requires-clause-query g c clean live =
    subst (λ s. IsQueryUnder s c.args.text.now) (sym (c.requires.ready.stands clean live).store.schema) (record { plain = c.requires.plain; ours = c.requires.ours })

pub returns : goal.returns
returns g c =
    let old = state g.S.Store c.args.conn.now in
    let new = state g.S.Store c.run_query.new.conn in
    asks_from old new c.requires.ready c.run_query.result _ _
    (λ rows stands h. subst (λ (s : Schema). Reads (meaning_under s c.args.text.now) old.now (bound c.args.params.now) rows.items) stands.store.schema h) c.run_query.ensures
