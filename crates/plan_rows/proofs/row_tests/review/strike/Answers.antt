use Rattle.std.proofs.Common.{◌&&◌, false, not, sym, ap, ◌∙◌, string_bytes}
use Rattle.plan_rows.specs.declared.tables.records.LagRecord.{LagRecord}
use Rattle.plan_rows.specs.Tables.{plan_kept}
use Rattle.plan_rows.specs.RowTests.{shown_key}
use Rattle.plan_rows.specs.PlanReview.{holds_key, is_arc_key}
use Rattle.plan_rows.proofs.ReviewLemmas.{none_struck, no_owner, no_network, owner_name, owner_below, tells_arc}
use Rattle.plan_rows.proofs.row_tests.review.strike.Goals as goal

pub returns-in_default : goal.returns-in_default
returns-in_default c = λ q some.
    (false, none_struck c.args.pending.now.keys q, no_owner (plan_kept c.args.row.now) c.args.lags.now q (sym c.requires.owner ∙ c.in_default.is) some)

pub returns-in_default-network : goal.returns-in_default-network
returns-in_default-network c = λ q some.
    (false, none_struck c.args.pending.now.keys q, no_network (plan_kept c.args.row.now) c.args.file.now (shown_key q) c.requires.gives c.in_default-network.is)

pub bounds-lags-at : goal.bounds-lags-at
bounds-lags-at c = owner_below (plan_kept c.args.row.now) c.args.lags.now c.in-Some.at (sym c.requires.owner ∙ c.in-Some.is)

pub returns : goal.returns
returns c = λ q some.
    let plan = plan_kept c.args.row.now in
    let net = c.in-Some-network.network in
    let named = c.as_str.ensures.value ∙ ap (λ (r : LagRecord). string_bytes r.desk) (sym c.index-lags-at.is)
    ∙ owner_name plan c.args.lags.now c.in-Some.at c.index-lags-at.result
    (sym c.requires.owner ∙ c.in-Some.is) c.index-lags-at.is in (
      is_arc_key plan.desk plan.n net.arcs q,
      c.strike_arcs.ensures q ∙ ap (λ t. holds_key c.args.pending.now.keys q && not (is_arc_key t plan.n c.arcs.result.now q)) named
          ∙ ap (λ l. holds_key c.args.pending.now.keys q && not (is_arc_key plan.desk plan.n l q)) c.arcs.ensures.value,
      tells_arc plan c.args.file.now net (shown_key q) c.requires.gives c.in-Some-network.is,
    )
