use Rattle.std.proofs.Common.{sym, subst, refl}
use Rattle.std.proofs.lemmas.List.{take_all}
use Rattle.plan_summary.specs.Digests.{Takes, line_at, lines_at}
use Rattle.plan_rows.specs.KeyedRows.{key_in}
use Rattle.plan_summary.proofs.SummaryLemmas.{takes_none, takes_then, lines_next, looks_here, looks_then, looks_as}
use Rattle.plan_summary.proofs.summary.add_plans.Goals as goal

pub loop-key-init : goal.loop-key-init
loop-key-init g c = looks_here g.B.Book.shelf _ c.args.book.now tt (λ w. takes_none c.args.hasher.now)

pub loop-key-preserved : goal.loop-key-preserved
loop-key-preserved g c =
    looks_then g.B.Book.shelf _ _ _ c.args.book.now c.loop-key.book c.add_plan.new.book tt tt tt c.loop-key.invariant c.in_ok-add_plan.ensures
    (λ w before is. subst (Takes c.args.hasher.now c.add_plan.new.hasher)
    (lines_next (λ key. line_at w (key_in key)) c.args.keys.now c.loop-key.key-index c.key-item.result _ c.loop-key-test.true (sym c.key-item.is) refl)
    (takes_then c.args.hasher.now c.loop-key.hasher c.add_plan.new.hasher _ _ before is))

pub returns : goal.returns
returns g c =
    looks_as g.B.Book.shelf _ _ c.args.book.now c.loop-key.book tt tt c.loop-key.invariant
    (λ w is. subst (λ l. Takes c.args.hasher.now c.loop-key.hasher (lines_at w l)) (take_all c.loop-key.key-index c.args.keys.now c.loop-key-test.false) is)
