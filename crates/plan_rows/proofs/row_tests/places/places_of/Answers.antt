use Rattle.std.proofs.Common.{◌≡◌, arith, drop, subst, sym, ◌∙◌}
use Rattle.std.specs.List.{position_from}
use Rattle.std.specs.HashMap.{get_by}
use Rattle.std.proofs.lemmas.Iterator.Adapters.{position_from-zero}
use Rattle.plan_rows.specs.RowTests.{shown_key, same_key}
use Rattle.plan_rows.proofs.LookupLemmas.{placed_more}
use Rattle.plan_rows.proofs.row_tests.places.places_of.Goals as goal

pub loop-i-preserved : goal.loop-i-preserved
loop-i-preserved g c =
    placed_more g.T.Keyed.key_of c.args.rows.now c.loop-i.i c.index-rows-i.result c.key.result c.loop-i.places c.insert.new.self (omega arith) (omega arith) c.index-rows-i.is c.key.ensures
    c.in_ok-insert.ensures.updates.0 c.loop-i.invariant

pub returns : goal.returns
returns g c = λ q.
    let none : c.loop-i.i ≡ 0 = omega arith in
    subst (λ n. get_by (λ k. same_key (shown_key q) (shown_key k)) c.loop-i.places ≡ position_from
    (λ row. same_key (shown_key q) (g.T.Keyed.key_of row)) n (drop n c.args.rows.now)) none
    (c.loop-i.invariant q)
    ∙ sym (position_from-zero (λ row. same_key (shown_key q) (g.T.Keyed.key_of row)) c.args.rows.now)
