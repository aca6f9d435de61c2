use Rattle.std.proofs.Common.{ℕ, ◌<◌, map, sym, ◌∙◌, subst, arith}
use Rattle.plan_net.specs.Network.{count_of}
use Rattle.plan_table.specs.Names.{name_of}
use Rattle.plan_report.specs.IdSheets.{is_named}
use Rattle.plan_report.proofs.IdSheetLemmas.{passed_more, passed_same}
use Rattle.plan_report.proofs.id_sheets.first_behind.Goals as goal
use Rattle.plan_report.proofs.id_sheets.first_behind.Goals.{then-is_named, else-is_named}

pub loop-j-preserved : goal.loop-j-preserved
loop-j-preserved c =
    let ids = map name_of c.args.ids.now in
    let net = c.args.network.now in
    let j = c.loop-j.j in
    let below : j < count_of net = subst (λ (n : ℕ). j < n) c.len-j-end.ensures.count c.loop-j-test.true in
    elim c.if-is_named.branch [
      | then-is_named w ↦ record {
        counted = omega (arith, passed_more (is_named ids) j (count_of net) below (sym c.is_named.ensures ∙ w.if-is_named.true), w.behind-is, c.loop-j.invariant.counted);
        low = omega (arith, w.behind-is, c.loop-j.invariant.low);
        bound = omega (arith, w.behind-is, c.loop-j.invariant.bound);
      }
      | else-is_named w ↦ record {
        counted = omega (arith, passed_same (is_named ids) j (count_of net) below (sym c.is_named.ensures ∙ w.if-is_named.false), w.behind-is, c.loop-j.invariant.counted);
        low = omega (arith, w.behind-is, c.loop-j.invariant.low);
        bound = omega (arith, w.behind-is, c.loop-j.invariant.bound);
      }
    ]
