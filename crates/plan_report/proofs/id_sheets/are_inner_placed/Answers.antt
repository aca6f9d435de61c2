use Rattle.std.proofs.Common.{◌<◌, map, sym, ◌∙◌, subst, ℕ}
use Rattle.plan_net.specs.Network.{count_of}
use Rattle.plan_table.specs.Names.{name_of}
use Rattle.plan_report.specs.IdSheets.{are_inner_placed, is_placed}
use Rattle.plan_report.proofs.IdSheetLemmas.{all_go_on, none_from}
use Rattle.plan_report.proofs.id_sheets.are_inner_placed.Goals as goal

pub returns-then-not-is_placed : goal.returns-then-not-is_placed
returns-then-not-is_placed c =
    let ids = map name_of c.args.ids.now in
    let net = c.args.network.now in
    let j = c.loop-j.j in
    let below : j < count_of net = subst (λ (n : ℕ). j < n) c.len-j-end.ensures.count c.loop-j-test.true in
    none_from (is_placed ids net c.args.behind) j (count_of net) (are_inner_placed ids net) below (sym c.is_placed.ensures ∙ c.if-not-is_placed.true) c.loop-j.invariant

pub loop-j-preserved : goal.loop-j-preserved
loop-j-preserved c =
    let ids = map name_of c.args.ids.now in
    let net = c.args.network.now in
    let j = c.loop-j.j in
    let below : j < count_of net = subst (λ (n : ℕ). j < n) c.len-j-end.ensures.count c.loop-j-test.true in
    all_go_on (is_placed ids net c.args.behind) j (count_of net) (are_inner_placed ids net) below (sym c.is_placed.ensures ∙ c.if-not-is_placed.false) c.loop-j.invariant
