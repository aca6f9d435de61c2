use Rattle.std.proofs.Common.{ℕ, ◌<◌, ◌≤◌, map, subst, arith}
use Rattle.plan_net.specs.Network.{count_of}
use Rattle.plan_table.specs.Names.{name_of}
use Rattle.plan_views.specs.Predecessors.{predecessor_words, word_behind, word_of}
use Rattle.plan_views.proofs.RowLemmas.{items_end, items_go_on}
use Rattle.plan_views.proofs.predecessors.predecessor_words.Goals as goal

pub loop-j-preserved : goal.loop-j-preserved
loop-j-preserved c =
    let ids = map name_of c.args.ids.now in
    let net = c.args.network.now in
    let j = c.loop-j.j in
    let below : j < count_of net = subst (λ (n : ℕ). j < n) c.len-j-end.ensures.count c.loop-j-test.true in
    items_go_on word_of (word_behind ids net c.first_behind-behind.result) j (count_of net) _ _ c.in_ok-word_behind.field-0 (predecessor_words ids net) below
    c.loop-j.invariant c.in_ok-word_behind.ensures c.in_ok-push.ensures.items

pub returns : goal.returns
returns c =
    let ids = map name_of c.args.ids.now in
    let net = c.args.network.now in
    let past : count_of net ≤ c.loop-j.j = omega (arith, c.loop-j-test.false, c.len-j-end.ensures.count) in
    items_end word_of (word_behind ids net c.first_behind-behind.result) c.loop-j.j (count_of net) _ (predecessor_words ids net) past c.loop-j.invariant
