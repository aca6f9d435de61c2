-- The row in force has the amount.
use Rattle.std.proofs.Common.{◌≡◌, ◌-◌, length, get_or, sym, ap, ◌∙◌, arith}
use Rattle.plan_profile.specs.InUse.{in_use, capacities}
use Rattle.plan_profile.specs.Steps.{lists}
use Rattle.plan_profile.proofs.FlatLemmas.{amount_there, get_or-row_at, row_within}
use Rattle.plan_profile.proofs.SegmentLemmas.{until_within}
use Rattle.plan_profile.proofs.StepLemmas.{amount_is}
use Rattle.plan_profile.proofs.profile.Profile.usage.Goals as goal

pub row-requires : goal.row-requires
unfolding in_use capacities
row-requires c =
    let most = until_within c.args.self.now.changes.items c.args.t in
    let force = c.row_in_force-i.ensures in
    let width : c.len.result ≡ length c.args.self.now.caps.items = (let e = c.len.ensures in omega arith) in
    rw (width, c.deref.ensures.value) (row_within (length c.args.self.now.caps.items)
    c.args.self.now.changes.items c.args.self.now.rows.items c.row_in_force-i.result c.args.self.now.wide
    (omega arith))

pub returns-clause-value : goal.returns-clause-value
unfolding in_use capacities
returns-clause-value c =
    let most = until_within c.args.self.now.changes.items c.args.t in
    let force = c.row_in_force-i.ensures in
    let last = c.requires.last in
    let first = c.requires.first in
    let width : c.len.result ≡ length c.args.self.now.caps.items = (let e = c.len.ensures in omega arith) in
    let row = rw (width, c.deref.ensures.value) at c.row.ensures in
    ap (λ r. get_or r (c.args.k - 1) 0) row
    ∙ get_or-row_at (length c.args.self.now.caps.items) c.args.self.now.rows.items c.row_in_force-i.result (c.args.k - 1) (omega arith)
    ∙ sym (amount_there (length c.args.self.now.caps.items) c.args.self.now.changes.items c.args.self.now.rows.items c.row_in_force-i.result (c.args.k - 1) (omega arith) (omega arith))
    ∙ sym (amount_is c.args.self.now.changes.items
    (lists (length c.args.self.now.caps.items) c.args.self.now.changes.items c.args.self.now.rows.items)
    c.args.t (c.args.k - 1) c.row_in_force-i.result (sym force))

pub returns-clause-ended : goal.returns-clause-ended
unfolding in_use capacities
returns-clause-ended c = λ late. returns-clause-value c ∙ c.args.self.now.ended c.args.t (c.args.k - 1) late
