-- The row is as long as the capacities.
use Rattle.std.proofs.Common.{◌≡◌, length, sym, ap, ◌∙◌, arith}
use Rattle.plan_profile.specs.InUse.{in_use, capacities}
use Rattle.plan_profile.proofs.FlatLemmas.{list_at, row_within, length-row_at}
use Rattle.plan_profile.proofs.profile.Profile.row_has_room.Goals as goal

pub row-requires : goal.row-requires
unfolding in_use capacities
row-requires c =
    let width : c.len.result ≡ length c.args.self.now.caps.items = (let e = c.len.ensures in omega arith) in
    rw (width, c.deref-2.ensures.value) (row_within
    (length c.args.self.now.caps.items) c.args.self.now.changes.items c.args.self.now.rows.items c.args.i
    c.args.self.now.wide (let e = c.requires.row in omega arith))

pub has_room-requires-clause-row : goal.has_room-requires-clause-row
unfolding in_use capacities
has_room-requires-clause-row c =
    let width : c.len.result ≡ length c.args.self.now.caps.items = (let e = c.len.ensures in omega arith) in
    let fits = row_within (length c.args.self.now.caps.items) c.args.self.now.changes.items c.args.self.now.rows.items c.args.i c.args.self.now.wide (let e = c.requires.row in omega arith) in
    let row = rw (width, c.deref-2.ensures.value) at c.row.ensures in
    ap length row ∙ length-row_at (length c.args.self.now.caps.items) c.args.self.now.rows.items c.args.i fits ∙ sym (ap length c.deref.ensures.value)

pub returns : goal.returns
unfolding in_use capacities
returns c =
    let width : c.len.result ≡ length c.args.self.now.caps.items = (let e = c.len.ensures in omega arith) in
    let row = rw (width, c.deref-2.ensures.value) at c.row.ensures in
    let here = list_at (length c.args.self.now.caps.items) c.args.self.now.changes.items c.args.self.now.rows.items c.args.i (let e = c.requires.row in omega arith) in
    rw (c.deref.ensures.value, row ∙ sym here) at c.has_room.ensures
