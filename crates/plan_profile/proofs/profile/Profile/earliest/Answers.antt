-- Each step keeps the invariant of the search; a row without room isn't the last.
use Rattle.std.proofs.Common.{length, ◌≡◌, ◌+◌, ◌-◌, ◌<◌, get_or, ◌∙◌, arith}
use Rattle.std.proofs.lemmas.List.{get_or_default}
use Rattle.std.proofs.lemmas.Bool.{iff_false}
use Rattle.plan_profile.specs.InUse.{in_use, capacities}
use Rattle.plan_profile.specs.Steps.{lists}
use Rattle.plan_profile.specs.declared.profile.TheConstants.{END}
use Rattle.plan_profile.proofs.SeekLemmas.{sought_first, sought_room, sought_stuck, sought_found, fits_before, fits_all, not_last}
use Rattle.plan_profile.proofs.profile.Profile.earliest.Goals as goal
use Rattle.plan_profile.proofs.profile.Profile.earliest.Goals.{else-first-i-via-then-first-i+else-index-at, else-first-i-via-else-first-i, then-not-row_has_room, else-not-row_has_room}

pub loop-i-init : goal.loop-i-init
unfolding in_use capacities
loop-i-init c =
    let rows = lists (length c.args.self.now.caps.items) c.args.self.now.changes.items c.args.self.now.rows.items in
    sought_first c.args.self.now.caps.items c.args.self.now.changes.items rows c.args.needs.now c.args.from
    c.args.d c.row_in_force-first.result c.args.self.now.steps.rising c.row_in_force-first.ensures

pub overflow_sub-index : goal.overflow_sub-index
unfolding in_use capacities
overflow_sub-index c =
    let rows_len = c.len-i-end.ensures in
    let read = get_or_default c.args.self.now.changes.items (c.loop-i.i - 1) c.index.result.now 0 (omega arith) in
    let later = c.loop-i.invariant.later (c.loop-i.i - 1) (omega arith) (omega arith) (omega arith) in
    let is = c.index.ensures in
    omega arith

pub returns-then-index-at-clause-least : goal.returns-then-index-at-clause-least
unfolding in_use capacities
returns-then-index-at-clause-least c =
    let rows = lists (length c.args.self.now.caps.items) c.args.self.now.changes.items c.args.self.now.rows.items in
    let rows_len = c.len-i-end.ensures in
    let read = get_or_default c.args.self.now.changes.items (c.loop-i.i - 1) c.index.result.now 0 (omega arith) in
    let later = c.loop-i.invariant.later (c.loop-i.i - 1) (omega arith) (omega arith) (omega arith) in
    let is = c.index.ensures in
    sought_found c.args.self.now.caps.items c.args.self.now.changes.items rows c.args.needs.now c.args.from c.args.d c.row_in_force-first.result c.loop-i.at c.loop-i.i c.loop-i.invariant
    (fits_before c.args.self.now.caps.items c.args.self.now.changes.items rows c.args.needs.now c.loop-i.at
    c.args.d c.loop-i.i c.args.self.now.steps.rising c.loop-i.invariant.room (omega arith) (omega arith)
    (omega arith))

pub index-at-requires : goal.index-at-requires
unfolding in_use capacities
index-at-requires c =
    let rows = lists (length c.args.self.now.caps.items) c.args.self.now.changes.items c.args.self.now.rows.items in
    let rows_len = c.len-i-end.ensures in
    let inside = not_last END c.args.self.now.caps.items c.args.self.now.changes.items rows c.args.needs.now c.loop-i.i c.args.self.now.steps.rising c.args.self.now.ended
    (c.requires.empty (omega arith)) (omega arith) (iff_false c.row_has_room.ensures c.if-not-row_has_room.true) in
    omega arith

pub loop-i-preserved : goal.loop-i-preserved
unfolding in_use capacities
loop-i-preserved c =
    let rows = lists (length c.args.self.now.caps.items) c.args.self.now.changes.items c.args.self.now.rows.items in
    let rows_len = c.len-i-end.ensures in
    let reaches : c.row_in_force-first.result < c.loop-i.i → get_or c.args.self.now.changes.items (c.loop-i.i - 1) 0 < c.loop-i.at + c.args.d =
    λ gone. elim c.else-first-i.branch [
      | else-first-i-via-then-first-i+else-index-at w ↦
          (let read = get_or_default c.args.self.now.changes.items (c.loop-i.i - 1) w.index.result.now 0 (omega arith) in
          let is = w.index.ensures in
          omega arith)
      | else-first-i-via-else-first-i w ↦ absurd (omega arith)
    ] in
    elim c.if-not-row_has_room.branch [
      | then-not-row_has_room w ↦
          (let full = iff_false c.row_has_room.ensures w.if-not-row_has_room.true in
          let inside = not_last END c.args.self.now.caps.items c.args.self.now.changes.items rows c.args.needs.now c.loop-i.i c.args.self.now.steps.rising c.args.self.now.ended
          (c.requires.empty (omega arith)) (omega arith) full in
          let is : c.if-not-row_has_room.at ≡ get_or c.args.self.now.changes.items c.loop-i.i 0 =
          w.at-is ∙ w.index-at.ensures ∙ get_or_default c.args.self.now.changes.items c.loop-i.i w.index-at.result.now 0 inside in
          rw is (sought_stuck c.args.self.now.caps.items c.args.self.now.changes.items rows c.args.needs.now c.args.from c.args.d c.row_in_force-first.result c.loop-i.at c.loop-i.i
          c.args.self.now.steps.rising c.row_in_force-first.ensures (omega arith) inside (omega arith) c.loop-i.invariant reaches full))
      | else-not-row_has_room w ↦
          rw w.at-is (sought_room c.args.self.now.caps.items c.args.self.now.changes.items rows c.args.needs.now c.args.from c.args.d c.row_in_force-first.result c.loop-i.at c.loop-i.i
          c.loop-i.invariant (c.row_has_room.ensures.0 w.if-not-row_has_room.false))
    ]

pub returns-clause-least : goal.returns-clause-least
unfolding in_use capacities
returns-clause-least c =
    let rows = lists (length c.args.self.now.caps.items) c.args.self.now.changes.items c.args.self.now.rows.items in
    let rows_len = c.len-i-end.ensures in
    sought_found c.args.self.now.caps.items c.args.self.now.changes.items rows c.args.needs.now c.args.from c.args.d c.row_in_force-first.result c.loop-i.at c.loop-i.i c.loop-i.invariant
    (fits_all c.args.self.now.caps.items c.args.self.now.changes.items rows c.args.needs.now c.loop-i.at c.args.d c.loop-i.i c.loop-i.invariant.room (omega arith))
