-- The interval contains an instant of a row without room.
use Rattle.std.proofs.Common.{length, ◌+◌, ◌-◌, ◌<◌, get_or, refl, arith}
use Rattle.std.proofs.lemmas.List.{get_or_default}
use Rattle.std.proofs.lemmas.Bool.{iff_false, false≢true}
use Rattle.plan_profile.specs.InUse.{in_use, capacities}
use Rattle.plan_profile.specs.Steps.{lists}
use Rattle.plan_profile.proofs.SegmentLemmas.{beyond}
use Rattle.plan_profile.proofs.SeekLemmas.{room_none, room_more, stuck, fits_before}
use Rattle.plan_profile.proofs.profile.Profile.fits.Goals as goal
use Rattle.plan_profile.proofs.profile.Profile.fits.Goals.{else-first-i-via-then-first-i+else-index-start, else-first-i-via-else-first-i}

pub loop-i-init : goal.loop-i-init
unfolding in_use capacities
loop-i-init c =
    let rows = lists (length c.args.self.now.caps.items) c.args.self.now.changes.items c.args.self.now.rows.items in
    rw c.row_in_force-first.ensures (room_none c.args.self.now.caps.items c.args.self.now.changes.items rows c.args.needs.now c.args.start c.args.self.now.steps.rising)

pub overflow_sub-index : goal.overflow_sub-index
unfolding in_use capacities
overflow_sub-index c =
    let rows_len = c.len-i-end.ensures in
    let first = c.row_in_force-first.ensures in
    let read = get_or_default c.args.self.now.changes.items (c.loop-i.i - 1) c.index.result.now 0 (omega arith) in
    let later = beyond c.args.self.now.changes.items c.args.start (c.loop-i.i - 1) c.args.self.now.steps.rising (omega arith) (omega arith) in
    let is = c.index.ensures in
    omega arith

pub returns-then-index-start : goal.returns-then-index-start
unfolding in_use capacities
returns-then-index-start c =
    let rows = lists (length c.args.self.now.caps.items) c.args.self.now.changes.items c.args.self.now.rows.items in
    let rows_len = c.len-i-end.ensures in
    let first = c.row_in_force-first.ensures in
    let read = get_or_default c.args.self.now.changes.items (c.loop-i.i - 1) c.index.result.now 0 (omega arith) in
    let later = beyond c.args.self.now.changes.items c.args.start (c.loop-i.i - 1) c.args.self.now.steps.rising (omega arith) (omega arith) in
    let is = c.index.ensures in (
      λ _. fits_before c.args.self.now.caps.items c.args.self.now.changes.items rows c.args.needs.now
          c.args.start c.args.d c.loop-i.i c.args.self.now.steps.rising c.loop-i.invariant (omega arith)
          (omega arith) (omega arith),
      λ _. refl,
    )

pub returns-then-not-row_has_room : goal.returns-then-not-row_has_room
unfolding in_use capacities
returns-then-not-row_has_room c =
    let rows = lists (length c.args.self.now.caps.items) c.args.self.now.changes.items c.args.self.now.rows.items in
    let rows_len = c.len-i-end.ensures in
    let first = c.row_in_force-first.ensures in
    let reaches : c.row_in_force-first.result < c.loop-i.i → get_or c.args.self.now.changes.items (c.loop-i.i - 1) 0 < c.args.start + c.args.d =
    λ gone. elim c.else-first-i.branch [
      | else-first-i-via-then-first-i+else-index-start w ↦
          (let read = get_or_default c.args.self.now.changes.items (c.loop-i.i - 1) w.index.result.now 0 (omega arith) in
          let is = w.index.ensures in
          omega arith)
      | else-first-i-via-else-first-i w ↦ absurd (omega arith)
    ] in (
      λ e. absurd (false≢true e),
      λ fits. absurd (stuck c.args.self.now.caps.items c.args.self.now.changes.items rows c.args.needs.now c.args.start c.args.d c.args.start c.loop-i.i
          c.args.self.now.steps.rising (omega arith) (omega arith) (omega arith) (omega arith)
          (λ inside. beyond c.args.self.now.changes.items c.args.start c.loop-i.i c.args.self.now.steps.rising (omega arith) inside)
          (λ gone. reaches (omega arith))
          (iff_false c.row_has_room.ensures c.if-not-row_has_room.true) fits),
    )

pub loop-i-preserved : goal.loop-i-preserved
unfolding in_use capacities
loop-i-preserved c =
    let rows = lists (length c.args.self.now.caps.items) c.args.self.now.changes.items c.args.self.now.rows.items in
    room_more c.args.self.now.caps.items c.args.self.now.changes.items rows c.args.needs.now c.args.start c.loop-i.i c.loop-i.invariant (c.row_has_room.ensures.0 c.if-not-row_has_room.false)
