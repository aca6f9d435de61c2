-- An instant that isn't a change is inserted, with the row in force.
use Rattle.std.proofs.Common.{◌≢◌, ◌-◌, ◌≤◌, ◌<◌, length, get_or, ◌∙◌, arith}
use Rattle.std.specs.Prelude.{insert}
use Rattle.std.proofs.lemmas.List.{get_or_default}
use Rattle.std.proofs.lemmas.List.Edits.{length-insert}
use Rattle.plan_profile.proofs.SegmentLemmas.{until_within, until_insert, come_yes, come_no}
use Rattle.plan_profile.specs.Steps.{row_at, lists}
use Rattle.plan_profile.proofs.CutLemmas.{cut_new}
use Rattle.plan_profile.proofs.FlatLemmas.{length_lists, list_at, lists_repeated, whole_repeated}
use Rattle.plan_profile.proofs.RowLemmas.{row_copied}
use Rattle.plan_profile.proofs.steps.cut.Goals as goal
use Rattle.plan_profile.proofs.steps.cut.Goals.{else-i-gt0-via-then-i-gt0+else-index-at, else-i-gt0-via-else-i-gt0}

pub returns-clause-whole : goal.returns-clause-whole
returns-clause-whole c =
    let more_changes = insert c.args.changes.now.items c.segment-i.result c.args.at in
    let is = rw c.deref.ensures.value at c.segment-i.ensures in
    let most = until_within c.args.changes.now.items c.args.at in
    let inside : c.segment-i.result ≤ length c.args.changes.now.items = omega arith in
    let more = length-insert c.args.changes.now.items c.segment-i.result c.args.at inside in
    rw (c.insert_reserved.ensures.items, c.repeat_row.ensures.items)
    (whole_repeated c.args.width c.args.changes.now.items more_changes c.args.rows.now.items c.segment-i.result c.requires.whole inside more)

pub returns-clause-cut : goal.returns-clause-cut
returns-clause-cut c =
    let old = lists c.args.width c.args.changes.now.items c.args.rows.now.items in
    let row = row_at c.args.width c.args.rows.now.items c.segment-i.result in
    let more_changes = insert c.args.changes.now.items c.segment-i.result c.args.at in
    let is = rw c.deref.ensures.value at c.segment-i.ensures in
    let most = until_within c.args.changes.now.items c.args.at in
    let inside : c.segment-i.result ≤ length c.args.changes.now.items = omega arith in
    let more = length-insert c.args.changes.now.items c.segment-i.result c.args.at inside in
    let size = length_lists c.args.width c.args.changes.now.items c.args.rows.now.items in
    let new : 0 < c.segment-i.result → get_or c.args.changes.now.items (c.segment-i.result - 1) 0 ≢ c.args.at =
    λ some same. elim c.else-i-gt0.branch [
      | else-i-gt0-via-then-i-gt0+else-index-at w ↦ w.if-index-at.false
          (w.index.ensures ∙ get_or_default c.args.changes.now.items
          (c.segment-i.result - 1) w.index.result.now 0 (omega arith) ∙ same)
      | else-i-gt0-via-else-i-gt0 w ↦
          absurd (omega arith)
    ] in
    let rows = lists_repeated c.args.width c.args.changes.now.items more_changes c.args.rows.now.items c.segment-i.result c.requires.whole inside more in
    let copy = row_copied c.args.changes.now.items old c.args.at c.segment-i.result row
    c.requires.steps is (omega arith) (list_at c.args.width c.args.changes.now.items c.args.rows.now.items c.segment-i.result inside) in
    rw (c.insert_reserved.ensures.items, c.repeat_row.ensures.items, rows)
    (cut_new c.args.changes.now.items old c.args.at c.segment-i.result row c.requires.steps copy is new)

pub returns-clause-place : goal.returns-clause-place
returns-clause-place c =
    let is = rw c.deref.ensures.value at c.segment-i.ensures in
    let more = until_insert c.args.changes.now.items c.segment-i.result c.args.at c.args.at in
    let one = come_yes c.args.at c.args.at (omega arith) in
    rw c.insert_reserved.ensures.items (omega arith)

pub returns-clause-before : goal.returns-clause-before
returns-clause-before c t below =
    let more = until_insert c.args.changes.now.items c.segment-i.result c.args.at t in
    let none = come_no t c.args.at below in
    rw c.insert_reserved.ensures.items (omega arith)
