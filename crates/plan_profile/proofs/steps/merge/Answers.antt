-- `==` on two rows tests whether they are equal.
use Rattle.std.proofs.Common.{◌-◌, ◌≤◌, length, sym, ◌∙◌, arith}
use Rattle.std.specs.Prelude.{remove}
use Rattle.std.proofs.lemmas.Bool.Decides.{Decides-eqb}
use Rattle.std.proofs.lemmas.List.Edits.{length-remove}
use Rattle.std.proofs.lemmas.Slice.Eq.{slice_eq-Decides}
use Rattle.std.proofs.lemmas.Bool.{both_ways}
use Rattle.plan_profile.specs.Steps.{lists}
use Rattle.plan_profile.proofs.CutLemmas.{merge_away, merge_stay}
use Rattle.plan_profile.proofs.SegmentLemmas.{until_within, until_there}
use Rattle.plan_profile.proofs.FlatLemmas.{list_at, lists_removed, whole_removed}
use Rattle.plan_profile.proofs.steps.merge.Goals as goal

pub returns-then-eq-clause-merged : goal.returns-then-eq-clause-merged
returns-then-eq-clause-merged c =
    let old = lists c.args.width c.args.changes.now.items c.args.rows.now.items in
    let fewer_changes = remove c.args.changes.now.items (c.segment-i.result - 1) in
    let is = rw c.deref.ensures.value at c.segment-i.ensures in
    let most = until_within c.args.changes.now.items c.args.at in
    let some = until_there c.args.changes.now.items c.args.at c.requires.steps.rising c.requires.there in
    let inside : c.segment-i.result ≤ length c.args.changes.now.items = omega arith in
    let fewer = length-remove c.args.changes.now.items (c.segment-i.result - 1) (omega arith) in
    let before = list_at c.args.width c.args.changes.now.items c.args.rows.now.items (c.segment-i.result - 1) (omega arith) in
    let here = list_at c.args.width c.args.changes.now.items c.args.rows.now.items c.segment-i.result inside in
    let row_before = rw c.deref-2.ensures.value at c.row.ensures in
    let row_here = rw c.deref-3.ensures.value at c.row-2.ensures in
    let alike = (slice_eq-Decides Decides-eqb _ _ _ c.eq.ensures).0 c.if-eq.true in
    let rows = lists_removed c.args.width c.args.changes.now.items fewer_changes c.args.rows.now.items c.segment-i.result c.requires.whole inside fewer in
    rw (c.remove.ensures.items, c.remove_row.ensures, rows)
    (merge_away c.args.changes.now.items old c.args.at c.segment-i.result c.requires.steps
    c.requires.there is (before ∙ sym row_before ∙ alike ∙ row_here ∙ sym here))

pub returns-then-eq-clause-whole : goal.returns-then-eq-clause-whole
returns-then-eq-clause-whole c =
    let fewer_changes = remove c.args.changes.now.items (c.segment-i.result - 1) in
    let is = rw c.deref.ensures.value at c.segment-i.ensures in
    let most = until_within c.args.changes.now.items c.args.at in
    let some = until_there c.args.changes.now.items c.args.at c.requires.steps.rising c.requires.there in
    let inside : c.segment-i.result ≤ length c.args.changes.now.items = omega arith in
    let fewer = length-remove c.args.changes.now.items (c.segment-i.result - 1) (omega arith) in
    rw (c.remove.ensures.items, c.remove_row.ensures)
    (whole_removed c.args.width c.args.changes.now.items fewer_changes c.args.rows.now.items c.segment-i.result c.requires.whole inside fewer)

pub returns-else-eq-clause-merged : goal.returns-else-eq-clause-merged
returns-else-eq-clause-merged c =
    let old = lists c.args.width c.args.changes.now.items c.args.rows.now.items in
    let is = rw c.deref.ensures.value at c.segment-i.ensures in
    let most = until_within c.args.changes.now.items c.args.at in
    let some = until_there c.args.changes.now.items c.args.at c.requires.steps.rising c.requires.there in
    let inside : c.segment-i.result ≤ length c.args.changes.now.items = omega arith in
    let before = list_at c.args.width c.args.changes.now.items c.args.rows.now.items (c.segment-i.result - 1) (omega arith) in
    let here = list_at c.args.width c.args.changes.now.items c.args.rows.now.items c.segment-i.result inside in
    let row_before = rw c.deref-2.ensures.value at c.row.ensures in
    let row_here = rw c.deref-3.ensures.value at c.row-2.ensures in
    merge_stay c.args.changes.now.items old c.args.at c.segment-i.result c.requires.steps c.requires.there is
    (λ alike. both_ways c.eq.result c.if-eq.false ((slice_eq-Decides Decides-eqb _ _ _ c.eq.ensures).1 (row_before ∙ sym before ∙ alike ∙ here ∙ sym row_here)))
