-- The stages of the body are those of `IsStaged`.
use Rattle.std.proofs.Common.{◌+◌, length, ◌∙◌, ap, sym, arith}
use Rattle.std.proofs.lemmas.List.{with_items_is}
use Rattle.std.proofs.lemmas.Nat.{mul-le}
use Rattle.plan_profile.specs.Steps.{changes_until, lists}
use Rattle.plan_profile.proofs.SegmentLemmas.{until_mono, until_there, until_within}
use Rattle.plan_profile.proofs.RowLemmas.{sums_flat, raised_rows}
use Rattle.plan_profile.proofs.PlacingLemmas.{sums_same, sums_of_rows, raised_steps, placed}
use Rattle.plan_profile.proofs.steps.place_between.Goals as goal

pub raise-requires-clause-order : goal.raise-requires-clause-order
raise-requires-clause-order c =
    let from = c.cut-from.ensures.place ∙ sym (c.cut-to.ensures.before c.args.start c.requires.order) in
    let to = c.cut-to.ensures.place in
    let cut = c.cut-to.ensures.cut in
    let order = until_mono c.cut-to.new.changes.items c.args.start c.args.end cut.usage.steps.rising (let e = c.requires.order in omega arith) in
    omega arith

pub raise-requires-clause-within : goal.raise-requires-clause-within
raise-requires-clause-within c =
    let to = c.cut-to.ensures.place in
    let most = until_within c.cut-to.new.changes.items c.args.end in
    let whole = c.cut-to.ensures.whole in
    let fits = mul-le c.cut-to.result (length c.args.needs.now) (length c.cut-to.new.changes.items + 1) (length c.args.needs.now) (omega arith) (omega arith) in
    let now = ap length c.deref_mut.ensures.value in
    omega arith

pub raise-requires-clause-sums : goal.raise-requires-clause-sums
raise-requires-clause-sums c =
    let w = length c.args.needs.now in
    let rows0 = lists w c.args.changes.now.items c.args.rows.now.items in
    let rows1 = lists w c.cut-from.new.changes.items c.cut-from.new.rows.items in
    let rows2 = lists w c.cut-to.new.changes.items c.cut-to.new.rows.items in
    let from = c.cut-from.ensures.place ∙ sym (c.cut-to.ensures.before c.args.start c.requires.order) in
    let to = c.cut-to.ensures.place in
    let most = until_within c.cut-to.new.changes.items c.args.end in
    let opened = rw (c.in_ok-reserve.ensures.items, c.in_ok-reserve-2.ensures.items) at c.cut-from.ensures.cut in
    let closed = c.cut-to.ensures.cut in
    let sums1 = sums_same c.args.changes.now.items rows0 c.cut-from.new.changes.items rows1 c.args.start c.args.end c.args.needs.now opened.usage c.requires.sums in
    let sums2 = sums_same c.cut-from.new.changes.items rows1 c.cut-to.new.changes.items rows2 c.args.start c.args.end c.args.needs.now closed.usage sums1 in
    let rows = sums_of_rows c.cut-to.new.changes.items rows2 c.args.start c.args.end c.args.needs.now closed.usage.steps (closed.kept c.args.start opened.there) closed.there sums2 in
    rw (c.deref_mut.ensures.value, from, to) (sums_flat c.cut-to.new.changes.items c.cut-to.new.rows.items
    (changes_until c.cut-to.new.changes.items c.args.start)
    (changes_until c.cut-to.new.changes.items c.args.end) c.args.needs.now (omega arith) rows)

pub merge-requires-clause-whole : goal.merge-requires-clause-whole
merge-requires-clause-whole c =
    let whole = c.cut-to.ensures.whole in
    let size = c.raise.ensures.size ∙ c.deref_mut.ensures.len in
    let items = with_items_is c.cut-to.new.rows c.raise.new.rows size in
    rw items (c.raise.ensures.size ∙ ap length c.deref_mut.ensures.value ∙ whole)

pub merge-requires-clause-steps : goal.merge-requires-clause-steps
merge-requires-clause-steps c =
    let w = length c.args.needs.now in
    let rows2 = lists w c.cut-to.new.changes.items c.cut-to.new.rows.items in
    let from = c.cut-from.ensures.place ∙ sym (c.cut-to.ensures.before c.args.start c.requires.order) in
    let to = c.cut-to.ensures.place in
    let most = until_within c.cut-to.new.changes.items c.args.end in
    let opened = rw (c.in_ok-reserve.ensures.items, c.in_ok-reserve-2.ensures.items) at c.cut-from.ensures.cut in
    let closed = c.cut-to.ensures.cut in
    let some = until_there c.cut-to.new.changes.items c.args.start closed.usage.steps.rising (closed.kept c.args.start opened.there) in
    let items = with_items_is c.cut-to.new.rows c.raise.new.rows (c.raise.ensures.size ∙ c.deref_mut.ensures.len) in
    let raised = raised_rows c.cut-to.new.changes.items c.cut-to.new.rows.items c.cut-from.result
    c.cut-to.result c.args.needs.now c.raise.new.rows c.cut-to.ensures.whole (omega arith)
    (rw c.deref_mut.ensures.value at c.raise.ensures) in
    rw items (raised_steps c.cut-to.new.changes.items rows2 c.cut-from.result c.cut-to.result
    c.args.needs.now (lists w c.cut-to.new.changes.items c.raise.new.rows) closed.usage.steps
    (omega arith) raised)

pub merge-requires-2-clause-there : goal.merge-requires-2-clause-there
merge-requires-2-clause-there c =
    let order = c.requires.order in
    c.merge.ensures.merged.kept c.args.start (c.cut-to.ensures.cut.kept c.args.start c.cut-from.ensures.cut.there) (λ same. absurd (omega arith))

pub returns-clause-ok : goal.returns-clause-ok
returns-clause-ok c =
    let w = length c.args.needs.now in
    let rows0 = lists w c.args.changes.now.items c.args.rows.now.items in
    let rows1 = lists w c.cut-from.new.changes.items c.cut-from.new.rows.items in
    let rows2 = lists w c.cut-to.new.changes.items c.cut-to.new.rows.items in
    let from = c.cut-from.ensures.place ∙ sym (c.cut-to.ensures.before c.args.start c.requires.order) in
    let to = c.cut-to.ensures.place in
    let most = until_within c.cut-to.new.changes.items c.args.end in
    let opened = rw (c.in_ok-reserve.ensures.items, c.in_ok-reserve-2.ensures.items) at c.cut-from.ensures.cut in
    let items = with_items_is c.cut-to.new.rows c.raise.new.rows (c.raise.ensures.size ∙ c.deref_mut.ensures.len) in
    let raised = raised_rows c.cut-to.new.changes.items c.cut-to.new.rows.items c.cut-from.result
    c.cut-to.result c.args.needs.now c.raise.new.rows c.cut-to.ensures.whole (omega arith)
    (rw c.deref_mut.ensures.value at c.raise.ensures) in
    placed c.args.changes.now.items rows0 c.args.start c.args.end c.args.needs.now
    c.cut-from.new.changes.items rows1 c.cut-to.new.changes.items rows2
    (lists w c.cut-to.new.changes.items c.raise.new.rows)
    c.merge.new.changes.items (lists w c.merge.new.changes.items c.merge.new.rows.items) c.merge-2.new.changes.items (lists w c.merge-2.new.changes.items c.merge-2.new.rows.items)
    c.requires.true_changes
    (record {
      opened = opened;
      closed = c.cut-to.ensures.cut;
      raised = rw (from, to) at raised;
      end_merged = rw items at c.merge.ensures.merged;
      start_merged = c.merge-2.ensures.merged;
    })
