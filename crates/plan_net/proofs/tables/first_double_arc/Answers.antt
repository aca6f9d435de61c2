use Rattle.std.proofs.Common.{false, ◌≡◌, ◌-◌, length, get_or, sym, ◌∙◌, below_more}
use Rattle.plan_net.specs.Network.{unlagged}
use Rattle.plan_net.specs.Limits.{IsNewArc}
use Rattle.plan_net.specs.Marks.{mark_at}
use Rattle.plan_net.proofs.MarkLemmas.{AreMarks-more, IsNewArc-unmarked, IsSquare-set, mark_read, place_within}
use Rattle.plan_net.proofs.tables.first_double_arc.Goals as goal

pub loop-i-preserved : goal.loop-i-preserved
loop-i-preserved c =
    let arcs = c.args.arcs.now in
    let marks = c.loop-i.marks.items in
    let k = c.loop-i.i-index in
    let inv = c.loop-i.invariant in
    let place = place_within c.args.durations.now arcs k marks c.loop-i-test.true c.requires.good inv.square in
    let unmarked : mark_at marks ((get_or arcs k (0, 0)).1 - 1) ((get_or arcs k (0, 0)).0 - 1) ≡ false =
    sym (mark_read marks ((get_or arcs k (0, 0)).1 - 1)
    ((get_or arcs k (0, 0)).0 - 1) c.index.result.now c.index-in-loop-i.result.now place.0 place.1
    c.index.ensures c.index-in-loop-i.ensures) ∙ c.if-index.false in
    record {
      square = IsSquare-set (length c.args.durations.now) marks ((get_or arcs k (0, 0)).1 - 1) ((get_or arcs k (0, 0)).0 - 1) c.index_mut.result.now place.0 c.index_mut.ensures.value inv.square;
      marks = AreMarks-more c.args.durations.now arcs k marks c.index_mut.result.now c.loop-i-test.true c.requires.good inv.square c.index_mut.ensures.value inv.marks;
      new_arcs = below_more (IsNewArc (unlagged c.args.durations.now arcs)) k inv.new_arcs (IsNewArc-unmarked c.args.durations.now arcs k marks c.loop-i-test.true c.requires.good inv.marks unmarked);
    }
