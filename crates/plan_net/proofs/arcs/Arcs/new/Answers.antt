use Rattle.std.proofs.Common.{ℕ, List, length, subst, sym, Vec}
use Rattle.std.specs.declared.alloc.Global.{Global}
use Rattle.plan_net.specs.Network.{unlagged}
use Rattle.plan_net.specs.declared.arcs.Arcs.TheInside.{Inside}
use Rattle.plan_net.specs.Limits.{HasGoodSize, HasGoodDurations, HasGoodArcs, HasNewArcs}
use Rattle.plan_net.specs.Marks.{AreNoLags}
use Rattle.plan_net.specs.Rows.{AreBeginnings, AreNumbersOfRows, AreTurned}
use Rattle.plan_net.proofs.IndexLemmas.{IsIndexed-made, net_of-unlagged}
use Rattle.plan_net.proofs.PushLemmas.{AreNumbersOfRows-beginnings, AreNumbersOfRows-turned}
use Rattle.plan_net.proofs.arcs.Arcs.new.Goals.{After-deref-7, After-deref-8, In_ok-lags}
use Rattle.plan_net.proofs.arcs.Arcs.new.Goals as goal

-- the facts that are tested before the rows are made
plain : (c : After-deref-7) → HasGoodSize (unlagged c.args.durations.items c.args.arcs.items)
    × HasGoodDurations (unlagged c.args.durations.items c.args.arcs.items)
    × HasGoodArcs (unlagged c.args.durations.items c.args.arcs.items)
plain c =
    subst (λ (arcs : List (ℕ × ℕ)). HasGoodSize (unlagged c.args.durations.items arcs)
    × HasGoodDurations (unlagged c.args.durations.items arcs)
    × HasGoodArcs (unlagged c.args.durations.items arcs)) c.deref-2.ensures.value
    (subst (λ (ds : List ℕ). HasGoodSize (unlagged ds c.deref-2.result.now)
    × HasGoodDurations (unlagged ds c.deref-2.result.now)
    × HasGoodArcs (unlagged ds c.deref-2.result.now)) c.deref.ensures.value c.in_default.ensures.none)

all_new : (c : After-deref-7) → HasNewArcs (unlagged c.args.durations.items c.args.arcs.items)
all_new c =
    subst (λ (arcs : List (ℕ × ℕ)). HasNewArcs (unlagged c.args.durations.items arcs)) c.deref-4.ensures.value
    (subst (λ (ds : List ℕ). HasNewArcs (unlagged ds c.deref-4.result.now)) c.deref-3.ensures.value c.in_default-first_double_arc.ensures.none)

-- the rows, and their transposes
beginnings : (c : After-deref-7) → AreBeginnings (length c.args.durations.items) c.args.arcs.items c.in_ok-beginnings.beginnings.items
beginnings c =
    subst (λ (arcs : List (ℕ × ℕ)). AreBeginnings (length c.args.durations.items) arcs c.in_ok-beginnings.beginnings.items) c.deref-6.ensures.value
    (subst (λ (ds : List ℕ). AreBeginnings (length ds) c.deref-6.result.now c.in_ok-beginnings.beginnings.items) c.deref-5.ensures.value c.in_ok-beginnings.ensures)

succs : (c : After-deref-8) → AreTurned c.in_ok-beginnings.beginnings.items (length c.in_ok-beginnings.beginnings.items) c.in_ok-succs.succs.items
succs c = subst (λ (rows : List (Vec ℕ Global)). AreTurned rows (length rows) c.in_ok-succs.succs.items) c.deref-7.ensures.value c.in_ok-succs.ensures

-- the network that is made, with its rows
abbrev made : In_ok-lags → Inside
made c = record { durations = c.args.durations; arcs = c.args.arcs; preds = c.in_ok-preds.preds; succs = c.in_ok-succs.succs; lags = c.in_ok-lags.lags }

-- its rows have no lag
has_no_lags : (c : In_ok-lags) → AreNoLags (made c).preds.items (made c).lags.items
has_no_lags c = subst (λ (ps : List (Vec ℕ Global)). AreNoLags ps c.in_ok-lags.lags.items) c.deref-9.ensures.value c.in_ok-lags.ensures

pub turned-requires-clause-numbers : goal.turned-requires-clause-numbers
turned-requires-clause-numbers c =
    subst AreNumbersOfRows (sym c.deref-7.ensures.value)
    (AreNumbersOfRows-beginnings (unlagged c.args.durations.items c.args.arcs.items) c.in_ok-beginnings.beginnings.items (plain c).2 (beginnings c))

pub turned-requires-2-clause-numbers : goal.turned-requires-2-clause-numbers
turned-requires-2-clause-numbers c =
    subst AreNumbersOfRows (sym c.deref-8.ensures.value)
    (AreNumbersOfRows-turned c.in_ok-beginnings.beginnings.items c.in_ok-succs.succs.items (succs c))

pub invariant_of-result : goal.invariant_of-result
invariant_of-result c =
    let before = (goal.at.invariant_of-result c).After-deref-7 in
    let preds : AreTurned c.in_ok-succs.succs.items (length c.in_ok-succs.succs.items) c.in_ok-preds.preds.items =
    subst (λ (rows : List (Vec ℕ Global)). AreTurned rows (length rows) c.in_ok-preds.preds.items) c.deref-8.ensures.value c.in_ok-preds.ensures in
    IsIndexed-made (made c) c.in_ok-beginnings.beginnings.items (plain before).0 (plain before).1
    (plain before).2 (all_new before) (beginnings before)
    (succs (goal.at.invariant_of-result c).After-deref-8) preds (has_no_lags c)

pub returns-clause-accepted : goal.returns-clause-accepted
returns-clause-accepted c =
    let before = (goal.at.returns-clause-accepted c).In_ok-lags in
    (net_of-unlagged (made before) (has_no_lags before), (invariant_of-result before).limits)
