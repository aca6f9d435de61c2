use Rattle.std.proofs.Common.{ℕ, ◌≡◌, ◌∙◌, List, ap, length, subst, sym, Vec}
use Rattle.std.specs.declared.alloc.Global.{Global}
use Rattle.plan_net.specs.Network.{unlagged}
use Rattle.plan_net.specs.declared.arcs.Arcs.TheInside.{Inside}
use Rattle.plan_net.specs.Marks.{AreNoLags}
use Rattle.plan_net.specs.Rows.{AreNumbersOfRows, AreTurned}
use Rattle.plan_net.specs.Successors.{arcs_of_rows, rows_in}
use Rattle.plan_net.proofs.IndexLemmas.{IsIndexed-rows, net_of-unlagged}
use Rattle.plan_net.proofs.SuccessorLemmas.{AreNumbersOfRows-rows}
use Rattle.plan_net.proofs.arcs.Arcs.of_rows.Goals.{In_ok-lags}
use Rattle.plan_net.proofs.arcs.Arcs.of_rows.Goals as goal

pub turned-requires-clause-numbers : goal.turned-requires-clause-numbers
turned-requires-clause-numbers c = subst AreNumbersOfRows (sym c.deref-2.ensures.value) (AreNumbersOfRows-rows (length c.args.durations.items) c.args.rows.items c.requires.rows)

pub rising_rows-requires-clause-numbers : goal.rising_rows-requires-clause-numbers
rising_rows-requires-clause-numbers c = AreNumbersOfRows-rows (length c.args.durations.items) c.args.rows.items c.requires.rows

-- the network that is made, with its rows
abbrev made : In_ok-lags → Inside
made c = record { durations = c.args.durations; arcs = c.in_ok-arcs.arcs; preds = c.in_ok-preds.preds; succs = c.in_ok-succs.succs; lags = c.in_ok-lags.lags }

-- its rows have no lag
has_no_lags : (c : In_ok-lags) → AreNoLags (made c).preds.items (made c).lags.items
has_no_lags c = subst (λ (ps : List (Vec ℕ Global)). AreNoLags ps c.in_ok-lags.lags.items) c.deref-4.ensures.value c.in_ok-lags.ensures

-- its arcs are those of the rows
arcs_made : (c : In_ok-lags) → c.in_ok-arcs.arcs.items ≡ arcs_of_rows 1 (rows_in c.args.rows.items)
arcs_made c = subst (λ (rows : List (Vec ℕ Global)). c.in_ok-arcs.arcs.items ≡ arcs_of_rows 1 (rows_in rows)) c.deref.ensures.value c.in_ok-arcs.ensures

pub invariant_of-result : goal.invariant_of-result
invariant_of-result c =
    let preds : AreTurned c.args.rows.items (length c.args.rows.items) c.in_ok-preds.preds.items =
    subst (λ (rows : List (Vec ℕ Global)). AreTurned rows (length rows) c.in_ok-preds.preds.items) c.deref-2.ensures.value c.in_ok-preds.ensures in
    let succs : AreTurned c.in_ok-preds.preds.items (length c.in_ok-preds.preds.items) c.in_ok-succs.succs.items =
    subst (λ (rows : List (Vec ℕ Global)). AreTurned rows (length rows) c.in_ok-succs.succs.items) c.deref-3.ensures.value c.in_ok-succs.ensures in
    IsIndexed-rows (made c) c.args.rows.items c.requires.size c.requires.durations c.requires.rows (arcs_made c) preds succs (has_no_lags c)

pub returns-clause-made : goal.returns-clause-made
returns-clause-made c = net_of-unlagged (made c) (has_no_lags c) ∙ ap (unlagged c.args.durations.items) (arcs_made c)

pub returns-clause-limits : goal.returns-clause-limits
returns-clause-limits c = (invariant_of-result c).limits
