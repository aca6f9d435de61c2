use Rattle.std.proofs.Common.{ℕ, List, ◌≤◌, ◌<◌, ◌⊎◌, inl, inr, length, get_or, arith}
use Rattle.std.proofs.lemmas.Bool.{cases_lt}
use Rattle.plan_net.specs.Network.{IsArc, ListsRising}
use Rattle.plan_net.specs.Placed.{IsOpen}
use Rattle.plan_net.proofs.RisingLemmas.{rising_at_most}
use Rattle.plan_net.proofs.TurnLemmas.{IsStuckBelow-at, IsStuckBelow-behind}
use Rattle.plan_net.proofs.order.next_from.Goals as goal

pub returns-then-k-j-clause-below : goal.returns-then-k-j-clause-below
returns-then-k-j-clause-below c = IsStuckBelow-behind c.args.arcs.now c.args.placed.now c.args.j list listed c.requires.below c.requires.placed
    (λ m within lower. by_case m within lower (cases_lt m at)) where
      list : List ℕ
      list = c.succs-k-items.result.now

      listed : ListsRising (IsArc c.args.arcs.now c.args.j) list
      listed = c.succs-k-items.ensures.exact

      at : ℕ
      at = c.loop-k.k-index

      by_case : (m : ℕ) → m < length list → get_or list m 0 < c.args.j → (m < at) ⊎ (at ≤ m) → (i : ℕ) × IsArc c.args.arcs.now i (get_or list m 0) × IsOpen c.args.placed.now i
      by_case m within lower (inl before) = c.loop-k.invariant m before lower
      by_case m within lower (inr behind) = let up : get_or list at 0 ≤ get_or list m 0 = rising_at_most list listed.rising at m behind within in absurd (omega (arith, up, lower, c.if-k-j.true))

pub returns-then-is_none-clause-below : goal.returns-then-is_none-clause-below
returns-then-is_none-clause-below c =
    IsStuckBelow-at c.args.arcs.now c.args.placed.now c.args.j c.loop-k.k-index c.succs-k-items.result.now
    c.succs-k-items.ensures.exact c.requires.below c.loop-k-test.true (omega (arith, c.if-k-j.false)) c.loop-k.invariant

pub returns-clause-below : goal.returns-clause-below
returns-clause-below c =
    IsStuckBelow-behind c.args.arcs.now c.args.placed.now c.args.j c.succs-k-items.result.now c.succs-k-items.ensures.exact c.requires.below c.requires.placed
    (λ m within lower. c.loop-k.invariant m (omega (arith, within, c.loop-k-test.false)) lower)
