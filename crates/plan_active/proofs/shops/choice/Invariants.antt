use Rattle.std.proofs.Common.{◌≡◌, ◌≤◌, ◌<◌, ℕ}
use Rattle.std.specs.Prelude.{Contains, slice_index}
use Rattle.plan_active.specs.Ranks.{rank_by}
use Rattle.plan_active.proofs.shops.choice.Given as goal

-- the tree is the same, and no letter so far has a lesser rank than the best one
abbrev pub invariant-loop-letter : goal.invariant-loop-letter
invariant-loop-letter l = record {
  same : l.tree ≡ l.fn.tree;
  best : Contains l.letters l.best;
  rank : l.least ≡ rank_by l.fn.tree l.starts l.best;
  least : (k : ℕ) → k < l.letter-index → l.least ≤ rank_by l.fn.tree l.starts (slice_index l.letters k);
}
