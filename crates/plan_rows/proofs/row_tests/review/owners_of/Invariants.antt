use Rattle.std.proofs.Common.{◌≡◌, drop}
use Rattle.std.specs.List.{position_from}
use Rattle.std.specs.HashMap.{get_by}
use Rattle.plan_rows.specs.RowTests.{HeldKey, shown_key, same_key}
use Rattle.plan_rows.specs.PlanReview.{owner_key_of}
use Rattle.plan_rows.proofs.row_tests.review.owners_of.Given as goal

-- the first places of the plans of the lags from i on
abbrev pub invariant-loop-i : goal.invariant-loop-i
invariant-loop-i l = (q : HeldKey) → get_by (λ k. same_key (shown_key q) (shown_key k)) l.places ≡ position_from (λ row. same_key (shown_key q) (owner_key_of row)) l.i (drop l.i l.lags)
