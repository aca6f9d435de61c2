-- The binary search finds the number of changes up to `t`, since the changes rise.
use Rattle.std.proofs.Common.{leb, leb-true, leb-false, arith, rules}
use Rattle.std.proofs.lemmas.List.Sorted.{IsPartitionPoint-from_clause, IsPartitionedBy-leb, IsNonDecreasingBy-from_default}
use Rattle.plan_profile.proofs.SegmentLemmas.{until_above, until_below, rising_order}
use Rattle.plan_profile.proofs.steps.segment.Goals as goal

pub returns : goal.returns
returns c =
    let order = IsNonDecreasingBy-from_default (λ x. x) c.args.changes.now 0 (rising_order c.args.changes.now c.requires) in
    let parted = IsPartitionedBy-leb (λ x. x) c.args.changes.now c.args.t order in
    let point = IsPartitionPoint-from_clause (λ x. leb x c.args.t) _ _ c.partition_point.ensures.partitioned parted (λ a r q k. search rules) in
    let least = until_above c.args.changes.now c.args.t c.partition_point.result c.partition_point.ensures.bound (λ i below. leb-true _ _ (point.0 i 0 (omega arith) below)) in
    let most = until_below c.args.changes.now c.args.t c.partition_point.result (λ i from inside. leb-false _ _ (point.1 i 0 from inside)) in
    omega arith
