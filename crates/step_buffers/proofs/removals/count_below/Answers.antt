use Rattle.std.proofs.Common.{ltb, ltb-true, arith, rules}
use Rattle.std.proofs.lemmas.List.Sorted.{IsPartitionPoint-from_clause, IsPartitionedBy-ltb, IsNonDecreasingBy-from_default}
use Rattle.step_buffers.proofs.RemovedIds.{rising-nondecreasing}
use Rattle.step_buffers.proofs.removals.count_below.Goals as goal

pub returns-clause-below : goal.returns-clause-below
returns-clause-below c =
    let rises = IsNonDecreasingBy-from_default (λ y. y) c.args.ids.now 0 (rising-nondecreasing c.args.ids.now c.requires) in
    let parted = IsPartitionedBy-ltb (λ y. y) c.args.ids.now c.args.bound rises in
    let point = IsPartitionPoint-from_clause (λ y. ltb y c.args.bound) _ _ c.partition_point.ensures.partitioned parted
    (λ a r q k. search rules) in
    λ k h. ltb-true _ _ (point.0 k 0 (omega arith) h)
