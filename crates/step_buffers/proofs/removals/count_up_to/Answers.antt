use Rattle.std.proofs.Common.{leb, rules}
use Rattle.std.proofs.lemmas.Bool.{leb-false}
use Rattle.std.proofs.lemmas.List.Sorted.{IsPartitionPoint-from_clause, IsPartitionedBy-leb, IsNonDecreasingBy-from_default}
use Rattle.step_buffers.proofs.RemovedIds.{rising-nondecreasing}
use Rattle.step_buffers.proofs.removals.count_up_to.Goals as goal

pub returns-clause-above : goal.returns-clause-above
returns-clause-above c =
    let rises = IsNonDecreasingBy-from_default (λ y. y) c.args.ids.now 0 (rising-nondecreasing c.args.ids.now c.requires) in
    let parted = IsPartitionedBy-leb (λ y. y) c.args.ids.now c.args.bound rises in
    let point = IsPartitionPoint-from_clause (λ y. leb y c.args.bound) _ _ c.partition_point.ensures.partitioned parted
    (λ a r q k. search rules) in
    λ k l h. leb-false _ _ (point.1 k 0 l h)
