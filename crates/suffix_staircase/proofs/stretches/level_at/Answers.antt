use Rattle.std.proofs.Common.{◌+◌, ◌-◌, arith, rules}
use Rattle.std.specs.Prelude.{nat_lt}
use Rattle.std.proofs.lemmas.List.Sorted.{IsPartitionPoint-from_clause, IsPartitionedBy-ltb}
use Rattle.suffix_staircase.proofs.KeptStretches.{kept-rise, level_at_point, HoldsLevel}
use Rattle.suffix_staircase.proofs.stretches.level_at.Goals as goal
use Rattle.suffix_staircase.proofs.stretches.level_at.Goals.{After-partition_point-holder}

holds : (c : After-partition_point-holder) → HoldsLevel c.args.stretches.now c.partition_point-holder.result c.args.g
holds c =
    let kept = c.args.stretches.now in
    let depth = c.height.result - c.args.g + 1 in
    let parted = IsPartitionedBy-ltb (λ s. s.reach) kept depth (kept-rise kept c.requires.stretches) in
    level_at_point kept c.partition_point-holder.result c.args.g depth
    c.requires.stretches c.requires.low c.requires.high (omega (arith, c.height.ensures))
    (IsPartitionPoint-from_clause (λ s. nat_lt s.reach depth) _ _ c.partition_point-holder.ensures.partitioned
    parted (λ a r q k. search rules))

pub bounds-stretches-holder : goal.bounds-stretches-holder
bounds-stretches-holder c = (holds c).within

pub returns : goal.returns
returns c = (holds (goal.at.returns c).After-partition_point-holder).level _
