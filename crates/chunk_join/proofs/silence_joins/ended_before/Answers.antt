use Rattle.std.proofs.Common.{◌≡◌, true, rules}
use Rattle.std.specs.Prelude.{nat_lt}
use Rattle.std.proofs.lemmas.Bool.{ltb-true}
use Rattle.std.proofs.lemmas.List.Sorted.{IsPartitionPoint-from_clause}
use Rattle.chunk_join.proofs.Places.{each_taken}
use Rattle.chunk_join.proofs.SeamSilences.{parted_by_end}
use Rattle.chunk_join.proofs.silence_joins.ended_before.Goals as goal

pub returns-clause-ended : goal.returns-clause-ended
returns-clause-ended c =
    let point = IsPartitionPoint-from_clause (λ w. nat_lt w.to c.args.seam) _ _ c.partition_point.ensures.partitioned
    (parted_by_end c.args.silent.now c.args.seam c.requires) (λ a r q k. search rules) in
    λ w k. ltb-true _ _ (each_taken (λ v. nat_lt v.to c.args.seam ≡ true)
    c.args.silent.now c.partition_point.result c.partition_point.ensures.bound point.0 w k)
