use Rattle.std.proofs.Common.{◌≡◌, drop, fold, filter}
use Rattle.lock_phases.specs.Quorums.{has_quorum, lesser}
use Rattle.lock_phases.proofs.quorums.lesser_of_list.Given as goal

abbrev pub invariant-loop-v : goal.invariant-loop-v
invariant-loop-v l = fold lesser l.least (filter (has_quorum l.quorum l.heard) (drop l.v-index l.values))
    ≡ fold lesser l.fn.so_far (filter (has_quorum l.quorum l.heard) l.values)
