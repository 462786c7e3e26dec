use Rattle.std.proofs.Common.{◌≡◌, drop, fold, filter}
use Rattle.std.specs.List.{flat_map}
use Rattle.lock_phases.proofs.Common.{listed_values, body_of, has_quorum, lesser, least_listed}
use Rattle.lock_phases.proofs.quorums.least_listed.Given as goal

abbrev pub invariant-loop-body : goal.invariant-loop-body
invariant-loop-body l = fold lesser l.least (filter (has_quorum l.quorum l.heard)
    (flat_map (λ m. listed_values (body_of m).kind) (drop l.body-index l.heard))) ≡ least_listed l.quorum l.heard
