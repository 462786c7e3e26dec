use Rattle.std.proofs.Common.{◌≡◌, ◌+◌, ◌-◌, ap, arith}
use Rattle.std.proofs.lemmas.Bool.{le-leb, leb-true}
use Rattle.patience_laws.specs.PacedRuns.{peer_after}
use Rattle.patience_laws.proofs.PacedSteps.{rounds_after}
use Rattle.deciding_runs.proofs.NotedPeers.{heard-weaker}
use Rattle.patience_laws.proofs.KnownRounds.{noted, heard}
use Rattle.patience_laws.proofs.laws.knowledge_laws.Goals as goal

pub returns-clause-noted : goal.returns-clause-noted
returns-clause-noted c setup patience steps p q round k w is ahead h =
    let e : k + 1 - 1 ≡ k = omega arith in
    let f = ap (λ n. rounds_after steps p n) e in
    le-leb round (peer_after setup patience steps p q k).latest (noted setup patience steps p q w is round k (omega arith) h)

pub returns-clause-taken : goal.returns-clause-taken
returns-clause-taken c setup patience steps p q round k w is low h =
    let l = leb-true round (peer_after setup patience steps p q k).latest h in
    heard-weaker steps p q (peer_after setup patience steps p q k).latest round k k l
    (omega arith) (heard setup patience steps p q w is k (omega arith))
