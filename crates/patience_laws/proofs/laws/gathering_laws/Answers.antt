use Rattle.std.proofs.Common.{◌≡◌, ◌+◌, ◌*◌, arith}
use Rattle.patience_laws.proofs.AskedAcknowledgements.{five-rounds}
use Rattle.patience_laws.proofs.NearMembers.{near-met}
use Rattle.patience_laws.proofs.MeetingMembers.{have-met}
use Rattle.patience_laws.proofs.laws.gathering_laws.Goals as goal

pub returns-clause-five : goal.returns-clause-five
returns-clause-five c patience set trace g d f round x wait keeps order itself touch there low enough =
    five-rounds patience set trace g d f keeps order itself round x touch low wait round x enough (omega arith) (omega arith) there

pub returns-clause-near : goal.returns-clause-near
returns-clause-near c patience set trace g d f least round x p keeps order itself touch low there first up close part loud enough member
    long = near-met patience set trace g d f keeps order itself enough least x touch low there round up close part first loud p member long

pub returns-clause-meet : goal.returns-clause-meet
returns-clause-meet c patience set trace g d f least most p keeps order itself alone need enough member long =
    have-met patience set trace g d f keeps order itself enough least most alone need p member long

pub returns-clause-decide : goal.returns-clause-decide
returns-clause-decide c patience set trace g d f least most setup keeps order itself alone need enough long p member =
    let met = have-met patience set trace g d f keeps order itself enough least most alone need p member (omega arith) in
    let e : 5 * d + (3 * trace.config.n + 10) * f + (trace.config.n * f + 4 * f) ≡ 5 * d + (4 * trace.config.n + 14) * f = grind arith in
    let before = met.before in
    c.meeting_laws.ensures.decided patience set trace g d f met.first met.since setup keeps
    (c.meeting_laws.ensures.meet patience set trace g d f met.first met.since keeps met.met) (omega arith) (omega arith) p member
