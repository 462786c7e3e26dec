use Rattle.std.proofs.Common.{rules}
use Rattle.lock_phases.proofs.quorums.acks.Goals as goal

pub returns : goal.returns
returns c = search rules
