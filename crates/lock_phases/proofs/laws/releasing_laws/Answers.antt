use Rattle.lock_phases.proofs.ReleasingLaws.{releasing-keeps}
use Rattle.lock_phases.proofs.laws.releasing_laws.Goals as goal

pub returns : goal.returns
returns c = record { keeps = releasing-keeps }
