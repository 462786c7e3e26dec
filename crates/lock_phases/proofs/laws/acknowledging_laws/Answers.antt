use Rattle.lock_phases.proofs.AcknowledgingLaws.{acknowledging-keeps, acknowledging-decided, acknowledging-quorum, acknowledging-acknowledged}
use Rattle.lock_phases.proofs.laws.acknowledging_laws.Goals as goal

pub returns-clause-keeps : goal.returns-clause-keeps
returns-clause-keeps c = acknowledging-keeps

pub returns-clause-decided : goal.returns-clause-decided
returns-clause-decided c = acknowledging-decided

pub returns-clause-quorum : goal.returns-clause-quorum
returns-clause-quorum c = acknowledging-quorum

pub returns-clause-acknowledged : goal.returns-clause-acknowledged
returns-clause-acknowledged c = acknowledging-acknowledged
