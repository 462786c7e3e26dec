use Rattle.deciding_runs.proofs.NotedPeers.{complete-hears, IsHeardOut-ended, WereHeard-longer}
use Rattle.deciding_runs.proofs.PacedMembers.{completing-decides}
use Rattle.deciding_runs.proofs.PacedSteps.{WereHeard-moved}
use Rattle.deciding_runs.proofs.laws.pace_laws.Goals as goal

pub returns-clause-hears : goal.returns-clause-hears
returns-clause-hears c = complete-hears

pub returns-clause-grows : goal.returns-clause-grows
returns-clause-grows c steps more p x = WereHeard-longer steps more p x.peers

pub returns-clause-moved : goal.returns-clause-moved
returns-clause-moved c = WereHeard-moved

pub returns-clause-heard_out : goal.returns-clause-heard_out
returns-clause-heard_out c = IsHeardOut-ended

pub returns-clause-decided : goal.returns-clause-decided
returns-clause-decided c = completing-decides
