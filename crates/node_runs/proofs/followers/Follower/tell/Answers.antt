use Rattle.std.proofs.Common.{inr, refl}
use Rattle.node_runs.specs.StandingLines.{told_stop}
use Rattle.node_runs.proofs.ToldLines.{begun_nothing}
use Rattle.node_runs.proofs.followers.Follower.tell.Goals as goal

pub returns-then-self-clause-told : goal.returns-then-self-clause-told
returns-then-self-clause-told g c = begun_nothing _ told_stop _ (inr refl)
