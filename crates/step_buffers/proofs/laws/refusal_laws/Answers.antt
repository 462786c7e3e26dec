use Rattle.step_buffers.proofs.RefusedTakes.{least-missing}
use Rattle.step_buffers.proofs.laws.refusal_laws.Goals as goal

pub returns : goal.returns
returns c = record { least = least-missing }
