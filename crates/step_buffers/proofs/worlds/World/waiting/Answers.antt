use Rattle.std.proofs.Common.{◌∙◌}
use Rattle.step_buffers.proofs.BufferSteps.{buffer-rises}
use Rattle.step_buffers.proofs.KeptProcessors.{IsProcessor-at}
use Rattle.step_buffers.proofs.worlds.World.waiting.Goals as goal

pub returns-clause-value : goal.returns-clause-value
returns-clause-value c = c.as_slice.ensures.value ∙ rw (← c.self.view_is)
    (IsProcessor-at c.self.inside.trace.config c.self.inside.trace.steps c.self.inside.processors.items c.args.p c.index.result.now
    c.self.invariant.0.processors (rw (← c.self.view_is) at c.requires) c.index.ensures).buffer

pub returns-clause-rising : goal.returns-clause-rising
returns-clause-rising c = rw (returns-clause-value c) (buffer-rises c.args.self.now.trace.steps c.args.p)
