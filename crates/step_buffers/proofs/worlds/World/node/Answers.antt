use Rattle.step_buffers.proofs.KeptProcessors.{IsProcessor-at}
use Rattle.step_buffers.proofs.worlds.World.node.Goals as goal

pub returns : goal.returns
returns c = rw (← c.self.view_is) (IsProcessor-at c.self.inside.trace.config c.self.inside.trace.steps c.self.inside.processors.items
    c.args.p c.index.result.now c.self.invariant.0.processors (rw (← c.self.view_is) at c.requires) c.index.ensures).stands.node
