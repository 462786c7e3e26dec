use Rattle.step_buffers.proofs.KeptProcessors.{IsProcessor-at}
use Rattle.step_buffers.proofs.worlds.World.next_destination.Goals as goal

pub next_send-requires : goal.next_send-requires
next_send-requires c =
    IsProcessor-at c.self.inside.trace.config c.self.inside.trace.steps c.self.inside.processors.items c.args.p c.index.result.now
    c.self.invariant.0.processors (rw (← c.self.view_is) at c.requires) c.index.ensures
