use Rattle.std.proofs.Common.{◌≡◌, ◌∙◌}
use Rattle.step_buffers.proofs.worlds.World.copy.Goals as goal

pub invariant_of-result : goal.invariant_of-result
invariant_of-result c =
    let world = c.self.invariant.0 in
    let letters : c.in_ok-letters.letters.items ≡ c.self.inside.letters.items = c.in_ok-letters.ensures ∙ c.deref.ensures.value in
    let trace : c.in_ok-trace.trace ≡ c.self.inside.trace = c.in_ok-trace.ensures.copied in
    rw (trace, letters) (
      record {
        setup = world.setup;
        paced = world.paced;
        letters = world.letters;
        processors = c.in_ok-processors.ensures c.self.inside.trace.config c.self.inside.trace.steps
            (rw c.deref-2.ensures.value world.processors);
      },
      c.self.invariant.1,
      c.self.invariant.2,
    )
