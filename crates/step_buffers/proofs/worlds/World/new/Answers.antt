use Rattle.std.proofs.Common.{arith}
use Rattle.step_buffers.proofs.KeptProcessors.{IsRun-opening, AreLetters-opening}
use Rattle.step_buffers.proofs.worlds.World.new.Goals as goal

pub invariant_of-result : goal.invariant_of-result
invariant_of-result c = (
  record {
    setup = rw c.new.ensures.config c.in_ok-processors.ensures.setup;
    paced = record {
      run = rw (c.new.ensures.config, c.new.ensures.steps) (IsRun-opening c.args.config);
      one_per_tick = c.new.ensures.numbered;
    };
    letters = rw (c.new.ensures.config, c.new.ensures.steps, c.new-2.ensures.items) (AreLetters-opening c.args.config);
    processors = rw (c.new.ensures.config, c.new.ensures.steps) c.in_ok-processors.ensures.kept;
  },
  c.requires,
  rw c.new.ensures.steps (omega arith),
)
