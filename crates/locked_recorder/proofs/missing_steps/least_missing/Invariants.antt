use Rattle.std.proofs.Common.{take}
use Rattle.locked_recorder.specs.Prefixes.{Misses}
use Rattle.locked_recorder.proofs.missing_steps.least_missing.Given as goal

abbrev pub invariant-loop-one : goal.invariant-loop-one
invariant-loop-one l = Misses l.trace.steps (take l.one-index l.done) l.least
