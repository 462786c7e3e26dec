use Rattle.std.proofs.Common.{◌≡◌, length}
use Rattle.step_buffers.proofs.KeptProcessors.{AreOpening}
use Rattle.step_buffers.proofs.processors.opening_processors.Given as goal

abbrev pub invariant-loop-value : goal.invariant-loop-value
invariant-loop-value l = (length l.processors.items ≡ l.value-index) × AreOpening l.config l.processors.items
