use Rattle.std.proofs.Common.{◌≡◌, length}
use Rattle.step_buffers.proofs.KeptProcessors.{AreCopied}
use Rattle.step_buffers.proofs.copies.copied_processors.Given as goal

abbrev pub invariant-loop-processor : goal.invariant-loop-processor
invariant-loop-processor l = (length l.copy.items ≡ l.processor-index) × AreCopied l.processors l.copy.items
