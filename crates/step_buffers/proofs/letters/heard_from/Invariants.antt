use Rattle.std.proofs.Common.{◌≡◌, ◌-◌}
use Rattle.step_buffers.specs.Letters.{heard_from}
use Rattle.step_buffers.proofs.letters.heard_from.Given as goal

abbrev pub invariant-loop-sender : goal.invariant-loop-sender
invariant-loop-sender l = l.heard.items ≡ heard_from l.letters l.ids (l.sender - 1)
