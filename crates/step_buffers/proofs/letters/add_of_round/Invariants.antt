use Rattle.std.proofs.Common.{◌≡◌, ◌++◌, take}
use Rattle.step_buffers.specs.Letters.{of_round}
use Rattle.step_buffers.proofs.letters.add_of_round.Given as goal

abbrev pub invariant-loop-id : goal.invariant-loop-id
invariant-loop-id l = l.list.items ≡ l.fn.list.items ++ of_round l.letters l.round (take l.id-index l.ids)
