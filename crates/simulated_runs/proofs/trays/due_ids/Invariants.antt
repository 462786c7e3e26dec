use Rattle.std.proofs.Common.{◌≡◌, take}
use Rattle.simulated_runs.specs.Trays.{due_ids}
use Rattle.simulated_runs.proofs.trays.due_ids.Given as goal

abbrev pub invariant-loop-message : goal.invariant-loop-message
invariant-loop-message l = l.ids.items ≡ due_ids l.tick (take l.message-index l.posted)
