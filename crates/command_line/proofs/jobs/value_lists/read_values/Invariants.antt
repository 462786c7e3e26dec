use Rattle.std.proofs.Common.{map}
use Rattle.command_line.proofs.ValueLists.{AreReadValues}
use Rattle.command_line.proofs.jobs.value_lists.read_values.Given as goal

abbrev pub invariant-loop-piece : goal.invariant-loop-piece
invariant-loop-piece l = AreReadValues (map (λ x. x.now) l.yielded) l.values.items
