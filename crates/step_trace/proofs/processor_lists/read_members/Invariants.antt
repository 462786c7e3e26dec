use Rattle.std.proofs.Common.{map}
use Rattle.step_trace.proofs.NumberLists.{IsRead}
use Rattle.step_trace.proofs.processor_lists.read_members.Given as goal

abbrev pub invariant-loop-piece : goal.invariant-loop-piece
invariant-loop-piece l = IsRead (map (λ x. x.now) l.yielded) l.set
