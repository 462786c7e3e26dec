use Rattle.chunk_join.proofs.JoinedInOrder.{StandsFor}
use Rattle.chunk_join.proofs.joins.join_all.Given as goal

abbrev pub invariant-loop-part : goal.invariant-loop-part
invariant-loop-part g l = let m = g.J.Joined in StandsFor m.refusal m.joined m.empty l.fn.parts.items l.all l.part-iterator.rest.items
