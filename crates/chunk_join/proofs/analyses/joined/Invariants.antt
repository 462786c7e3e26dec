use Rattle.chunk_join.proofs.JoinedShares.{AreJoined}
use Rattle.chunk_join.proofs.WorkersLetIn.{AreHeard}
use Rattle.chunk_join.proofs.analyses.joined.Given as goal

abbrev pub invariant-loop-thread : goal.invariant-loop-thread
invariant-loop-thread g l =
    AreJoined l.fn.threads.items l.all l.thread-iterator.rest.items
    × AreHeard g.G.Gate.lets l.fn.threads.items l.all l.thread-iterator.rest.items
