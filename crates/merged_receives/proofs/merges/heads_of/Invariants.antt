use Rattle.merged_receives.proofs.MergeWalks.{AreHeads}
use Rattle.merged_receives.proofs.merges.heads_of.Given as goal

-- the events before k have their heads
abbrev pub invariant-loop-k : goal.invariant-loop-k
invariant-loop-k l = AreHeads l.events l.ticks l.order l.k l.opens.items l.heads.items
