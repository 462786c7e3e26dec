use Rattle.std.proofs.Common.{◌≡◌}
use Rattle.trace_text.specs.Faults.{inner_of}
use Rattle.node_runs.specs.Followers.{HasTold, IsLine}
use Rattle.node_runs.proofs.followers.Follower.follow.Given as goal

abbrev pub invariant-loop : goal.invariant-loop
invariant-loop g l = (l.self.analyst.set ≡ l.initial.self.analyst.set) × HasTold (IsLine l.recorder.config l.initial.self.analyst.set)
    l.initial.self.told l.self.told (g.W.Write.contents (inner_of l.initial.self.writer)) (g.W.Write.contents (inner_of l.self.writer))
