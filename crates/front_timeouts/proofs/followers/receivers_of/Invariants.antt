use Rattle.std.proofs.Common.{◌≤◌}
use Rattle.front_timeouts.specs.Followers.{AreReceivers}
use Rattle.front_timeouts.proofs.followers.receivers_of.Given as goal

-- those of the steps before `no`
abbrev pub invariant-loop-no : goal.invariant-loop-no
invariant-loop-no l = record { low : 1 ≤ l.no; receivers : AreReceivers l.trace.steps l.p l.no l.receivers }
