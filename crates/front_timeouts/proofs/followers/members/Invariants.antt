use Rattle.std.proofs.Common.{◌≡◌, ◌-◌, ◌≤◌}
use Rattle.front_timeouts.specs.Followers.{members_to}
use Rattle.front_timeouts.proofs.followers.members.Given as goal

-- the members below `p`
abbrev pub invariant-loop-p : goal.invariant-loop-p
invariant-loop-p l = record { low : 1 ≤ l.p; items : l.all.items ≡ members_to l.set (l.p - 1) }
