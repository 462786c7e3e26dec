use Rattle.std.proofs.Common.{◌≡◌, ◌≤◌, length}
use Rattle.command_options.specs.Simulations.{live}
use Rattle.command_line.proofs.jobs.crash_lists.live_count.Given as goal

abbrev pub invariant-loop-i : goal.invariant-loop-i
invariant-loop-i l = (l.count ≡ length (live l.i l.crashes)) × (l.count ≤ l.i)
