use Rattle.std.proofs.Common.{map}
use Rattle.command_line.specs.CrashLists.{IsCrash64, crash_text}
use Rattle.command_line.proofs.CommaLists.{AreRead}
use Rattle.command_line.proofs.jobs.crash_lists.read_crashes.Given as goal

abbrev pub invariant-loop-piece : goal.invariant-loop-piece
invariant-loop-piece l = AreRead IsCrash64 crash_text (map (λ x. x.now) l.yielded) l.crashes.items
