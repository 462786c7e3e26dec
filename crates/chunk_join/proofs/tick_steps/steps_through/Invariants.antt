use Rattle.std.proofs.Common.{◌+◌}
use Rattle.chunk_join.proofs.TickSearches.{ComeBefore}
use Rattle.chunk_join.proofs.tick_steps.steps_through.Given as goal

abbrev pub invariant-loop-no : goal.invariant-loop-no
invariant-loop-no l = ComeBefore l.trace (l.tick + 1) l.no
