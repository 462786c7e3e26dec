use Rattle.std.proofs.Common.{◌≡◌, ◌-◌, take, length, vec_len}
use Rattle.suffix_staircase.specs.Levels.{rows_of}
use Rattle.front.proofs.reports.rows_of.Given as goal

abbrev pub invariant-loop-row : goal.invariant-loop-row
invariant-loop-row l = l.rows.items ≡ take (vec_len l.rows) (rows_of l.stairs)

abbrev pub decreases-loop-row : goal.decreases-loop-row
decreases-loop-row l = length (rows_of l.stairs) - vec_len l.rows
