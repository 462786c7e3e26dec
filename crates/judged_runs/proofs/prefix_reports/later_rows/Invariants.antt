use Rattle.std.proofs.Common.{◌≡◌, ◌-◌, map, take, length, vec_len}
use Rattle.suffix_staircase.specs.Levels.{rows_of}
use Rattle.judged_runs.specs.LaterRows.{later_by}
use Rattle.judged_runs.proofs.prefix_reports.later_rows.Given as goal

-- the first rows were taken
abbrev pub invariant-loop-row : goal.invariant-loop-row
invariant-loop-row l = l.rows.items ≡ map (later_by l.after) (take (vec_len l.rows) (rows_of l.stairs))

abbrev pub decreases-loop-row : goal.decreases-loop-row
decreases-loop-row l = length (rows_of l.stairs) - vec_len l.rows
