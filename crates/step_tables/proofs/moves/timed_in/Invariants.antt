use Rattle.std.proofs.Common.{◌≡◌, ◌≤◌, take}
use Rattle.std.specs.Prelude.{count_by}
use Rattle.step_tables.specs.Moves.{is_timed}
use Rattle.step_tables.proofs.moves.timed_in.Given as goal

-- the events with times so far
abbrev pub invariant-loop-row : goal.invariant-loop-row
invariant-loop-row l = (l.count ≡ count_by is_timed (take l.row-index l.rows)) × (l.count ≤ l.row-index)
