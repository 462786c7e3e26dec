use Rattle.std.proofs.Common.{◌≡◌, ◌≤◌, take}
use Rattle.std.specs.Prelude.{count_by}
use Rattle.step_tables.specs.Moves.{is_moved}
use Rattle.step_tables.proofs.moves.moved_in.Given as goal

-- the events that were moved so far
abbrev pub invariant-loop-row : goal.invariant-loop-row
invariant-loop-row l = (l.count ≡ count_by is_moved (take l.row-index l.rows)) × (l.count ≤ l.row-index)
