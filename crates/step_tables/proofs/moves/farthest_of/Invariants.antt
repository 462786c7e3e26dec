use Rattle.std.proofs.Common.{◌≡◌, take}
use Rattle.step_tables.specs.Moves.{farthest_of}
use Rattle.step_tables.proofs.moves.farthest_of.Given as goal

-- the most so far
abbrev pub invariant-loop-row : goal.invariant-loop-row
invariant-loop-row l = l.most ≡ farthest_of l.width (take l.row-index l.rows)
