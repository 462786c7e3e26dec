use Rattle.std.proofs.Common.{◌≡◌, take}
use Rattle.text_commands.specs.TickLines.{nearest}
use Rattle.text_commands.proofs.tick_lines.nearest.Given as goal

-- the one among the rows so far
abbrev pub invariant-loop-row : goal.invariant-loop-row
invariant-loop-row l = l.found ≡ nearest (take l.row-index l.rows)
