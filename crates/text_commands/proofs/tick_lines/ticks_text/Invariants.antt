use Rattle.std.proofs.Common.{◌≡◌, take, string_bytes}
use Rattle.text_commands.specs.TickLines.{ticks_text}
use Rattle.text_commands.proofs.tick_lines.ticks_text.Given as goal

-- the header and the rows so far
abbrev pub invariant-loop-row : goal.invariant-loop-row
invariant-loop-row l = string_bytes l.text ≡ ticks_text l.table.kind (take l.row-index l.table.rows.items)
