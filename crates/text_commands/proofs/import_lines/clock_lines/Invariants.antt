use Rattle.std.proofs.Common.{◌≡◌, string_bytes}
use Rattle.text_commands.specs.ImportLines.{clock_lines}
use Rattle.text_commands.proofs.import_lines.clock_lines.Given as goal

abbrev pub invariant-loop-place : goal.invariant-loop-place
invariant-loop-place l = string_bytes l.lines ≡ clock_lines l.is_nanoseconds l.nodes l.offsets l.place
