use Rattle.std.proofs.Common.{◌≡◌, string_bytes}
use Rattle.text_commands.specs.ImportLines.{node_lines}
use Rattle.text_commands.proofs.import_lines.node_lines.Given as goal

abbrev pub invariant-loop-place : goal.invariant-loop-place
invariant-loop-place l = string_bytes l.lines ≡ node_lines l.nodes l.place
