use Rattle.std.proofs.Common.{◌≡◌, ◌≤◌, ◌++◌, drop, length}
use Rattle.text_commands.specs.ListedRuns.{one_line}
use Rattle.text_commands.proofs.listed_runs.push_one_line.Given as goal

-- what was added, before what the bytes that follow make, is all of it
abbrev pub invariant-loop-byte : goal.invariant-loop-byte
invariant-loop-byte l = record {
  inside : l.byte-index ≤ length l.text;
  whole : l.line.items ++ one_line (drop l.byte-index l.text) ≡ l.initial.line.items ++ one_line l.text;
}
