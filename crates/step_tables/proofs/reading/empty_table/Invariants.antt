use Rattle.std.proofs.Common.{◌≡◌, [], map, string_bytes}
use Rattle.std.proofs.Math.ListN.{replicate}
use Rattle.step_tables.proofs.reading.empty_table.Given as goal

-- so many empty names
abbrev pub invariant-loop-node : goal.invariant-loop-node
invariant-loop-node l = record { so_far : map string_bytes l.nodes.items ≡ replicate l._node [] }
