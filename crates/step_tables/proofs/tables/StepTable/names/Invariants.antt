use Rattle.std.proofs.Common.{◌≡◌, map, string_bytes, take}
use Rattle.step_tables.proofs.tables.StepTable.names.Given as goal

-- the names so far
abbrev pub invariant-loop-node : goal.invariant-loop-node
invariant-loop-node l = record { so_far : map (λ name. name.now) l.names.items ≡ map string_bytes (take l.node-index l.node-items) }
