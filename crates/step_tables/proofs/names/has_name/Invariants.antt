use Rattle.std.proofs.Common.{◌≡◌, ◌≤◌, drop, length, map, string_bytes}
use Rattle.trace_text.specs.Names.{has_name}
use Rattle.step_tables.proofs.names.has_name.Given as goal

-- the name is among all names if it is among those that follow
abbrev pub invariant-loop-known : goal.invariant-loop-known
invariant-loop-known l = record {
  inside : l.known-index ≤ length l.names;
  rest : has_name (map string_bytes l.names) l.name ≡ has_name (map string_bytes (drop l.known-index l.names)) l.name;
}
