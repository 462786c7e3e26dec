use Rattle.std.proofs.Common.{◌≡◌, ◌≤◌, drop, length, map}
use Rattle.std.specs.List.{list_all}
use Rattle.trace_text.specs.Names.{has_name}
use Rattle.step_tables.specs.Records.{message_at}
use Rattle.step_tables.proofs.records.are_among.Given as goal

-- all messages have their names among the words if those that follow do
abbrev pub invariant-loop-id : goal.invariant-loop-id
invariant-loop-id l = record {
  inside : l.id-index ≤ length l.ids;
  rest : list_all (λ id. has_name (map (λ word. word.now) l.words) (message_at l.rows id)) l.ids
      ≡ list_all (λ id. has_name (map (λ word. word.now) l.words) (message_at l.rows id)) (drop l.id-index l.ids);
}
