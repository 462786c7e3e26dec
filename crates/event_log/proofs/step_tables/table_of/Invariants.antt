use Rattle.std.proofs.Common.{◌≡◌}
use Rattle.trace_text.specs.RecordWriting.{IsReady, written}
use Rattle.event_log.specs.StepTables.{rows_text}
use Rattle.event_log.proofs.step_tables.table_of.Given as goal

-- the header and the records of the first steps
abbrev pub invariant-loop-k : goal.invariant-loop-k
invariant-loop-k l = record {
  ready : IsReady l.writer;
  text : written l.writer ≡ rows_text l.messages.items l.placed.import.nodes l.placed.events.items l.placed.logged
      l.placed.left_at l.placed.parts l.placed.first l.placed.clock.width l.placed.import.trace.ticks
      l.placed.places.items l.k;
}
