use Rattle.std.proofs.Common.{◌≡◌, ◌-◌, ◌++◌, ◌∷◌, map}
use Rattle.std.specs.List.{range_with_len}
use Rattle.trace_text.specs.Records.{text_of_records}
use Rattle.trace_text.specs.RecordWriting.{IsReady, written}
use Rattle.text_commands.specs.ReplayTexts.{processor_record, replay_header}
use Rattle.text_commands.proofs.replay_texts.write_records.Given as goal

abbrev pub invariant-loop-p : goal.invariant-loop-p
invariant-loop-p l = record {
  ready : IsReady l.writer;
  text : written l.writer ≡ written l.fn.writer ++ text_of_records
      (replay_header ∷ map (processor_record l.world.trace.config l.world.trace.steps) (range_with_len 1 (l.p - 1)));
}
