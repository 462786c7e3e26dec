use Rattle.std.proofs.Common.{◌≡◌, ◌++◌, take, map}
use Rattle.trace_text.specs.RecordWriting.{IsReady, written}
use Rattle.trace_text.specs.Records.{text_of_records}
use Rattle.front_timeouts.specs.TimeoutTexts.{timeout_record}
use Rattle.front_timeouts.proofs.texts.write_follower.Given as goal

abbrev pub invariant-loop-timeout : goal.invariant-loop-timeout
invariant-loop-timeout l = record {
  ready : IsReady l.writer;
  text : written l.writer ≡ written l.fn.writer ++ text_of_records
      (map (timeout_record l.follower.follower) (take l.timeout-index l.follower.timeouts.items));
}
