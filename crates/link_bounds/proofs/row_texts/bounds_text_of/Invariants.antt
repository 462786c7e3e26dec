use Rattle.std.proofs.Common.{◌≡◌, take}
use Rattle.trace_text.specs.RecordWriting.{IsReady, written}
use Rattle.link_bounds.specs.RowTexts.{bounds_text}
use Rattle.link_bounds.proofs.row_texts.bounds_text_of.Given as goal

abbrev pub invariant-loop-row : goal.invariant-loop-row
invariant-loop-row l = record { ready : IsReady l.writer; text : written l.writer ≡ bounds_text (take l.row-index l.rows) }
