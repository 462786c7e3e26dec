use Rattle.std.proofs.Common.{◌≡◌, take}
use Rattle.trace_text.specs.RecordWriting.{IsReady, written}
use Rattle.front.specs.ReportTexts.{report_text}
use Rattle.front.proofs.report_texts.report_text_of.Given as goal

abbrev pub invariant-loop-row : goal.invariant-loop-row
invariant-loop-row l = record { ready : IsReady l.writer; text : written l.writer ≡ report_text (take l.row-index l.rows) }
