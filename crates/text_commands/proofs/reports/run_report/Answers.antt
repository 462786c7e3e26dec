use Rattle.std.proofs.Common.{ap, rules}
use Rattle.std.proofs.lemmas.Result.{err_from_is_err_and}
use Rattle.front.specs.ReportTexts.{report_text}
use Rattle.text_verdicts.specs.Reports.{IsReportFor}
use Rattle.text_commands.specs.Answers.{IsAnswerTo, IsUnanswered}
use Rattle.text_commands.specs.Reports.{IsUnreported}
use Rattle.text_commands.specs.Serving.{IsServeFault, MayTell}
use Rattle.text_commands.proofs.DeclinedTraces.{text_of}
use Rattle.text_commands.proofs.WrittenAnswers.{before-untold, cut, of_known, write-told}
use Rattle.text_commands.proofs.reports.run_report.Goals as goal

-- the report wasn't written whole
pub returns-in_err-write_report-clause-served : goal.returns-in_err-write_report-clause-served
returns-in_err-write_report-clause-served g c =
    let p = err_from_is_err_and c.from_residual-in_err-write_report.result c.from_residual-in_err-write_report.ensures.1 in
    let read = c.in_ok-trace.ensures.read in
    let Gives = IsAnswerTo (IsReportFor c.args.correct) in
    let Refuses = IsUnanswered (IsUnreported c.args.correct) in
    rw (p.1, p.2) (record {
      cause = of_known (λ text. IsServeFault Gives Refuses text _ _ _) read.text _ read.is (cut Gives Refuses read.text _ _ _ _
          (record {
            trace = c.in_ok-trace.trace;
            read = text_of read;
            holds =
                record {
                  within = c.in_ok-report.ensures.within;
                  rows = c.in_ok-report.report.rows;
                  exact = c.in_ok-report.ensures.report;
                  written = ap report_text c.rows.ensures;
                };
          })
          tt (before-untold _ _ _ _ c.in_err-write_report.ensures.part));
      own = write-told (MayTell (IsUnreported c.args.correct)) _;
      unread = search rules;
      unwritten = search rules;
    })
