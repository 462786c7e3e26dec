-- What a caller is answered: what `out` and `size` hold afterwards.
use Rattle.std.specs.Prelude.{ℕ, ◌≡◌, ◌<◌, ◌≤◌, List, length, None}
use Rattle.step_trace.specs.declared.correct_sets.Correct.{Correct}
use Rattle.step_trace.specs.CorrectSets.{named}
use Rattle.certificate_checker.specs.declared.verdicts.Verdict.{Verdict}
use Rattle.trace_text.specs.declared.refusals.TextError.{TextError}
use Rattle.trace_text.specs.RefusalTexts.{text_error_text}
use Rattle.front.specs.declared.refusals.ReportError.{ReportError}
use Rattle.front.specs.RefusalTexts.{report_error_text}
use Rattle.text_verdicts.specs.Checks.{IsUncertified, IsVerdictOn}
use Rattle.text_verdicts.specs.Reports.{IsReportFor}
use Rattle.text_verdicts.specs.Texts.{IsRefusedFor, OfTrace}
use Rattle.text_verdicts.specs.VerdictLines.{status_of_verdict, told_verdict}
use Rattle.command_faults.specs.declared.faults.MemberOutside.{MemberOutside}
use Rattle.command_faults.specs.Outside.{IsMemberOutside}
use Rattle.text_commands.specs.Answers.{IsAnswerTo}
use Rattle.text_commands.specs.Checks.{IsRefusalOfText}
use Rattle.c_report.specs.Rooms.{over}

-- The buffer holds these words, as far as they fit, and `size` is the length of all of them.
pub record IsToldOf (words old new : List ℕ) (size : ℕ) : Type 0 where
  pub sized : size ≡ length words
  pub written : new ≡ over words old

-- The buffer holds the whole report of the text.
pub record IsReported (correct : Correct) (text old new : List ℕ) (size : ℕ) : Type 0 where
  pub report : List ℕ
  pub exact : IsAnswerTo (IsReportFor correct) text report
  pub fits : length report ≤ length old
  pub told : IsToldOf report old new size

-- The report of the text has `size` bytes, more than there is room for.
pub record IsTooLong (correct : Correct) (text : List ℕ) (room size : ℕ) : Type 0 where
  pub report : List ℕ
  pub exact : IsAnswerTo (IsReportFor correct) text report
  pub sized : size ≡ length report
  pub more : room < size

-- a correct processor is above the number of processors of the text's trace
abbrev pub IsSetOutside : Correct → List ℕ → Type 0
IsSetOutside correct text =
    OfTrace (λ t. (o : MemberOutside) × IsMemberOutside (named correct t.config.n) t.config.n o) text

-- The text encodes no trace; the buffer holds its first refusal in words.
pub record IsTraceRefused (text old new : List ℕ) (size : ℕ) : Type 0 where
  pub reason : TextError
  pub first : IsRefusedFor text reason
  pub told : IsToldOf (text_error_text reason) old new size

-- The verdict on the certificate has this number, and the buffer holds its whole line.
pub record IsJudged (correct : Correct) (text certificate old new : List ℕ) (size answer : ℕ) : Type 0 where
  pub verdict : Verdict
  pub exact : OfTrace (IsVerdictOn correct None certificate verdict) text
  pub status : answer ≡ status_of_verdict verdict
  pub fits : length (told_verdict verdict) ≤ length old
  pub told : IsToldOf (told_verdict verdict) old new size

-- The line of the verdict has `size` bytes, more than there is room for.
pub record IsLineTooLong (correct : Correct) (text certificate : List ℕ) (room size : ℕ) : Type 0 where
  pub verdict : Verdict
  pub exact : OfTrace (IsVerdictOn correct None certificate verdict) text
  pub sized : size ≡ length (told_verdict verdict)
  pub more : room < size

-- The certificate encodes no rows; the buffer holds its first refusal in words.
pub record IsCertificateRefused (correct : Correct) (text certificate old new : List ℕ) (size : ℕ) : Type 0 where
  pub reason : ReportError
  pub first : OfTrace (IsUncertified correct None certificate reason) text
  pub refusal : IsRefusalOfText reason
  pub told : IsToldOf (report_error_text reason) old new size
