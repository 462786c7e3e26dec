-- What the words of a command line are answered, and what the room holds then.
use Rattle.std.specs.Prelude.{ℕ, ◌≡◌, ◌≢◌, ◌<◌, ◌≤◌, ◌⊎◌, ◌==◌, List, ◌∷◌, length, Option, String}
use Rattle.std.specs.Prelude.{option_map, IsUtf8, codes, string_bytes, ⊤, true, false, is_some}
use Rattle.std.specs.List.{slice_split}
use Rattle.certificate_checker.specs.declared.verdicts.Verdict.{Verdict}
use Rattle.command_options.specs.declared.ImportForm.{ImportForm}
use Rattle.command_options.specs.declared.ImportOptions.{ImportOptions}
use Rattle.event_log.specs.declared.options.Options.{Options}
use Rattle.event_log.specs.Options.{AreOptions}
use Rattle.judged_runs.specs.declared.judgements.Verdict.{Verdict as Judgement}
use Rattle.judged_runs.specs.VerdictLines.{status_of_verdict as status_of_judgement}
use Rattle.text_verdicts.specs.Checks.{IsVerdictOn}
use Rattle.text_verdicts.specs.Texts.{OfTrace}
use Rattle.text_verdicts.specs.VerdictLines.{status_of_verdict, told_verdict}
use Rattle.command_faults.specs.declared.faults.Fault.{Fault}
use Rattle.command_faults.specs.declared.faults.Fault.TheVariants as fault
use Rattle.command_faults.specs.Faults.{status_of}
use Rattle.command_faults.specs.FaultLines.{ended_line, fault_line}
use Rattle.text_commands.specs.Answers.{IsAnswerTo, IsUnanswered}
use Rattle.text_commands.specs.Briefs.{IsBriefOf, IsNoBrief}
use Rattle.text_commands.specs.Checks.{IsUnchecked}
use Rattle.text_commands.specs.Drawings.{IsDrawingBy, IsUndrawnBy}
use Rattle.text_commands.specs.EachBounds.{IsEachOf, IsNoEach}
use Rattle.text_commands.specs.Imports.{IsImportOptionFault, IsImportTold, IsUnimported, options_in}
use Rattle.text_commands.specs.Judgings.{IsJudgementOn, IsUnjudged}
use Rattle.text_commands.specs.Pages.{IsNoPageBy, IsPageBy}
use Rattle.text_commands.specs.Replays.{IsOffRun, IsReplayOf}
use Rattle.text_commands.specs.ReportParts.{IsPartOfReport, IsUntoldPart}
use Rattle.text_commands.specs.TimeoutTables.{AreTimeoutsOf, IsNoTable}
use Rattle.text_commands.specs.Upgrades.{IsNothingElse, IsUpgradeOf}
use Rattle.command_line.specs.declared.jobs.Job.{Job}
use Rattle.command_line.specs.declared.jobs.Job.TheVariants as job
use Rattle.command_line.specs.declared.line_errors.LineError.{LineError}
use Rattle.command_line.specs.declared.line_errors.LineError.TheVariants as unread
use Rattle.command_line.specs.Jobs.{IsJobOf, IsRefusalOf}
use Rattle.c_report.specs.declared.answers.TheConstants.{NO_MEMORY}
use Rattle.c_report.specs.Answers.{IsToldOf}

-- the words of a line: the program's name, and then the lines of the text
abbrev pub words_in : List ℕ → List (List ℕ)
words_in lines = codes "synchrony" ∷ slice_split (λ b. b == 10) lines

-- the fault of a line that gives no job
abbrev pub fault_of_line : LineError → Fault
fault_of_line (unread.Refused words) = fault.Command words
fault_of_line unread.Memory = fault.Memory

-- a refusal in these words, or out of memory for them
abbrev pub IsSaid : List ℕ → Fault → Type 0
IsSaid words (fault.Command told) = string_bytes told ≡ words
IsSaid words fault.Memory = ⊤
IsSaid words _ = ⊥

-- why the lines give no job: they are no text, or the words in them are refused; or out of memory
abbrev pub IsRefusedLine : List ℕ → Fault → Type 0
IsRefusedLine lines (fault.Command told) = (¬ IsUtf8 lines) ⊎ IsRefusalOf (words_in lines) (unread.Refused told)
IsRefusedLine lines fault.Memory = ⊤
IsRefusedLine lines _ = ⊥

-- the name of the file whose text is lent
abbrev pub lent : List ℕ
lent = codes "-"

-- what is printed about a file of another name, and about a run
abbrev pub other_file_words : List ℕ
other_file_words = codes "synchrony: the library reads the file - alone"

abbrev pub run_words : List ℕ
run_words = codes "synchrony: run starts threads, which the library does not"

-- and of one that would simulate a run
abbrev pub simulation_words : List ℕ
simulation_words = codes "synchrony: the library simulates no runs"

-- and of a command line that judges the runs of a list
abbrev pub runs_words : List ℕ
runs_words = codes "synchrony: the library judges one run at a time"

-- and of an import of a window
abbrev pub window_words : List ℕ
window_words = codes "synchrony: the library imports whole logs, and takes no --from"

-- The command reads the file that is lent; what is printed is right.
pub record IsPrintedOf (file : List ℕ) (Gives : List ℕ → Type 0) (status : ℕ) (out : List ℕ) : Type 0 where
  pub reads : file ≡ lent
  pub well : status ≡ 0
  pub exact : Gives out

-- the command reads a file of another name; or else it has this fault
abbrev pub IsUnprintedOf : List ℕ → (Fault → Type 0) → Fault → Type 0
IsUnprintedOf file Refuses w = ((file ≢ lent) × IsSaid other_file_words w) ⊎ ((file ≡ lent) × Refuses w)

-- The command reads the file that is lent; the line of the verdict is printed, and the status is that of the verdict.
pub record IsLineOf (file : List ℕ) (Judges : Verdict → Type 0) (status : ℕ) (out : List ℕ) : Type 0 where
  pub reads : file ≡ lent
  pub verdict : Verdict
  pub exact : Judges verdict
  pub status_is : status ≡ status_of_verdict verdict
  pub written : out ≡ told_verdict verdict

-- The command reads the file that is lent; a judgement of decisions is printed, and the status is that of its verdict.
pub record IsJudgementPrinted (file : List ℕ) (Judges : Judgement → List ℕ → Type 0) (status : ℕ)
    (out : List ℕ) : Type 0 where
  pub reads : file ≡ lent
  pub verdict : Judgement
  pub text : List ℕ
  pub exact : Judges verdict text
  pub status_is : status ≡ status_of_judgement verdict
  pub written : out ≡ text

-- the log is read by these options, and the text is what is printed of it, without notes
abbrev pub IsTextOfLog : ImportForm → Options → List ℕ → List ℕ → Type 0
IsTextOfLog form o log out = IsImportTold form o (λ notes. ⊤) log out

-- the same, by the options that are given, of a whole log
abbrev pub IsImportFor : ImportOptions → List ℕ → List ℕ → Type 0
IsImportFor given log out = (is_some given.from ≡ false)
    × ((o : Options) × AreOptions (options_in given) o × IsTextOfLog given.form o log out)

-- why there is none of a whole log: the options; or else the log
abbrev pub IsUnimportedWhole : ImportOptions → List ℕ → Fault → Type 0
IsUnimportedWhole given log w = IsImportOptionFault (options_in given) w
    ⊎ ((o : Options) × AreOptions (options_in given) o × IsUnimported given.form o log w)

-- why there is none: a window is asked for; or why there is none of the whole log
abbrev pub IsUnimportedFor : ImportOptions → List ℕ → Fault → Type 0
IsUnimportedFor given log w = ((is_some given.from ≡ true) × IsSaid window_words w)
    ⊎ ((is_some given.from ≡ false) × IsUnimportedWhole given log w)

-- the second text, if a file is named for it
abbrev pub second_if : {B : Type 0} → Option (String B) → List ℕ → Option (List ℕ)
second_if file second = option_map (λ _. second) file

-- what is printed for a job, of the text that is lent and, in a check, of the second one, and with which status
abbrev pub IsPrintedFor : Job → List ℕ → List ℕ → ℕ → List ℕ → Type 0
IsPrintedFor (job.Report j) text second = IsPrintedOf (string_bytes j.file) (IsAnswerTo (IsPartOfReport j.part) text)
IsPrintedFor (job.Brief j) text second = IsPrintedOf (string_bytes j.file) (IsAnswerTo (IsBriefOf j.brief) text)
IsPrintedFor (job.Each j) text second = IsPrintedOf (string_bytes j.file) (IsAnswerTo (IsEachOf j.each) text)
IsPrintedFor (job.Timeouts j) text second = IsPrintedOf (string_bytes j.file) (IsAnswerTo (AreTimeoutsOf j.table) text)
IsPrintedFor (job.Replay j) text second = IsPrintedOf (string_bytes j.file) (IsAnswerTo IsReplayOf text)
IsPrintedFor (job.Upgrade j) text second = IsPrintedOf (string_bytes j.file) (IsAnswerTo IsUpgradeOf text)
IsPrintedFor (job.Draw j) text second = IsPrintedOf (string_bytes j.file)
    (IsAnswerTo (IsDrawingBy j.drawing (second_if j.table second)) text)
IsPrintedFor (job.Page j) text second = IsPrintedOf (string_bytes j.file)
    (IsAnswerTo (IsPageBy j.page (second_if j.table second)) text)
IsPrintedFor (job.Import j) text second = IsPrintedOf (string_bytes j.file) (IsImportFor j.options text)
IsPrintedFor (job.Check j) text second =
    IsLineOf (string_bytes j.file) (λ verdict. OfTrace (IsVerdictOn j.claim.correct j.claim.until second verdict) text)
IsPrintedFor (job.Judge j) text second =
    IsJudgementPrinted (string_bytes j.file) (λ verdict out. OfTrace (IsJudgementOn j.judging second verdict out) text)
IsPrintedFor (job.Help help) text second = λ status out. (status ≡ 0) × (out ≡ string_bytes help)
IsPrintedFor (job.Run j) text second = λ status out. ⊥
IsPrintedFor (job.Simulate j) text second = λ status out. ⊥
IsPrintedFor (job.JudgeRuns j) text second = λ status out. ⊥

-- why nothing is printed for a job
abbrev pub IsUnprintedFor : Job → List ℕ → List ℕ → Fault → Type 0
IsUnprintedFor (job.Report j) text second =
    IsUnprintedOf (string_bytes j.file) (IsUnanswered (IsUntoldPart j.part) text)
IsUnprintedFor (job.Brief j) text second = IsUnprintedOf (string_bytes j.file) (IsUnanswered (IsNoBrief j.brief) text)
IsUnprintedFor (job.Each j) text second = IsUnprintedOf (string_bytes j.file) (IsUnanswered (IsNoEach j.each) text)
IsUnprintedFor (job.Timeouts j) text second =
    IsUnprintedOf (string_bytes j.file) (IsUnanswered (IsNoTable j.table) text)
IsUnprintedFor (job.Replay j) text second = IsUnprintedOf (string_bytes j.file) (IsUnanswered IsOffRun text)
IsUnprintedFor (job.Upgrade j) text second = IsUnprintedOf (string_bytes j.file) (IsUnanswered IsNothingElse text)
IsUnprintedFor (job.Draw j) text second =
    IsUnprintedOf (string_bytes j.file) (IsUnanswered (IsUndrawnBy j.drawing (second_if j.table second)) text)
IsUnprintedFor (job.Page j) text second =
    IsUnprintedOf (string_bytes j.file) (IsUnanswered (IsNoPageBy j.page (second_if j.table second)) text)
IsUnprintedFor (job.Import j) text second = IsUnprintedOf (string_bytes j.file) (IsUnimportedFor j.options text)
IsUnprintedFor (job.Check j) text second =
    IsUnprintedOf (string_bytes j.file) (IsUnanswered (IsUnchecked j.claim second) text)
IsUnprintedFor (job.Judge j) text second =
    IsUnprintedOf (string_bytes j.file) (IsUnanswered (IsUnjudged j.judging second) text)
IsUnprintedFor (job.Help help) text second = λ w. ⊥
IsUnprintedFor (job.Run j) text second = IsSaid run_words
IsUnprintedFor (job.Simulate j) text second = IsSaid simulation_words
IsUnprintedFor (job.JudgeRuns j) text second = IsSaid runs_words

-- The lines ask for a job, for which this is printed.
pub record HasPrinted (lines text second : List ℕ) (status : ℕ) (out : List ℕ) : Type 0 where
  pub job : Job
  pub asked : IsJobOf (words_in lines) job
  pub printed : IsPrintedFor job text second status out

-- The lines ask for a job, for which nothing is printed, for this fault.
pub record IsUnprinted (lines text second : List ℕ) (w : Fault) : Type 0 where
  pub job : Job
  pub asked : IsJobOf (words_in lines) job
  pub cause : IsUnprintedFor job text second w

-- The line of a fault is printed, with its status.
pub record IsTold (fault : Fault) (status : ℕ) (out : List ℕ) : Type 0 where
  pub status_is : status ≡ status_of fault
  pub line : out ≡ ended_line (fault_line fault)

-- The lines give no job, or nothing is printed for theirs: this fault is reported.
pub record HasTold (lines text second : List ℕ) (status : ℕ) (out : List ℕ) : Type 0 where
  pub fault : Fault
  pub cause : IsRefusedLine lines fault ⊎ IsUnprinted lines text second fault
  pub told : IsTold fault status out

-- what the lines are answered, and with which status; out of memory is no answer
pub record IsAnswerFor (lines text second : List ℕ) (status : ℕ) (out : List ℕ) : Type 0 where
  pub there : status ≢ NO_MEMORY
  pub exact : HasPrinted lines text second status out ⊎ HasTold lines text second status out

-- The answer has this number, and the buffer holds all of it.
pub record IsAnswered (lines text second old new : List ℕ) (size status : ℕ) : Type 0 where
  pub out : List ℕ
  pub exact : IsAnswerFor lines text second status out
  pub fits : length out ≤ length old
  pub told : IsToldOf out old new size

-- The answer has `size` bytes, more than there is room for.
pub record IsAnswerTooLong (lines text second : List ℕ) (room size : ℕ) : Type 0 where
  pub status : ℕ
  pub out : List ℕ
  pub exact : IsAnswerFor lines text second status out
  pub sized : size ≡ length out
  pub more : room < size
