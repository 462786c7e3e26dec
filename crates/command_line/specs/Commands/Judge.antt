-- The command `judge`: what it takes, and the job that its words give.
use Rattle.std.specs.Prelude.{ℕ, ◌≡◌, ◌⊎◌, Bool, true, false, ◌||◌, is_some, List, [], ◌∷◌}
use Rattle.std.specs.Prelude.{◌++◌, Option, Some, None, codes, option_map, string_bytes}
use Rattle.clap.specs.Words.{App, Row, first_of}
use Rattle.step_trace.specs.declared.correct_sets.Correct.{Correct}
use Rattle.step_trace.specs.declared.correct_sets.Correct.TheVariants as correct
use Rattle.step_trace.specs.CorrectSets.{IsCorrectIn}
use Rattle.command_options.specs.declared.Judging.{Judging}
use Rattle.command_line.specs.declared.jobs.judge.JudgeAsked.{JudgeAsked}
use Rattle.command_line.specs.declared.jobs.Job.{Job}
use Rattle.command_line.specs.declared.jobs.Job.TheVariants as job
use Rattle.command_line.specs.declared.line_errors.LineError.{LineError}
use Rattle.command_line.specs.declared.line_errors.LineError.TheVariants as unread
use Rattle.command_line.specs.Answers.{Given, ◌>>=◌, answers}
use Rattle.command_line.specs.Arguments.{IsListFault, IsMemory, command_app, file_rule, flag_in, flag_rule, option_rule}
use Rattle.command_line.specs.Arguments.{optional_positional_rule, optional_rule, tick_in, tick_rule}
use Rattle.command_line.specs.Commands.Check.{AreBothStandardInput}

-- judge FILE DECISIONS --correct LIST --within FORMULA --start TICK --valid --whole --due K --factor --rows, or
-- --replay in place of DECISIONS; or judge FILE --runs, without DECISIONS, --factor and --rows
abbrev pub judge_app : App
judge_app = command_app (codes "judge") (file_rule ∷ optional_positional_rule (codes "decisions")
    ∷ optional_rule (codes "correct") ∷ option_rule (codes "within")
    ∷ tick_rule (codes "start") ∷ flag_rule (codes "valid") ∷ flag_rule (codes "whole") ∷ tick_rule (codes "due")
    ∷ flag_rule (codes "factor") ∷ flag_rule (codes "rows") ∷ flag_rule (codes "replay")
    ∷ flag_rule (codes "runs") ∷ [])

-- the decisions are in the file of this name, and not both files are standard input; or there is none, with --replay
abbrev pub AreDecisionsIn : List ℕ → Option (List ℕ) → Bool → Option (List ℕ) → Type 0
AreDecisionsIn name None true given = given ≡ None
AreDecisionsIn name (Some decided) false given = (given ≡ Some decided) × (¬ AreBothStandardInput name decided)
AreDecisionsIn name decided replay given = ⊥

-- decisions both of a file and of the replay, or of neither, are refused in these words
abbrev pub IsEitherRefusal : LineError → Type 0
IsEitherRefusal (unread.Refused text) = string_bytes text ≡ codes "synchrony: judge takes either DECISIONS or --replay"
IsEitherRefusal _ = ⊥

-- both files are standard input, which is refused in these words
abbrev pub IsOneInputRefusal : List ℕ → List ℕ → LineError → Type 0
IsOneInputRefusal name decided (unread.Refused text) = AreBothStandardInput name decided
    × (string_bytes text ≡ codes "synchrony: only one file can be -")
IsOneInputRefusal name decided _ = ⊥

-- why there are no decisions; or out of memory
abbrev pub IsDecisionsFault : List ℕ → Option (List ℕ) → Bool → LineError → Type 0
IsDecisionsFault name decided replay unread.Memory = Unit {0}
IsDecisionsFault name None false e = IsEitherRefusal e
IsDecisionsFault name (Some decided) true e = IsEitherRefusal e
IsDecisionsFault name (Some decided) false e = IsOneInputRefusal name decided e
IsDecisionsFault name None true e = ⊥

-- what decisions are judged for: within a formula, by what is asked
pub record IsJudging (correct : Correct) (within : List ℕ) (asked : JudgeAsked) (j : Judging) : Type 0 where
  pub correct_is : j.correct ≡ correct
  pub within_is : string_bytes j.within ≡ within
  pub start_is : j.start ≡ asked.start
  pub valid_is : j.valid ≡ asked.valid
  pub whole_is : j.whole ≡ asked.whole
  pub due_is : j.due ≡ asked.due
  pub factor_is : j.factor ≡ asked.factor
  pub rows_are : j.rows ≡ asked.rows
  pub replay_is : j.replay ≡ asked.replay

-- the judgement of the decisions of the second file, or of the replay, for the processors of this list
abbrev pub IsJudge : List ℕ → Option (List ℕ) → List ℕ → List ℕ → JudgeAsked → Job → Type 0
IsJudge name decided list within asked (job.Judge j) = (string_bytes j.file ≡ name)
    × AreDecisionsIn name decided asked.replay (option_map string_bytes j.decisions)
    × ((correct : Correct) × IsCorrectIn list correct × IsJudging correct within asked j.judging)
IsJudge name decided list within asked _ = ⊥

-- of one run there must be such a list
abbrev pub IsOneOf : List ℕ → Option (List ℕ) → Option (List ℕ) → List ℕ → JudgeAsked → Job → Type 0
IsOneOf name decided None within asked j = ⊥
IsOneOf name decided (Some list) within asked j = IsJudge name decided list within asked j

-- the refusal of a text that is no list, or else of the decisions; or out of memory
abbrev pub IsJudgeFault : List ℕ → Option (List ℕ) → List ℕ → Bool → LineError → Type 0
IsJudgeFault name decided list replay e = IsListFault list e
    ⊎ (((correct : Correct) × IsCorrectIn list correct) × IsDecisionsFault name decided replay e)

-- a run with no list of its correct processors is refused in these words; or out of memory
abbrev pub IsNoListRefusal : LineError → Type 0
IsNoListRefusal (unread.Refused text) =
    string_bytes text ≡ codes "synchrony: judge takes either --correct LIST or --runs"
    ++ (10 ∷ codes "synchrony: FILE is a trace, for which LIST says who was correct, or with --runs a list of runs")
IsNoListRefusal _ = ⊥

abbrev pub IsNoListFault : LineError → Type 0
IsNoListFault unread.Memory = Unit {0}
IsNoListFault e = IsNoListRefusal e

-- why one run isn't judged
abbrev pub IsOneFault : List ℕ → Option (List ℕ) → Option (List ℕ) → Bool → LineError → Type 0
IsOneFault name decided None replay e = IsNoListFault e
IsOneFault name decided (Some list) replay e = IsJudgeFault name decided list replay e

-- the correct processors of a run for which the list of runs names none: all, if no list of processors is given
abbrev pub IsSetOfRuns : Option (List ℕ) → Correct → Type 0
IsSetOfRuns None found = found ≡ correct.All
IsSetOfRuns (Some list) found = IsCorrectIn list found

-- the judgement of the runs that the file of this name lists
abbrev pub IsRuns : List ℕ → Option (List ℕ) → List ℕ → JudgeAsked → Job → Type 0
IsRuns name list within asked (job.JudgeRuns j) = (string_bytes j.list ≡ name)
    × ((correct : Correct) × IsSetOfRuns list correct × IsJudging correct within asked j.judging)
IsRuns name list within asked _ = ⊥

-- whether something is asked for that goes with one run alone
abbrev pub is_for_one : Option (List ℕ) → JudgeAsked → Bool
is_for_one decided asked = is_some decided || (asked.factor || (asked.rows || asked.replay))

-- which is refused in these words; or out of memory
abbrev pub IsForOneRefusal : LineError → Type 0
IsForOneRefusal (unread.Refused text) =
    string_bytes text ≡ codes "synchrony: judge --runs takes no DECISIONS, --factor, --rows or --replay"
IsForOneRefusal _ = ⊥

abbrev pub IsForOneFault : LineError → Type 0
IsForOneFault unread.Memory = Unit {0}
IsForOneFault e = IsForOneRefusal e

-- the judgement of runs for which nothing of that is asked
abbrev pub IsRunsOf : List ℕ → Option (List ℕ) → Option (List ℕ) → List ℕ → JudgeAsked → Job → Type 0
IsRunsOf name decided list within asked j = (is_for_one decided asked ≡ false) × IsRuns name list within asked j

-- the refusal of a text that is no list of processors; or out of memory
abbrev pub IsRunsFault : Option (List ℕ) → LineError → Type 0
IsRunsFault None e = IsMemory e
IsRunsFault (Some list) e = IsListFault list e

-- why the runs of a list aren't judged: an argument is for one run alone, or else their set is none; or out of memory
abbrev pub IsRunsFaultOf : Bool → Option (List ℕ) → LineError → Type 0
IsRunsFaultOf true list e = IsForOneFault e
IsRunsFaultOf false list e = IsRunsFault list e

-- what files of these names give, for this list, within a formula, by what is asked: the judgement of the runs of a
-- list, or that of one run
abbrev pub judge_gives : Bool → List ℕ → Option (List ℕ) → Option (List ℕ) → List ℕ → JudgeAsked → Given → Type 0
judge_gives true name decided list within asked =
    answers (IsRunsOf name decided list within asked) (IsRunsFaultOf (is_for_one decided asked) list)
judge_gives false name decided list within asked =
    answers (IsOneOf name decided list within asked) (IsOneFault name decided list asked.replay)

-- what the rows below `judge` give
abbrev pub judge_given : List Row → Given → Type 0
judge_given rows = do
  file ← first_of (codes "file") rows
  within ← first_of (codes "within") rows
  start ← tick_in rows (codes "start")
  valid ← flag_in rows (codes "valid")
  whole ← flag_in rows (codes "whole")
  due ← tick_in rows (codes "due")
  factor ← flag_in rows (codes "factor")
  table ← flag_in rows (codes "rows")
  replay ← flag_in rows (codes "replay")
  runs ← flag_in rows (codes "runs")
  judge_gives runs file (first_of (codes "decisions") rows) (first_of (codes "correct") rows) within (record {
    start = start;
    valid = valid;
    whole = whole;
    due = due;
    factor = factor;
    rows = table;
    replay = replay;
  })
