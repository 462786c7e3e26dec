-- Why the program makes no report of a trace.
use Rattle.std.specs.Prelude.{◌≡◌, ⊤}
use Rattle.step_trace.specs.declared.correct_sets.Correct.{Correct}
use Rattle.step_trace.specs.Traces.{Recorded}
use Rattle.chunk_join.specs.declared.analyses.AnalyseError.{AnalyseError}
use Rattle.chunk_join.specs.declared.analyses.AnalyseError.TheVariants as unanalysed
use Rattle.text_verdicts.specs.Texts.{HasCorrect}
use Rattle.command_faults.specs.declared.faults.Fault.{Fault}
use Rattle.command_faults.specs.declared.faults.Fault.TheVariants as fault
use Rattle.text_commands.specs.Answers.{IsOutside}

-- the fault of an analysis that failed: of threads, if a worker was held back or couldn't be started; the number of
-- workers is never refused
abbrev pub TellsAnalysis : AnalyseError → Fault → Type 0
TellsAnalysis unanalysed.BadWorkers w = ⊥
TellsAnalysis unanalysed.Held w = w ≡ fault.Threads
TellsAnalysis unanalysed.Start w = w ≡ fault.Threads
TellsAnalysis unanalysed.Memory w = w ≡ fault.Memory

-- the fault is one of these
abbrev pub IsFaultOfWorkers : Fault → Type 0
IsFaultOfWorkers fault.Memory = ⊤
IsFaultOfWorkers fault.Threads = ⊤
IsFaultOfWorkers _ = ⊥

-- why there is no report of a trace: a correct processor that it hasn't, or else a thread
abbrev pub IsUnreported : Correct → Recorded → Fault → Type 0
IsUnreported correct t fault.Threads = HasCorrect correct t
IsUnreported correct t w = IsOutside correct t w
