-- Runs in threads: what is printed of one, and why nothing is.
use Rattle.std.specs.Prelude.{ℕ, ◌≡◌, ◌≤◌, ◌⊎◌, List, length, take, All, Option, Some, None, is_some, IsTrue, ⊤}
use Rattle.std.specs.Io.KnownBytes.{Appends}
use Rattle.step_trace.specs.declared.steps.Step.{Step}
use Rattle.step_trace.specs.Configurations.{Setup, IsProc}
use Rattle.step_trace.specs.Traces.{Recorded}
use Rattle.step_trace.specs.OwnSteps.{own_steps}
use Rattle.trace_text.specs.TraceTexts.{trace_text}
use Rattle.round_model.specs.RoundStates.{processors}
use Rattle.step_buffers.specs.declared.moves.StepError.TheVariants as step_error
use Rattle.step_buffers.specs.Runs.{node_at}
use Rattle.command_options.specs.declared.RunEnd.{RunEnd}
use Rattle.command_options.specs.declared.RunEnd.TheVariants as end
use Rattle.locked_recorder.specs.declared.errors.DriveStop.{DriveStop}
use Rattle.locked_recorder.specs.declared.errors.DriveStop.TheVariants as stop
use Rattle.locked_recorder.specs.declared.errors.RecordError.TheVariants as record_error
use Rattle.locked_recorder.specs.Prefixes.{IsRunOf}
use Rattle.locked_recorder.specs.Seats.{Turns}
use Rattle.command_faults.specs.declared.faults.Fault.{Fault}
use Rattle.command_faults.specs.declared.faults.Fault.TheVariants as fault
use Rattle.node_runs.specs.DecisionLines.{told_decisions}
use Rattle.node_runs.specs.declared.runs.Ending.{Ending}
use Rattle.node_runs.specs.declared.runs.Ending.TheVariants as ending

-- each processor has so many steps, or at most so many
abbrev pub HaveMade : Setup → ℕ → List Step → Type 0
HaveMade c n steps = All (λ p. length (own_steps steps p) ≡ n) (processors c)

abbrev pub HaveMadeAtMost : Setup → ℕ → List Step → Type 0
HaveMadeAtMost c n steps = All (λ p. length (own_steps steps p) ≤ n) (processors c)

-- each processor has decided
abbrev pub AllDecided : Setup → List Step → Type 0
AllDecided c steps = (p : ℕ) → IsProc c p → IsTrue (is_some (node_at c steps p).decision)

-- When a run has ended: when each processor has made so many steps. Or, if it ends with the decisions, when each made
-- at most so many, and all have decided or made them all.
abbrev pub HasEnded : RunEnd → Setup → ℕ → List Step → Type 0
HasEnded end.Steps c n steps = HaveMade c n steps
HasEnded end.Decided c n steps = HaveMadeAtMost c n steps × (AllDecided c steps ⊎ HaveMade c n steps)

-- A run of the configuration that has ended.
pub record IsEndedRun (end : RunEnd) (c : Setup) (n : ℕ) (trace : Recorded) : Type 0 where
  pub run : IsRunOf c trace
  pub ended : HasEnded end c n trace.steps

-- The text is that of such a run, and the notes say who decided in it.
pub record IsEndedRunText (end : RunEnd) (c : Setup) (n : ℕ) (Noted : List ℕ → Type 0) (text : List ℕ) : Type 0 where
  pub trace : Recorded
  pub over : IsEndedRun end c n trace
  pub written : text ≡ trace_text trace
  pub noted : Noted (told_decisions c trace.steps)

-- so many things were done from each seat, or at most so many
abbrev pub HaveDone : ℕ → List Turns → Type 0
HaveDone n seats = All (λ s. length s.done ≡ n) seats

abbrev pub HaveDoneAtMost : ℕ → List Turns → Type 0
HaveDoneAtMost n seats = All (λ s. length s.done ≤ n) seats

-- what was done from the seats is all of a run that has ended
abbrev pub HaveEnded : RunEnd → Setup → ℕ → List Step → List Turns → Type 0
HaveEnded end.Steps c n steps seats = HaveDone n seats
HaveEnded end.Decided c n steps seats = HaveDoneAtMost n seats × (AllDecided c steps ⊎ HaveDone n seats)

-- how a thread ended whose drive stopped for this reason
abbrev pub ending_of : DriveStop → Ending
ending_of stop.Held = ending.Held
ending_of (stop.Record (record_error.Step step_error.Memory)) = ending.NoMemory
ending_of (stop.Record _) = ending.Refused

-- how grave an ending is: each has a gravity of its own
abbrev pub gravity : Ending → ℕ
gravity ending.Made = 0
gravity ending.Refused = 1
gravity ending.NoMemory = 2
gravity ending.Held = 3

-- the fault that reports an ending, if any
abbrev pub fault_of_ending : Ending → Option Fault
fault_of_ending ending.Made = None
fault_of_ending ending.Refused = Some (fault.NotARun 0 None)
fault_of_ending ending.NoMemory = Some fault.Memory
fault_of_ending ending.Held = Some fault.Threads

-- the faults without a run: of threads, out of memory, and steps that make no run, which names no step
abbrev pub IsFaultOfThreads : Fault → Type 0
IsFaultOfThreads fault.Threads = ⊤
IsFaultOfThreads fault.Memory = ⊤
IsFaultOfThreads (fault.NotARun number due) = (number ≡ 0) × (due ≡ None)
IsFaultOfThreads _ = ⊥

-- these, or a run that isn't written whole
abbrev pub IsFaultOfNodes : Fault → Type 0
IsFaultOfNodes (fault.Write n) = ⊤
IsFaultOfNodes why = IsFaultOfThreads why

-- if the output failed, there is such a run, of whose text that many first bytes went out; nothing is noted
abbrev pub IsUnwrittenRun : (Recorded → Type 0) → Option (List ℕ) → Option (List ℕ) → Fault → Type 0
IsUnwrittenRun Run before after (fault.Write k) =
    (trace : Recorded) × Run trace × (k ≤ length (trace_text trace)) × Appends before after (take k (trace_text trace))
IsUnwrittenRun Run before after _ = ⊤
