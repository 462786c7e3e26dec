-- The faults that end the program.
use Rattle.std.specs.Prelude.{ℕ, Some}
use Rattle.trace_text.specs.declared.refusals.TextError.{TextError}
use Rattle.trace_text.specs.declared.refusals.TextError.TheVariants as why
use Rattle.trace_text.specs.declared.refusals.WriteError.{WriteError}
use Rattle.trace_text.specs.declared.refusals.WriteError.TheVariants as unwritten
use Rattle.step_buffers.specs.declared.replays.ReplayError.{ReplayError}
use Rattle.step_buffers.specs.declared.replays.ReplayError.TheVariants as unreplayed
use Rattle.front.specs.declared.refusals.ReportError.{ReportError}
use Rattle.front.specs.declared.refusals.ReportError.TheVariants as uncertified
use Rattle.decision_claims.specs.declared.formula_texts.FormulaError.{FormulaError}
use Rattle.decision_claims.specs.declared.formula_texts.FormulaError.TheVariants as no_formula
use Rattle.judged_runs.specs.declared.refusals.DecisionsError.{DecisionsError}
use Rattle.judged_runs.specs.declared.refusals.DecisionsError.TheVariants as undecided
use Rattle.judged_runs.specs.declared.refusals.RunListError.{RunListError}
use Rattle.judged_runs.specs.declared.refusals.RunListError.TheVariants as unlisted
use Rattle.step_tables.specs.declared.refusals.TableError.{TableError}
use Rattle.step_tables.specs.declared.refusals.TableError.TheVariants as untabled
use Rattle.event_log.specs.declared.options.OptionError.{OptionError}
use Rattle.event_log.specs.declared.options.OptionError.TheVariants as no_options
use Rattle.event_log.specs.declared.refusals.LogError.{LogError}
use Rattle.event_log.specs.declared.refusals.LogError.TheVariants as no_log
use Rattle.command_faults.specs.declared.faults.Fault.{Fault}
use Rattle.command_faults.specs.declared.faults.Fault.TheVariants as fault
use Rattle.command_faults.specs.declared.faults.ImportOption.TheVariants as option
use Rattle.command_faults.specs.declared.faults.ReportOption.{ReportOption}
use Rattle.command_faults.specs.declared.faults.ReportOption.TheVariants as report_option

-- the exit status of a refused log: that of the command line if an option doesn't fit the times
abbrev pub status_of_log : LogError → ℕ
status_of_log no_log.TickUnfit = 2
status_of_log no_log.UntilUnfit = 2
status_of_log no_log.IdleUnfit = 2
status_of_log no_log.FromUnfit = 2
status_of_log e = 3

-- the exit status of a tick that the trace hasn't: for a start that of a refused trace, else that of the
-- command line
abbrev pub status_of_tick : ReportOption → ℕ
status_of_tick report_option.Until = 2
status_of_tick report_option.At = 2
status_of_tick report_option.Start = 3

-- the exit status of each fault
abbrev pub status_of : Fault → ℕ
status_of (fault.Command text) = 2
status_of (fault.Set option o) = 2
status_of (fault.Trace e) = 3
status_of fault.Swapped = 3
status_of (fault.Certificate e) = 4
status_of (fault.Decisions e) = 4
status_of (fault.Runs e) = 4
status_of (fault.Table e) = 3
status_of (fault.Listed field) = 4
status_of (fault.Within why) = 2
status_of fault.Memory = 5
status_of fault.Read = 6
status_of (fault.Unread file trouble) = 6
status_of (fault.Write written) = 6
status_of (fault.Unwritten trouble) = 6
status_of (fault.NotARun number due) = 7
status_of fault.Threads = 8
status_of (fault.Picture option) = 2
status_of (fault.Report option o) = status_of_tick option
status_of (fault.Log e) = status_of_log e
status_of (fault.Import option) = 2
status_of (fault.Length option given) = 2

-- the fault that a refusal of a text is: out of memory and a failed read are faults of their own
abbrev pub fault_of_text : TextError → Fault
fault_of_text why.Read = fault.Read
fault_of_text why.Memory = fault.Memory
fault_of_text e = fault.Trace e

-- the fault that a refusal of a certificate is, likewise
abbrev pub fault_of_certificate : ReportError → Fault
fault_of_certificate uncertified.Read = fault.Read
fault_of_certificate uncertified.Memory = fault.Memory
fault_of_certificate e = fault.Certificate e

-- the fault that a refusal of decisions is, likewise
abbrev pub fault_of_decisions : DecisionsError → Fault
fault_of_decisions undecided.Memory = fault.Memory
fault_of_decisions e = fault.Decisions e

-- the fault that a refusal of a list of runs is, likewise
abbrev pub fault_of_run_list : RunListError → Fault
fault_of_run_list unlisted.Memory = fault.Memory
fault_of_run_list e = fault.Runs e

-- the fault that a refusal of a table is, likewise
abbrev pub fault_of_table : TableError → Fault
fault_of_table untabled.Memory = fault.Memory
fault_of_table e = fault.Table e

-- the fault that a text which is no formula is
abbrev pub fault_of_formula : FormulaError → Fault
fault_of_formula (no_formula.Refused why) = fault.Within why
fault_of_formula no_formula.Memory = fault.Memory

-- the fault that a trace which wasn't replayed is
abbrev pub fault_of_replay : ReplayError → Fault
fault_of_replay (unreplayed.NotARun number due) = fault.NotARun number (Some due)
fault_of_replay unreplayed.Memory = fault.Memory

-- the fault that a refusal of a log is, likewise
abbrev pub fault_of_log : LogError → Fault
fault_of_log no_log.Memory = fault.Memory
fault_of_log e = fault.Log e

-- the fault for options of a log that are refused
abbrev pub fault_of_options : OptionError → Fault
fault_of_options no_options.Nodes = fault.Import option.Nodes
fault_of_options no_options.Unit = fault.Import option.Unit
fault_of_options no_options.Tick = fault.Import option.Tick
fault_of_options no_options.Until = fault.Import option.Until
fault_of_options no_options.Idle = fault.Import option.Idle
fault_of_options no_options.Memory = fault.Memory

-- the fault that a text which wasn't written whole is
abbrev pub fault_of_write : WriteError → Fault
fault_of_write (unwritten.Write written) = fault.Write written
fault_of_write unwritten.Memory = fault.Memory
