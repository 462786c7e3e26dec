-- What the table of a trace's steps, which a command takes beside the trace, is to be.
use Rattle.std.specs.Prelude.{ℕ, ◌≡◌, ◌≢◌, List, Option, Some, None, Result, Ok, Err, ⊤}
use Rattle.step_trace.specs.Traces.{Recorded}
use Rattle.step_tables.specs.declared.refusals.TableError.{TableError}
use Rattle.step_tables.specs.declared.refusals.TableError.TheVariants as untabled
use Rattle.step_tables.specs.Tables.{told_of_text}
use Rattle.step_tables.specs.Told.{Told}
use Rattle.command_faults.specs.declared.faults.Fault.{Fault}
use Rattle.command_faults.specs.declared.faults.Fault.TheVariants as fault

-- what the text of a table, if there is one, says about the trace; nothing if it is refused
abbrev pub told_if : Result Told TableError → Option Told
told_if (Ok told) = Some told
told_if (Err why) = None

abbrev pub told_by : Option (List ℕ) → Recorded → Option Told
told_by None t = None
told_by (Some text) t = told_if (told_of_text t text)

-- the text of a table, if there is one, is the table of the trace
abbrev pub HasTable : Option (List ℕ) → Recorded → Type 0
HasTable None t = ⊤
HasTable (Some text) t = (told : Told) × (told_of_text t text ≡ Ok told)

-- why it is none: its first refusal, or out of memory
abbrev pub IsTableFault : Option (List ℕ) → Recorded → Fault → Type 0
IsTableFault (Some text) t (fault.Table why) = (told_of_text t text ≡ Err why) × (why ≢ untabled.Memory)
IsTableFault (Some text) t fault.Memory = ⊤
IsTableFault text t _ = ⊥
