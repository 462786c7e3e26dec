-- Simulated runs: what is printed of one.
use Rattle.std.specs.Prelude.{ℕ, ◌≡◌, ◌+◌, List, [], ◌∷◌, ◌++◌, IfSome, length, codes, decimal, nat_lt}
use Rattle.std.specs.Prelude.{Option, Some, None, if◌then◌else◌, ⊤}
use Rattle.step_trace.specs.Bounds.{DeltaHolds, PhiHolds}
use Rattle.step_trace.specs.Traces.{Recorded}
use Rattle.trace_text.specs.TraceTexts.{trace_text}
use Rattle.step_buffers.specs.Runs.{IsRun}
use Rattle.command_options.specs.declared.simulations.SimulationOptions.{SimulationOptions}
use Rattle.command_options.specs.declared.simulations.StatedBounds.{StatedBounds}
use Rattle.simulated_runs.specs.Crashes.{StepBeforeCrashes}
use Rattle.simulated_runs.specs.KeptBounds.{AreLive}
use Rattle.command_faults.specs.declared.faults.Fault.{Fault}
use Rattle.command_faults.specs.declared.faults.Fault.TheVariants as fault
use Rattle.node_runs.specs.DecisionLines.{told_decisions}

-- A run of the configuration with so many steps, in which no processor steps after it crashed. If bounds are stated,
-- they hold from the tick after the stabilization time on: the processor bound for each set of live processors, the
-- communication bound for each set.
pub record IsSimulated (o : SimulationOptions) (trace : Recorded) : Type 0 where
  pub config : trace.config ≡ o.config
  pub run : IsRun trace.config trace.steps
  pub count : length trace.steps ≡ o.steps
  pub crashed : StepBeforeCrashes o.crashes.items trace.steps
  pub phi : IfSome o.bounds (λ b. (set : ℕ) → AreLive set o.config o.crashes.items
      → PhiHolds set trace (b.gst + 1) b.phi)
  pub delta : IfSome o.bounds (λ b. (set : ℕ) → DeltaHolds set trace (b.gst + 1) b.delta)

-- the line of a run that ends in the one tick, whose bounds hold from the other one on
abbrev pub early_line : ℕ → ℕ → List ℕ
early_line last first = codes "synchrony: the run ends in tick "
    ++ (decimal last ++ (codes ", and the bounds hold from tick " ++ (decimal first ++ (codes " on" ++ 10 ∷ []))))

-- the line of a run of so many steps, one in each tick, that ends before its bounds hold, if bounds are stated
abbrev pub early_in : ℕ → Option StatedBounds → List ℕ
early_in steps None = []
early_in steps (Some b) = if nat_lt b.gst steps then [] else early_line steps (b.gst + 1)

abbrev pub early_note : SimulationOptions → List ℕ
early_note o = early_in o.steps o.bounds

-- The text is that of such a run, and the notes say who decided in it, and whether it ends before its bounds hold.
pub record IsSimulationText (o : SimulationOptions) (Noted : List ℕ → Type 0) (text : List ℕ) : Type 0 where
  pub trace : Recorded
  pub simulated : IsSimulated o trace
  pub written : text ≡ trace_text trace
  pub noted : Noted (told_decisions trace.config trace.steps ++ early_note o)

-- the faults without a run: out of memory, and a step that is refused, which isn't named
abbrev pub IsFaultOfSimulating : Fault → Type 0
IsFaultOfSimulating fault.Memory = ⊤
IsFaultOfSimulating (fault.NotARun number due) = (number ≡ 0) × (due ≡ None)
IsFaultOfSimulating _ = ⊥

-- these, or a run that isn't written whole
abbrev pub IsFaultOfSimulation : Fault → Type 0
IsFaultOfSimulation (fault.Write n) = ⊤
IsFaultOfSimulation why = IsFaultOfSimulating why
