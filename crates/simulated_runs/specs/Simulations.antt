-- Simulated runs: what is kept of one, and what a step of it does.
use Rattle.std.specs.Prelude.{ℕ, ◌≡◌, ◌+◌, ◌*◌, ◌≤◌, List, [], All, IfSome, Option, Some, None, length, map}
use Rattle.step_trace.specs.Configurations.{Setup, IsSetup}
use Rattle.command_options.specs.declared.simulations.TheConstants.{MAX_BOUND}
use Rattle.command_options.specs.declared.simulations.Crash.{Crash}
use Rattle.command_options.specs.declared.simulations.StatedBounds.{StatedBounds}
use Rattle.command_options.specs.Simulations.{live}
use Rattle.simulated_runs.specs.declared.turns.Turn.{Turn}
use Rattle.simulated_runs.specs.declared.turns.Turns.{Turns}
use Rattle.simulated_runs.specs.declared.simulations.Simulation.{Simulation}
use Rattle.simulated_runs.specs.Turns.{ArePassed, IsTurnIn, MayStep}
use Rattle.simulated_runs.specs.Crashes.{IsUpIn, StepBeforeCrashes, lasts_of}
use Rattle.simulated_runs.specs.KeptBounds.{IsLive, KeepsDelta, KeepsPhi}
use Rattle.simulated_runs.specs.Nominations.{IsNominating}
use Rattle.simulated_runs.specs.UnderWay.{AreUnderWay}
use Rattle.simulated_runs.specs.Moves.{IsMade}

-- What is kept of a run: of each processor its pace and until when it may step; whose turn it is; and what is under
-- way.
pub record IsReady (s : Simulation) : Type 0 where
  pub setup : IsSetup s.world.trace.config
  pub paces : length s.paces.items ≡ s.world.trace.config.n
  pub peers : All (λ pace. length pace.peers ≡ s.world.trace.config.n) s.paces.items
  pub lasts : length s.lasts.items ≡ s.world.trace.config.n
  pub trays : length s.post.trays.items ≡ s.world.trace.config.n
  pub under_way : AreUnderWay s.world.trace.steps s.post.trays.items
  pub nominating : IsNominating s.world.trace.config.n s.nominator
  pub turns : length s.turns.queue.items ≤ MAX_BOUND
  pub small : s.turns.gst + s.turns.phi ≤ 2 * MAX_BOUND

-- A processor made the next step: one that hadn't crashed, and that might step.
pub record IsStepped (old new : Simulation) : Type 0 where
  pub proc : ℕ
  pub made : IsMade old.world.trace new.world.trace proc
  pub up : IsUpIn old.lasts.items proc (length old.world.trace.steps + 1)
  pub may : MayStep old.turns.queue.items (length old.world.trace.steps + 1) proc
  pub passed : ArePassed old.turns.gst old.turns.phi old.turns.queue.items new.turns.queue.items
      (length old.world.trace.steps + 1) proc

-- the turns before the first tick: those of the live ones of n processors, if bounds are stated
abbrev pub AreOpeningTurns : ℕ → List Crash → Option StatedBounds → Turns → Type 0
AreOpeningTurns n crashes None turns = (turns.queue.items ≡ []) × (turns.gst ≡ 0) × (turns.phi ≡ 0)
AreOpeningTurns n crashes (Some b) turns =
    (turns.queue.items ≡ map (λ p. record { proc = p; deadline = b.gst + b.phi }) (live n crashes))
    × (turns.gst ≡ b.gst) × (turns.phi ≡ b.phi)

-- A run with these options, after so many ticks.
pub record HasRun (c : Setup) (crashes : List Crash) (bounds : Option StatedBounds) (s : Simulation)
    (ticks : ℕ) : Type 0 where
  pub ready : IsReady s
  pub config : s.world.trace.config ≡ c
  pub count : length s.world.trace.steps ≡ ticks
  pub lasts : s.lasts.items ≡ lasts_of c.n crashes
  pub bounds_are : s.post.bounds ≡ bounds
  pub turns : (t : Turn) → IsTurnIn s.turns.queue.items t → IsLive c crashes t.proc
  pub crashed : StepBeforeCrashes crashes s.world.trace.steps
  pub phi : IfSome bounds (λ b. KeepsPhi c crashes b.gst b.phi s.turns.queue.items s.world.trace.steps)
  pub delta : IfSome bounds (λ b. KeepsDelta b.gst b.delta s.world.trace.steps s.post.trays.items)
  pub gst_is : IfSome bounds (λ b. s.turns.gst ≡ b.gst)
  pub phi_is : IfSome bounds (λ b. s.turns.phi ≡ b.phi)
