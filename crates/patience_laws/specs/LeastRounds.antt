-- Members of a set that are in touch, and by which tick their least round is over.
use Rattle.std.specs.Prelude.{ℕ, ◌≡◌, ◌+◌, ◌-◌, ◌≤◌, List, Some, true, false, IsTrue}
use Rattle.step_trace.specs.declared.steps.Step.{Step}
use Rattle.step_trace.specs.Configurations.{Setup, IsProc}
use Rattle.step_trace.specs.Processors.{has_proc, IsWithin}
use Rattle.step_trace.specs.declared.steps.Act.TheVariants.{Receive}
use Rattle.step_trace.specs.Traces.{Recorded, step_at}
use Rattle.step_trace.specs.Ticks.{tick_of, IsTrace}
use Rattle.step_trace.specs.Bounds.{DeltaHolds, PhiHolds}
use Rattle.lock_phases.specs.Hearing.{number_of}
use Rattle.lock_phases.specs.Nodes.{State}
use Rattle.lock_phases.specs.Rounds.{owner, phase_of}
use Rattle.round_model.specs.RoundStates.{state_after}
use Rattle.step_buffers.specs.HeardTables.{passed, round_at, heard_table}
use Rattle.step_buffers.specs.Runs.{IsRun, IsSend}
use Rattle.patience_laws.specs.PacedRuns.{StepsByPace}
use Rattle.deciding_runs.specs.HeardOut.{HasHeardOf, TakesInOrder}
use Rattle.patience_laws.specs.RoundTicks.{IsInRoundFrom, SuspectsFrom, may_hear_of}

-- A run in which at least N - t members step by the pace, and the bounds d and f hold for them from tick g on.
pub record KeepsBounds (patience set : ℕ) (trace : Recorded) (g d f : ℕ) : Type 0 where
  pub run : IsRun trace.config trace.steps
  pub trace_is : IsTrace trace
  pub within : IsWithin set trace.config.n
  pub size : trace.config.n - trace.config.t ≤ number_of trace.config.n (has_proc set)
  pub paced : (p : ℕ) → IsTrue (has_proc set p) → StepsByPace trace.config patience trace.steps p
  pub delta : DeltaHolds set trace g d
  pub phi : PhiHolds set trace g f

-- From tick x on the members suspect all others; and what they send to one another in this round or
-- in a later one comes under the bounds.
pub record AreInTouch (patience set : ℕ) (trace : Recorded) (g round x : ℕ) : Type 0 where
  pub since : g ≤ x
  pub fresh : (p q s : ℕ) → IsTrue (has_proc set p) → IsTrue (has_proc set q) → IsSend trace.steps q p s
      → round ≤ round_at trace.steps q s → g ≤ tick_of trace s
  pub silent : (p q : ℕ) → IsTrue (has_proc set p) → IsProc trace.config q → has_proc set q ≡ false
      → SuspectsFrom patience trace p q x

-- from tick x on, each member is in this round or in a later one
abbrev pub AreInRoundFrom : ℕ → Recorded → ℕ → ℕ → Type 0
AreInRoundFrom set trace round x = (p : ℕ) → IsTrue (has_proc set p) → IsInRoundFrom trace p round x

-- the node of p in a round
abbrev pub node_in : Setup → List Step → ℕ → ℕ → State
node_in c steps p round = state_after c (heard_table steps) (round - 1) p

-- If the owner of this acknowledging round is a member and has a proposal in it, each member that comes to the round
-- owes an acknowledgement.
abbrev pub OweAcknowledgements : ℕ → Recorded → ℕ → Type 0
OweAcknowledgements set trace round = (v : ℕ) → IsTrue (has_proc set (owner trace.config.n (phase_of round)))
    → (node_in trace.config trace.steps (owner trace.config.n (phase_of round)) round).proposal ≡ Some v
    → (q : ℕ) → IsTrue (has_proc set q) → round ≤ passed trace.steps q + 1
    → (node_in trace.config trace.steps q round).owes_ack ≡ true

-- Each member that ends this round has heard, of each member that it may hear in it, something of this round or of a
-- later one.
abbrev pub IsHeardOutByAll : ℕ → Recorded → ℕ → Type 0
IsHeardOutByAll set trace round = (p q k : ℕ) (ids : List ℕ) → IsTrue (has_proc set p) → IsTrue (has_proc set q)
    → step_at trace.steps k ≡ Some (record { proc = p; act = Receive true ids }) → round_at trace.steps p k ≡ round
    → may_hear_of trace.config trace.steps p round q ≡ true → HasHeardOf trace.steps p q round k

-- the members take one another's messages in order
abbrev pub TakeInOrder : ℕ → Recorded → Type 0
TakeInOrder set trace = (p q : ℕ) → IsTrue (has_proc set p) → IsTrue (has_proc set q) → TakesInOrder trace.steps p q
