-- One step more of a run.
use Rattle.std.specs.Prelude.{ℕ, ◌≡◌, ◌++◌, ◌∷◌, [], List, Bool, true, None}
use Rattle.step_trace.specs.declared.steps.Act.TheVariants.{Send, Receive}
use Rattle.step_trace.specs.declared.steps.Step.{Step}
use Rattle.step_trace.specs.Configurations.{IsProc}
use Rattle.step_trace.specs.Traces.{Recorded}
use Rattle.step_trace.specs.PushRefusals.{refusal}
use Rattle.lock_phases.specs.Nodes.{State}
use Rattle.step_buffers.specs.Runs.{node_at, IsDue}
use Rattle.step_buffers.specs.Moves.{next_send}

-- a Send of p
abbrev pub sending : ℕ → ℕ → Step
sending p to = record { proc = p; act = Send to }

-- a Receive of p
abbrev pub receiving : ℕ → Bool → List ℕ → Step
receiving p ends ids = record { proc = p; act = Receive ends ids }

-- a step may come next: no reason holds against it, and it is due
pub record IsNext (trace : Recorded) (x : Step) : Type 0 where
  pub proc : IsProc trace.config x.proc
  pub fits : refusal trace.config trace.steps x ≡ None
  pub due : IsDue (next_send trace.config trace.steps x.proc) x.act

-- the trace with one step more
pub record IsGrown (old new : Recorded) (x : Step) : Type 0 where
  pub config : new.config ≡ old.config
  pub steps : new.steps ≡ old.steps ++ x ∷ []

-- the node of p after a Receive of these ids that ends its round
abbrev pub node_after : Recorded → ℕ → List ℕ → State
node_after trace p ids = node_at trace.config (trace.steps ++ receiving p true ids ∷ []) p
