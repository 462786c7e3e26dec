-- Runs in which a processor steps by the pace "heard out" (own).
use Rattle.std.specs.Prelude.{ℕ, zero, suc, ◌≡◌, ◌+◌, ◌-◌, List, Option, Some, None}
use Rattle.std.specs.Prelude.{take, length, slice_get, ◌==◌, if◌then◌else◌, Bool}
use Rattle.step_trace.specs.declared.steps.Act.{Act}
use Rattle.step_trace.specs.declared.steps.Act.TheVariants.{Send, Receive}
use Rattle.step_trace.specs.declared.steps.Step.{Step}
use Rattle.step_trace.specs.Configurations.{Setup}
use Rattle.step_trace.specs.Traces.{step_at}
use Rattle.step_buffers.specs.HeardTables.{passed, before, round_at}
use Rattle.step_buffers.specs.Moves.{next_send}
use Rattle.step_buffers.specs.Runs.{next_destination, node_before}
use Rattle.deciding_runs.specs.declared.peers.Peer.{Peer}
use Rattle.deciding_runs.specs.Peers.{peer_of}
use Rattle.deciding_runs.specs.Paces.{Paced, opening_pace, heard_ids, is_over, ends_taking, after_receive}

-- the pace of p after a step of its own that comes after these steps
abbrev pub pace_acting : List Step → ℕ → Act → Paced → Paced
pace_acting steps p (Send to) x = x
pace_acting steps p (Receive ends ids) x = after_receive ends (passed steps p + 1) (heard_ids steps p ids x)

-- the pace of p after the step that comes after these steps, if one does
abbrev pub pace_stepping : List Step → ℕ → Option Step → Paced → Paced
pace_stepping steps p None x = x
pace_stepping steps p (Some step) x = if step.proc == p then pace_acting steps p step.act x else x

-- the pace of p after the first k steps, with a patience: what it has heard, and how many Receives its round may take
-- still
unfoldable pub pace_after : Setup → ℕ → List Step → ℕ → ℕ → Paced
pace_after c patience steps p zero = opening_pace c patience
pace_after c patience steps p (suc k) = pace_stepping (take k steps) p (slice_get steps k)
    (pace_after c patience steps p k)

-- what p has heard of q after the first k steps
abbrev pub peer_after : Setup → ℕ → List Step → ℕ → ℕ → ℕ → Peer
peer_after c patience steps p q k = peer_of (pace_after c patience steps p k).peers q

-- what p has heard with the messages that it takes with step k, and before
abbrev pub pace_taking : Setup → ℕ → List Step → ℕ → ℕ → List ℕ → Paced
pace_taking c patience steps p k ids = heard_ids (before steps k) p ids (pace_after c patience steps p (k - 1))

-- p steps by the pace: it sends what it has to send, and else it receives; and a Receive ends its round exactly if the
-- round is over with what it takes.
pub record StepsByPace (c : Setup) (patience : ℕ) (steps : List Step) (p : ℕ) : Type 0 where
  pub sends : (k to : ℕ) (act : Act) → step_at steps k ≡ Some (record { proc = p; act = act })
      → next_destination c steps p k ≡ Some to → act ≡ Send to
  pub ends : (k : ℕ) (ids : List ℕ) (ends : Bool) → step_at steps k ≡ Some (record { proc = p; act = Receive ends ids })
      → ends ≡ is_over c (node_before c steps p k) (round_at steps p k) p (pace_taking c patience steps p k ids)

-- what p does next by its pace, by where it sends next: it sends there, or a Receive ends its round
-- exactly if the round is over then
abbrev pub IsPacedAct : Setup → ℕ → List Step → ℕ → Option ℕ → Act → Type 0
IsPacedAct c patience steps p (Some to) act = act ≡ Send to
IsPacedAct c patience steps p None (Send to) = Unit {0}
IsPacedAct c patience steps p None (Receive ends ids) =
    ends ≡ ends_taking c steps p ids (pace_after c patience steps p (length steps))

-- if the step is one of p, it is what p does next by its pace
abbrev pub IsPacedStep : Setup → ℕ → List Step → ℕ → Step → Type 0
IsPacedStep c patience steps p step = step.proc ≡ p → IsPacedAct c patience steps p (next_send c steps p) step.act
