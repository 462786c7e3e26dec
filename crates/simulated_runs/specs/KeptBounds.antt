-- What a schedule keeps. Each live processor steps by its deadline: its last step, or the stabilization time, plus the
-- processor bound. Each message is taken once it is due.
use Rattle.std.specs.Prelude.{ℕ, ◌≡◌, ◌+◌, ◌<◌, ◌≤◌, ◌⊎◌, List, Option, Contains, IfSome, IsTrue, true, length}
use Rattle.step_trace.specs.declared.steps.Step.{Step}
use Rattle.step_trace.specs.Configurations.{Setup, IsProc}
use Rattle.step_trace.specs.Processors.{has_proc}
use Rattle.step_trace.specs.Traces.{IsReceiveOf, IsSentTo, IsStepOf, TakesAt}
use Rattle.step_buffers.specs.Buffers.{buffer}
use Rattle.command_options.specs.declared.simulations.Crash.{Crash}
use Rattle.command_options.specs.declared.simulations.StatedBounds.{StatedBounds}
use Rattle.command_options.specs.Simulations.{is_live}
use Rattle.simulated_runs.specs.declared.trays.Posted.{Posted}
use Rattle.simulated_runs.specs.declared.turns.Turn.{Turn}
use Rattle.simulated_runs.specs.Posts.{tray_of}
use Rattle.simulated_runs.specs.Turns.{AreInTime, HasTurn, IsTurnIn}

-- p is a processor that never crashes
abbrev pub IsLive : Setup → List Crash → ℕ → Type 0
IsLive c crashes p = IsProc c p × (is_live crashes p ≡ true)

-- all members of the set are
abbrev pub AreLive : ℕ → Setup → List Crash → Type 0
AreLive set c crashes = (p : ℕ) → IsTrue (has_proc set p) → IsLive c crashes p

-- p makes one of the f steps from number x on
pub record StepsFrom (steps : List Step) (p x f : ℕ) : Type 0 where
  pub place : ℕ
  pub from : x ≤ place
  pub until : place < x + f
  pub step : IsStepOf steps place p

-- the turn is due by its processor's last step, or by the stabilization time
abbrev pub IsSinceStep : ℕ → ℕ → List Step → Turn → Type 0
IsSinceStep gst phi steps t = (t.deadline ≤ gst + phi)
    ⊎ ((last : ℕ) × (t.deadline ≡ last + phi) × IsStepOf steps last t.proc)

-- The turns keep the bound for the live processors, and the steps so far kept it from a number on.
pub record KeepsPhi (c : Setup) (crashes : List Crash) (gst phi : ℕ) (queue : List Turn)
    (steps : List Step) : Type 0 where
  pub few : length queue ≤ phi
  pub in_time : AreInTime queue (length steps)
  pub since : (t : Turn) → IsTurnIn queue t → IsSinceStep gst phi steps t
  pub each : (p : ℕ) → IsLive c crashes p → HasTurn queue p
  pub kept : (x : ℕ) → gst + 1 ≤ x → x + phi ≤ length steps + 1 → (p : ℕ) → IsLive c crashes p → StepsFrom steps p x phi

-- Each message that waits for a processor and was sent after the stabilization time is under way to it, and due within
-- the communication bound.
abbrev pub AreOnTime : ℕ → ℕ → List Step → List (List Posted) → Type 0
AreOnTime gst delta steps trays = (p s : ℕ) → 1 ≤ p → p ≤ length trays → gst < s → Contains (buffer steps p) s
    → (m : Posted) × Contains (tray_of trays p) m × (m.id ≡ s) × (m.due ≤ s + delta)

-- message s is taken by a later step, up to step r
pub record IsTakenBy (steps : List Step) (s r : ℕ) : Type 0 where
  pub place : ℕ
  pub after : s < place
  pub until : place ≤ r
  pub takes : TakesAt steps place s

-- The messages under way keep the communication bound, and the steps so far kept it after the stabilization time.
pub record KeepsDelta (gst delta : ℕ) (steps : List Step) (trays : List (List Posted)) : Type 0 where
  pub on_time : AreOnTime gst delta steps trays
  pub kept : (s p r : ℕ) → gst < s → IsSentTo steps s p → IsReceiveOf steps r p → s + delta ≤ r → IsTakenBy steps s r

-- If bounds are stated, the communication bound goes on to be kept by these steps and trays if it was by those.
abbrev pub DeltaGoesOn : Option StatedBounds → List Step → List (List Posted) → List Step → List (List Posted) → Type 0
DeltaGoesOn bounds steps trays more others =
    IfSome bounds (λ b. KeepsDelta b.gst b.delta steps trays → KeepsDelta b.gst b.delta more others)
