-- Which Receives come before others, by the numbers of steps; 0 denotes none (own).
use Rattle.std.specs.Prelude.{ℕ, ◌≡◌, ◌≢◌, ◌+◌, ◌<◌, ◌≤◌, ◌==◌, List, length, slice_index, if◌then◌else◌}
use Rattle.step_trace.specs.declared.steps.Step.{Step}
use Rattle.step_trace.specs.Traces.{Recorded, TakesAt, IsReceiveOf}
use Rattle.certificate_checker.specs.declared.receives.TheConstants.{UNTAKEN}
use Rattle.certificate_checker.specs.declared.receives.Receives.{Receives}

-- the last Receive of p before step `until`
pub record IsLastBefore (steps : List Step) (p until r : ℕ) : Type 0 where
  pub found : 0 < r → (r < until) × IsReceiveOf steps r p
  pub last : (y : ℕ) → IsReceiveOf steps y p → y < until → y ≤ r

-- no step up to r takes message s
abbrev pub WaitsAt : List Step → ℕ → ℕ → Type 0
WaitsAt steps s r = (k : ℕ) → k ≤ r → ¬ TakesAt steps k s

-- the last Receive of p up to which message s isn't taken
pub record IsLastWaited (steps : List Step) (s p r : ℕ) : Type 0 where
  pub found : 0 < r → IsReceiveOf steps r p × WaitsAt steps s r
  pub last : (y : ℕ) → IsReceiveOf steps y p → WaitsAt steps s y → y ≤ r

-- the last Receive of p up to which message s isn't taken, of what is known of a whole trace
abbrev pub last_waited : Receives → ℕ → ℕ → ℕ
last_waited r s p = if slice_index r.before.items s == UNTAKEN then slice_index r.last.items p else slice_index
    r.before.items s

-- what is known of the steps up to number done
pub record KnowsReceives (trace : Recorded) (done : ℕ) (r : Receives) : Type 0 where
  pub before_long : length r.before.items ≡ length trace.steps + 1
  pub last_long : length r.last.items ≡ trace.config.n + 1
  pub taken : (k s : ℕ) → k ≤ done → (t : TakesAt trace.steps k s)
      → IsLastBefore trace.steps t.0.proc k (slice_index r.before.items s)
  pub known : (s : ℕ) → slice_index r.before.items s ≢ UNTAKEN → s ≤ length trace.steps
      → (k : ℕ) × TakesAt trace.steps k s × (k ≤ done)
  pub last : (p : ℕ) → p ≤ trace.config.n → IsLastBefore trace.steps p (done + 1) (slice_index r.last.items p)
