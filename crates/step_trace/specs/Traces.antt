-- Traces (section 2, the runs of a set of processors; the numbering of all steps from 1 is own).
use Rattle.std.specs.Prelude.{ℕ, ◌≡◌, ◌<◌, ◌≤◌, List, [], length, Option, Some, None}
use Rattle.std.specs.Prelude.{slice_get, Contains, IfSome, suc, zero, Bool}
use Rattle.std.specs.List.Sorted.{IsStrictlyIncreasing}
use Rattle.std.specs.Option.{option_map_or}
use Rattle.step_trace.specs.declared.traces.TheConstants.{MAX_STEPS}
use Rattle.step_trace.specs.declared.steps.Act.{Act}
use Rattle.step_trace.specs.declared.steps.Act.TheVariants.{Send, Receive}
use Rattle.step_trace.specs.declared.steps.Step.{Step}
use Rattle.step_trace.specs.Configurations.{Setup, IsProc}
use Rattle.step_trace.specs.Steps.{act_ids, act_dest}

-- a configuration, the steps in the order of real time, the tick of each, and the last tick
pub record Recorded : Type 0 where
  pub config : Setup
  pub steps : List Step
  pub ticks : List ℕ
  pub last : ℕ

-- the step of this number, which counts from 1
abbrev pub step_at : List Step → ℕ → Option Step
step_at steps zero = None
step_at steps (suc k) = slice_get steps k

-- message s, which is the Send of that number, goes to p
abbrev pub IsSentTo : List Step → ℕ → ℕ → Type 0
IsSentTo steps s p = (a : ℕ) × (step_at steps s ≡ Some (record { proc = a; act = Send p }))

-- step k takes message s
abbrev pub TakesAt : List Step → ℕ → ℕ → Type 0
TakesAt steps k s = (x : Step) × (step_at steps k ≡ Some x) × Contains (act_ids x.act) s

-- A list of steps is well formed: at most MAX_STEPS steps, each of a processor of the configuration;
-- a Send goes to such a processor; the ids of a Receive rise, and each is the number of an earlier
-- Send to the receiving processor; no message is taken twice.
pub record IsWellFormed (c : Setup) (steps : List Step) : Type 0 where
  pub short : length steps ≤ MAX_STEPS
  pub procs : (k : ℕ) (x : Step) → step_at steps k ≡ Some x → IsProc c x.proc
  pub dests : (k : ℕ) (x : Step) → step_at steps k ≡ Some x → IfSome (act_dest x.act) (IsProc c)
  pub rising : (k : ℕ) (x : Step) → step_at steps k ≡ Some x → IsStrictlyIncreasing (act_ids x.act)
  pub earlier : (k s : ℕ) (x : Step) → step_at steps k ≡ Some x → Contains (act_ids x.act) s
      → (s < k) × IsSentTo steps s x.proc
  pub once : (m n s : ℕ) → TakesAt steps m s → TakesAt steps n s → m ≡ n

-- step r is a Receive of p
pub record IsReceiveOf (steps : List Step) (r p : ℕ) : Type 0 where
  pub ids : List ℕ
  pub ends : Bool
  pub step : step_at steps r ≡ Some (record { proc = p; act = Receive ends ids })

-- step x is one of processor p
abbrev pub IsStepOf : List Step → ℕ → ℕ → Type 0
IsStepOf steps x p = (a : Act) × (step_at steps x ≡ Some (record { proc = p; act = a }))

-- the ids that step k takes: none if there is no such step
abbrev pub ids_at : List Step → ℕ → List ℕ
ids_at steps k = option_map_or (λ x. act_ids x.act) (step_at steps k) []
