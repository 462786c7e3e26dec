-- The bounds of partial synchrony (section 2 of the 1988 paper), over a trace and a set of processors
-- that are named as correct. A bound holds from a tick g to the last tick; it is counted in ticks, which
-- are the real-time steps. Numbers of steps are called s, r; moments g, x, y.
use Rattle.std.specs.Prelude.{ℕ, ◌≡◌, ◌+◌, ◌<◌, ◌≤◌, List, Some, IsTrue}
use Rattle.step_trace.specs.declared.steps.Act.TheVariants.{Send}
use Rattle.step_trace.specs.declared.steps.Step.{Step}
use Rattle.step_trace.specs.Processors.{has_proc}
use Rattle.step_trace.specs.Traces.{Recorded, step_at, TakesAt, IsReceiveOf}
use Rattle.step_trace.specs.Ticks.{tick_of, StepsIn}

-- message s goes from a member of the set to the member b; others don't count (own)
pub record IsMessage (set : ℕ) (steps : List Step) (s b : ℕ) : Type 0 where
  pub from : ℕ
  pub sent : step_at steps s ≡ Some (record { proc = from; act = Send b })
  pub sender : IsTrue (has_proc set from)
  pub receiver : IsTrue (has_proc set b)

-- Message s is delivered by the moment y: some Receive in a later tick than its Send's, at y or before,
-- takes it.
pub record IsDelivered (trace : Recorded) (s y : ℕ) : Type 0 where
  pub place : ℕ
  pub after : tick_of trace s < tick_of trace place
  pub until : tick_of trace place ≤ y
  pub takes : TakesAt trace.steps place s

-- The communication bound d holds for message s: each Receive of its receiver that comes d or more
-- ticks after its Send finds it delivered.
pub record DeltaHoldsFor (set : ℕ) (trace : Recorded) (s d : ℕ) : Type 0 where
  pub on_time : (r b : ℕ) → IsMessage set trace.steps s b → IsReceiveOf trace.steps r b
      → tick_of trace s + d ≤ tick_of trace r → IsDelivered trace s (tick_of trace r)

-- The communication bound d holds from tick g: it holds for each message sent in g or later.
pub record DeltaHolds (set : ℕ) (trace : Recorded) (g d : ℕ) : Type 0 where
  pub each : (s : ℕ) → g ≤ tick_of trace s → DeltaHoldsFor set trace s d

-- p takes a step in one of the f ticks from x on
pub record StepsWithin (trace : Recorded) (p x f : ℕ) : Type 0 where
  pub tick : ℕ
  pub from : x ≤ tick
  pub until : tick < x + f
  pub step : StepsIn trace tick p

-- The processor bound f holds from tick g: in each f ticks in a row, from g on and up to the last tick,
-- each member takes a step.
pub record PhiHolds (set : ℕ) (trace : Recorded) (g f : ℕ) : Type 0 where
  pub each : (x : ℕ) → g ≤ x → x + f ≤ trace.last + 1 → (p : ℕ) → IsTrue (has_proc set p) → StepsWithin trace p x f

-- the positive number at which a bound holds while it holds at no smaller positive number
pub record IsLeastBound (Holds : ℕ → Type 0) (d : ℕ) : Type 0 where
  pub positive : 1 ≤ d
  pub holds : Holds d
  pub least : (e : ℕ) → 1 ≤ e → Holds e → d ≤ e

-- d is Δ(g)
abbrev pub IsDelta : ℕ → Recorded → ℕ → ℕ → Type 0
IsDelta set trace g d = IsLeastBound (DeltaHolds set trace g) d

-- f is Φ(g)
abbrev pub IsPhi : ℕ → Recorded → ℕ → ℕ → Type 0
IsPhi set trace g f = IsLeastBound (PhiHolds set trace g) f
