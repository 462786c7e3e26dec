-- Members that come to a round together, and what they hear from then on.
use Rattle.std.specs.Prelude.{ℕ, ◌≡◌, ◌+◌, ◌-◌, ◌*◌, ◌<◌, ◌≤◌, List, Some, true, IsTrue}
use Rattle.step_trace.specs.declared.steps.Act.TheVariants.{Receive}
use Rattle.step_trace.specs.declared.steps.Step.{Step}
use Rattle.step_trace.specs.Processors.{has_proc}
use Rattle.step_trace.specs.Traces.{Recorded, step_at}
use Rattle.step_trace.specs.Ticks.{tick_of}
use Rattle.lock_phases.specs.Rounds.{part_of}
use Rattle.step_buffers.specs.HeardTables.{round_at}
use Rattle.patience_laws.specs.Silence.{Suspects}
use Rattle.patience_laws.specs.LeastRounds.{AreInRoundFrom, AreInTouch, IsHeardOutByAll, TakeInOrder}

-- p comes to a round with step k, which ends the one before
pub record ComesTo (steps : List Step) (p round k : ℕ) : Type 0 where
  pub ids : List ℕ
  pub step : step_at steps k ≡ Some (record { proc = p; act = Receive true ids })
  pub round_is : round_at steps p k + 1 ≡ round

-- The members come to the first round of a phase, none before tick y and all within d + (N + 1) f ticks after it. None
-- suspects a member as it does; from tick y on they are in touch.
pub record ComeTogether (patience set : ℕ) (trace : Recorded) (g d f round y : ℕ) : Type 0 where
  pub later : 1 < round
  pub part : part_of round ≡ 1
  pub touch : AreInTouch patience set trace g round y
  pub order : TakeInOrder set trace
  pub first : (p k : ℕ) → IsTrue (has_proc set p) → ComesTo trace.steps p round k → y ≤ tick_of trace k
  pub all : AreInRoundFrom set trace round (y + (trace.config.n * f + d + f))
  pub loud : (p q k : ℕ) → IsTrue (has_proc set p) → IsTrue (has_proc set q) → ComesTo trace.steps p round k
      → ¬ Suspects trace.config patience trace.steps p q k

-- The members come to the first round of a phase from tick y on, the first of them in tick y; and
-- each of them had heard out the lock-release round before it.
pub record MeetOnce (patience set : ℕ) (trace : Recorded) (g round y : ℕ) : Type 0 where
  pub later : 1 < round
  pub part : part_of round ≡ 1
  pub touch : AreInTouch patience set trace g (round - 1) y
  pub order : TakeInOrder set trace
  pub first : (p k : ℕ) → IsTrue (has_proc set p) → ComesTo trace.steps p round k → y ≤ tick_of trace k
  pub one : ℕ
  pub member : IsTrue (has_proc set one)
  pub place : ℕ
  pub comes : ComesTo trace.steps one round place
  pub at : tick_of trace place ≡ y
  pub heard : IsHeardOutByAll set trace (round - 1)
