-- Traces that go on (own).
use Rattle.std.specs.Prelude.{ℕ, ◌≡◌, ◌++◌, ◌<◌, ◌≤◌, List, length, Some}
use Rattle.step_trace.specs.declared.steps.Step.{Step}
use Rattle.step_trace.specs.Traces.{Recorded, step_at}
use Rattle.step_trace.specs.Ticks.{tick_of}

-- the list begins with these, and may go on
pub record BeginsWith {X : Type 0} (list first : List X) : Type 0 where
  pub more : List X
  pub whole : list ≡ first ++ more

-- One trace extends another. They have one configuration; the other's steps with their ticks are a prefix of
-- its own; its last tick isn't below the other's, and neither is the tick of a further step.
pub record Extends (longer shorter : Recorded) : Type 0 where
  pub config : longer.config ≡ shorter.config
  pub steps : BeginsWith longer.steps shorter.steps
  pub ticks : BeginsWith longer.ticks shorter.ticks
  pub last : shorter.last ≤ longer.last
  pub later : (k : ℕ) (x : Step) → length shorter.steps < k → step_at longer.steps k ≡ Some x
      → shorter.last ≤ tick_of longer k
