-- Messages that may be taken (own).
use Rattle.std.specs.Prelude.{ℕ, Bool, ◌&&◌, not}
use Rattle.step_trace.specs.PlacedSteps.{Ticked}
use Rattle.step_trace.specs.PushRefusals.{is_sent_to}
use Rattle.step_trace.specs.TickRefusals.{is_sent_in}

-- whether p can take message s in this tick, by a test of which messages were taken: it was sent to p, and in another
-- tick
abbrev pub can_take : Ticked → (ℕ → Bool) → ℕ → ℕ → ℕ → Bool
can_take placed taken tick p s = is_sent_to placed.steps s p && not (is_sent_in placed.ticks tick s) && not (taken s)
