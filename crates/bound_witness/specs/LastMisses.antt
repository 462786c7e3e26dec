-- The last miss of a message.
use Rattle.std.specs.Prelude.{ℕ, ◌≡◌, ◌≤◌}
use Rattle.step_trace.specs.declared.rows.Miss.{Miss}
use Rattle.step_trace.specs.Traces.{Recorded}
use Rattle.step_trace.specs.Witnesses.{IsMiss}

-- the message has no miss; if no message between members has this number, there is none
pub record HasNoMiss (set : ℕ) (trace : Recorded) (s : ℕ) : Type 0 where
  pub none : (m : Miss) → m.sent ≡ s → ¬ IsMiss set trace m

-- the miss of the message with the greatest Receive
pub record IsLastMiss (set : ℕ) (trace : Recorded) (s : ℕ) (m : Miss) : Type 0 where
  pub sent : m.sent ≡ s
  pub miss : IsMiss set trace m
  pub greatest : (o : Miss) → IsMiss set trace o → o.sent ≡ s → o.missed ≤ m.missed
