-- Cycles of causes (own).
use Rattle.std.specs.Prelude.{ℕ, ◌+◌, ◌-◌, ◌<◌, ◌≤◌, List, length, get_or}
use Rattle.timed_events.specs.declared.cause_cycles.Hop.{Hop}
use Rattle.timed_events.specs.declared.events.Event.{Event}
use Rattle.timed_events.specs.Causes.{IsFrom, IsSentTo}

-- The event of each hop received its message. The message's sender sent it no earlier than the event of the next hop;
-- the last one's, no earlier than the event of the first. So none of these events can come after all its causes.
pub record IsCauseCycle (events : List Event) (hops : List Hop) : Type 0 where
  pub some : 0 < length hops
  pub taken : (k : ℕ) (d : Hop) → k < length hops → IsSentTo events (get_or hops k d).event (get_or hops k d).message
  pub next : (k : ℕ) (d : Hop) → k + 1 < length hops
      → IsFrom events (get_or hops (k + 1) d).event (get_or hops k d).message
  pub closed : (d : Hop) → IsFrom events (get_or hops 0 d).event (get_or hops (length hops - 1) d).message

-- no hop has an event before that of the first hop, by their places
abbrev pub BeginsAtLeast : List Hop → Type 0
BeginsAtLeast hops = (k : ℕ) (d : Hop) → k < length hops → (get_or hops 0 d).event ≤ (get_or hops k d).event
