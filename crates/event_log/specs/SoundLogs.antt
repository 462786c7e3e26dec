-- What holds of the events of each log that is accepted.
use Rattle.std.specs.Prelude.{ℕ, ◌≤◌, ◌<◌, ⊤, length}
use Rattle.std.specs.List.{All}
use Rattle.event_log.specs.declared.reading.TheConstants.{MAX_EVENTS}
use Rattle.event_log.specs.Events.{Seen, SeenAct, Sends, Receives}
use Rattle.event_log.specs.Logs.{SeenLog}

-- a number of one of so many nodes
abbrev pub IsNumber : ℕ → ℕ → Type 0
IsNumber count p = (1 ≤ p) × (p ≤ count)

abbrev pub SendsWithin : ℕ → SeenAct → Type 0
SendsWithin count (Sends to) = IsNumber count to
SendsWithin count (Receives messages) = ⊤

-- an event's processor, and the one that it sends to, are among so many
abbrev pub IsWithin : ℕ → Seen → Type 0
IsWithin count event = IsNumber count event.processor × SendsWithin count event.act

-- 2 to 64 nodes, at least one event and at most MAX_EVENTS, each among these nodes
pub record IsSound (log : SeenLog) : Type 0 where
  pub two : 2 ≤ length log.nodes
  pub few_nodes : length log.nodes ≤ 64
  pub some : 0 < length log.events
  pub few_events : length log.events ≤ MAX_EVENTS
  pub within : All (IsWithin (length log.nodes)) log.events
