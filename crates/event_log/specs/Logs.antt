-- The events of a log.
use Rattle.std.specs.Prelude.{ℕ, List, Option, Result, Ok, map}
use Rattle.std.specs.Borrow.{Bor}
use Rattle.trace_text.specs.Records.{◌>>=◌}
use Rattle.event_log.specs.declared.logs.NamedEvents.{NamedEvents}
use Rattle.event_log.specs.declared.refusals.LogError.{LogError}
use Rattle.event_log.specs.declared.times.TimeKind.{TimeKind}
use Rattle.event_log.specs.declared.times.TimeUnit.{TimeUnit}
use Rattle.event_log.specs.Events.{Seen, resolved, seen}
use Rattle.event_log.specs.Naming.{Named}
use Rattle.event_log.specs.Reading.{named_of}

-- the kind of the times, the nodes, and the events with their lists plain
pub record SeenLog : Type 0 where
  pub kind : TimeKind
  pub nodes : List (List ℕ)
  pub events : List Seen

-- what a contract sees of the events of a log
abbrev pub seen_log : NamedEvents → SeenLog
seen_log log = record { kind = log.kind; nodes = log.nodes; events = map seen log.events.items }

-- the events of a log once all its records were read: each received message by the place of its send
abbrev pub resolved_log : TimeKind → Named → SeenLog
resolved_log kind names = record { kind = kind; nodes = names.nodes; events = map (resolved names.sent) names.events }

-- the events of a log, or the first refusal
abbrev pub events_in : Option TimeUnit → Option (Bor (List (List ℕ))) → List (List ℕ) → List ℕ → Result SeenLog LogError
events_in unit listed nodes text = named_of unit listed nodes text >>= λ r. Ok (resolved_log r.0 r.1)
