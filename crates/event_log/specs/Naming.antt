-- The names of a log's events, taken in one after the other.
use Rattle.std.specs.Prelude.{ℕ, ◌≡◌, ◌==◌, ◌+◌, ◌&&◌, List, [], ◌∷◌, ◌++◌, Result, Ok, Err, Bool}
use Rattle.std.specs.Prelude.{true, false, MatchBool, ⊤, length, nat_lt, slice_get, if◌then◌else◌}
use Rattle.std.specs.List.{position_or_len}
use Rattle.std.specs.Option.{option_map_or}
use Rattle.std.specs.Str.{bytes_eq}
use Rattle.trace_text.specs.Records.{◌>>=◌}
use Rattle.event_log.specs.declared.records.Verb.{Verb}
use Rattle.event_log.specs.declared.records.Verb.TheVariants as verb
use Rattle.event_log.specs.declared.refusals.LogError.{LogError}
use Rattle.event_log.specs.declared.refusals.LogError.TheVariants.{TooManyNodes, SentBefore, Memory}
use Rattle.event_log.specs.KeptEvents.{KeptAct, KeptEvent, Send, Receive}
use Rattle.event_log.specs.LogRecords.{Said}
use Rattle.trace_text.specs.Names.{has_name}
use Rattle.event_log.specs.Names.{with_name}
use Rattle.event_log.specs.SentMessages.{Sent, none_sent, place_for, with_send}

-- the nodes in the order in which the events name them, the messages that these send, and the events
pub record Named : Type 0 where
  pub nodes : List (List ℕ)
  pub sent : Sent
  pub events : List KeptEvent

-- no events, and these nodes
abbrev pub begun : List (List ℕ) → Named
begun nodes = record { nodes = nodes; sent = none_sent; events = [] }

-- the number of a node: one more than its place, or than that of the last node if it is new
abbrev pub number_of : List (List ℕ) → List ℕ → ℕ
number_of nodes name = position_or_len (bytes_eq name) nodes + 1

abbrev pub nodes_after_by : Verb → List (List ℕ) → Said → List (List ℕ)
nodes_after_by verb.Send nodes s = with_name (with_name nodes s.node) s.to
nodes_after_by verb.Receive nodes s = with_name nodes s.node

-- the nodes after an event: its own node, and then the one that it sends to
abbrev pub nodes_after : List (List ℕ) → Said → List (List ℕ)
nodes_after nodes s = nodes_after_by s.verb nodes s

abbrev pub number_to_by : Verb → List (List ℕ) → Said → ℕ
number_to_by verb.Send nodes s = number_of (with_name nodes s.node) s.to
number_to_by verb.Receive nodes s = number_of nodes s.node

-- the number of the node that a send is for, and of its own node in a receive
abbrev pub number_to : List (List ℕ) → Said → ℕ
number_to nodes s = number_to_by s.verb nodes s

abbrev pub sends_to : KeptAct → ℕ → Bool
sends_to (Send to) node = to == node
sends_to (Receive messages) node = false

-- whether the event at a place is a send to a node
abbrev pub is_send_to : List KeptEvent → ℕ → ℕ → Bool
is_send_to events place to = option_map_or (λ event. sends_to event.act to) (slice_get events place) false

-- whether the send that is looked up for a name and a node is for this node
abbrev pub was_sent_to : Sent → List KeptEvent → ℕ → List ℕ → Bool
was_sent_to sent events to name = option_map_or (λ place. is_send_to events place to) (place_for sent to name) false

-- whether a name was sent before, and to this node
abbrev pub was_sent : Sent → List KeptEvent → ℕ → List ℕ → Bool
was_sent sent events to name = has_name sent.names name && was_sent_to sent events to name

abbrev pub sent_after_by : Verb → ℕ → ℕ → Sent → Said → Sent
sent_after_by verb.Send place to sent s = with_send place to s.messages sent
sent_after_by verb.Receive place to sent s = sent

-- the messages that were sent, after the event at a place, whose send is to a node
abbrev pub sent_after : ℕ → ℕ → Sent → Said → Sent
sent_after place to sent s = sent_after_by s.verb place to sent s

abbrev pub act_after_by : Verb → ℕ → ℕ → Sent → List KeptEvent → Said → Result KeptAct LogError
act_after_by verb.Send at to sent events s =
    if was_sent sent events to s.messages then Err (SentBefore at s.messages) else Ok (Send to)
act_after_by verb.Receive at to sent events s = Ok (Receive s.messages)

-- what the event of a record does; a message is sent to a node once
abbrev pub act_after : ℕ → ℕ → Sent → List KeptEvent → Said → Result KeptAct LogError
act_after at to sent events s = act_after_by s.verb at to sent events s

-- the names with those of the event at a place, from 0; its record is two after
abbrev pub after_said : ℕ → Named → Said → Result Named LogError
after_said place names s =
    if nat_lt 64 (length (nodes_after names.nodes s)) then Err (TooManyNodes (place + 2))
    else (act_after (place + 2) (number_to names.nodes s) names.sent names.events s
    >>= λ act. Ok (record {
      nodes = nodes_after names.nodes s;
      sent = sent_after place (number_to names.nodes s) names.sent s;
      events = names.events ++ (record { time = s.moment.time; processor = number_of names.nodes s.node; act = act })
          ∷ [];
    }))

abbrev pub is_memory : LogError → Bool
is_memory Memory = true
is_memory e = false

-- the error is this one, unless it is one that may always come
abbrev pub IsUnless : (LogError → Bool) → LogError → LogError → Type 0
IsUnless may e due = MatchBool (may e) ⊤ (e ≡ due)
