-- The lines that report a cycle of messages, for which a log makes no trace.
use Rattle.std.specs.Prelude.{ℕ, ◌+◌, ◌-◌, ◌%◌, min, List, [], ◌∷◌, ◌++◌, map, length, get_or}
use Rattle.std.specs.List.{range_with_len}
use Rattle.timed_events.specs.declared.cause_cycles.Hop.{Hop}
use Rattle.timed_events.specs.declared.events.Event.{Event}
use Rattle.timed_events.specs.Checks.{processor_at}
use Rattle.event_log.specs.declared.cycle_lines.CycleLine.{CycleLine}
use Rattle.event_log.specs.declared.cycle_lines.CycleLine.TheVariants as line
use Rattle.event_log.specs.declared.hop_lines.TheConstants.{MAX_SHOWN}
use Rattle.event_log.specs.ToldNames.{message_name, node_name}

-- the line of a hop: who receives which message in which record, who sends it in which record, and after which record;
-- `after` is the place of an event
abbrev pub hop_line : List ℕ → List (List ℕ) → List Event → Hop → ℕ → CycleLine
hop_line text nodes events hop after =
    line.Hop (hop.event + 2) (node_name nodes (processor_at events hop.event)) (message_name text hop.message 0)
    (node_name nodes (processor_at events hop.message)) (hop.message + 2) (after + 2)

-- the hop at a place
abbrev pub hop_at : List Hop → ℕ → Hop
hop_at hops k = get_or hops k (record { event = 0; message = 0 })

-- the line of the hop at a place, whose message is sent after the event of the next; after the last one comes the first
abbrev pub line_at : List ℕ → List (List ℕ) → List Event → List Hop → ℕ → CycleLine
line_at text nodes events hops k = hop_line text nodes events (hop_at hops k)
    (hop_at hops ((k + 1) % length hops)).event

-- the lines of the first MAX_SHOWN hops
abbrev pub shown_lines : List ℕ → List (List ℕ) → List Event → List Hop → List CycleLine
shown_lines text nodes events hops = map (line_at text nodes events hops)
    (range_with_len 0 (min (length hops) MAX_SHOWN))

-- the lines of a cycle, at last how many hops there are beyond these
abbrev pub hop_lines : List ℕ → List (List ℕ) → List Event → List Hop → List CycleLine
hop_lines text nodes events hops = shown_lines text nodes events hops ++ line.More (length hops - MAX_SHOWN) ∷ []
