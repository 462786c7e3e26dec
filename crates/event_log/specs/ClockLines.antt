-- The lines that report a cycle of clocks, for which no offsets align those of a log.
use Rattle.std.specs.Prelude.{ℕ, ◌+◌, ◌-◌, min, pos, List, [], ◌∷◌, ◌++◌, map, length, get_or, Option, Some, None}
use Rattle.std.specs.List.{range_with_len}
use Rattle.timed_events.specs.declared.events.Event.{Event}
use Rattle.timed_events.specs.Checks.{processor_at}
use Rattle.clock_offsets.specs.declared.clock_cycles.ClockCycle.{ClockCycle}
use Rattle.clock_offsets.specs.declared.clock_cycles.ClockHop.{ClockHop}
use Rattle.event_log.specs.declared.cycle_lines.CycleLine.{CycleLine}
use Rattle.event_log.specs.declared.cycle_lines.CycleLine.TheVariants as line
use Rattle.event_log.specs.declared.hop_lines.TheConstants.{MAX_SHOWN}
use Rattle.event_log.specs.ToldNames.{message_name, node_name}

-- the line of a message: the record that receives it, from which node to which it went, how long it took, and the
-- record that sends it
abbrev pub clock_line : List ℕ → List (List ℕ) → List Event → ClockHop → CycleLine
clock_line text nodes events hop =
    line.Clock (hop.event + 2) (message_name text hop.message 0) (node_name nodes (processor_at events hop.message))
    (node_name nodes (processor_at events hop.event)) hop.took (hop.message + 2)

-- the line of the hop at a place
abbrev pub clock_line_at : List ℕ → List (List ℕ) → List Event → List ClockHop → ℕ → CycleLine
clock_line_at text nodes events hops k =
    clock_line text nodes events (get_or hops k (record { event = 0; message = 0; took = pos 0 }))

-- the lines of the first of them
abbrev pub shown_clock_lines : List ℕ → List (List ℕ) → List Event → List ClockHop → List CycleLine
shown_clock_lines text nodes events hops =
    map (clock_line_at text nodes events hops) (range_with_len 0 (min (length hops) MAX_SHOWN))

-- the lines of a cycle: of its first messages, how many more there are, and how long all take together
abbrev pub cycle_lines : List ℕ → List (List ℕ) → List Event → ClockCycle → List CycleLine
cycle_lines text nodes events cycle =
    (shown_clock_lines text nodes events cycle.hops.items ++ line.More (length cycle.hops.items - MAX_SHOWN) ∷ [])
    ++ line.Together cycle.total ∷ []

-- the same; none if there is no cycle
abbrev pub clock_lines : List ℕ → List (List ℕ) → List Event → Option ClockCycle → List CycleLine
clock_lines text nodes events None = []
clock_lines text nodes events (Some cycle) = cycle_lines text nodes events cycle
