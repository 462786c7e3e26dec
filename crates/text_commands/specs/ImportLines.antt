-- What is reported about a log besides its trace: the notes on it.
use Rattle.std.specs.Prelude.{ℕ, ◌+◌, ◌-◌, List, [], ◌∷◌, ◌++◌, ◌==◌, if◌then◌else◌, length, codes, decimal}
use Rattle.std.specs.Prelude.{Bool, true, false, Option, Some, None, ℤ, pos, int_lt, slice_index_or, unsigned_abs}
use Rattle.std.specs.List.{flat_map, range_with_len}
use Rattle.timed_events.specs.declared.lateness.LateMessage.{LateMessage}
use Rattle.timed_events.specs.declared.lateness.Lateness.{Lateness}
use Rattle.timed_events.specs.declared.spread_traces.Moved.{Moved}
use Rattle.event_log.specs.declared.imports.IdleReceives.{IdleReceives}
use Rattle.event_log.specs.declared.imports.Import.{Import}
use Rattle.event_log.specs.declared.options.Options.{Options}
use Rattle.event_log.specs.ToldNames.{node_name}
use Rattle.event_log.specs.RefusalTexts.{printed}
use Rattle.text_commands.specs.TimeWords.{are_nanoseconds, time_words}

-- the line that says which node the processor of this number is
abbrev pub node_line : ℕ → List ℕ → List ℕ
node_line number name = codes "synchrony: processor " ++ (decimal number ++ (codes " is " ++ (printed name ++ 10 ∷ [])))

-- the lines of so many processors, from the first on
abbrev pub node_lines : List (List ℕ) → ℕ → List ℕ
node_lines nodes count = flat_map (λ p. node_line p (node_name nodes p)) (range_with_len 1 count)

-- so many ticks
abbrev pub tick_words : ℕ → List ℕ
tick_words ticks = if ticks == 1 then codes "1 tick" else decimal ticks ++ codes " ticks"

-- how many ticks events moved at most, and the record of the first that did; nothing if none moved
abbrev pub distance_words : ℕ → Option ℕ → List ℕ
distance_words ticks None = []
distance_words ticks (Some place) = codes ", by at most "
    ++ (tick_words ticks ++ (codes " (record " ++ (decimal (place + 2) ++ codes ")")))

-- the line that says how many of so many events moved, and how far
abbrev pub moved_line : ℕ → Moved → List ℕ
moved_line count moved =
    codes "synchrony: "
    ++ (decimal moved.events
    ++ (codes " of "
    ++ (decimal count
    ++ (codes " events moved" ++ (distance_words moved.ticks moved.farthest ++ 10 ∷ [])))))

-- the nodes, if they weren't listed
abbrev pub node_notes : Option (List (List ℕ)) → List (List ℕ) → List ℕ
node_notes None nodes = node_lines nodes (length nodes)
node_notes (Some listed) nodes = []

-- so many messages that are received no later than they are sent
abbrev pub late_count_words : ℕ → List ℕ
late_count_words messages =
    if messages == 1 then codes "1 message is received no later than it is sent"
    else decimal messages ++ codes " messages are received no later than they are sent"

-- the lines about messages that are received no later than they are sent: how many, by how much the worst, which is so
-- many nanoseconds or a number alone, in which record, which record sends it, and what may help
abbrev pub named_late_lines : Bool → ℕ → ℕ → ℕ → ℕ → List ℕ
named_late_lines nanoseconds messages by number sent =
    codes "synchrony: "
    ++ (late_count_words messages
    ++ (codes ", by the clocks; most by " ++ (time_words nanoseconds by ++ (codes " in record " ++ (decimal number
    ++ (codes ", which record "
    ++ (decimal sent
    ++ (codes " sends" ++ 10
    ∷ (codes "synchrony: --align moves the clocks of nodes, and may bring most of them into order"
    ++ 10 ∷ [])))))))))

-- the same of so many messages and the worst of them; nothing if there are none
abbrev pub late_lines : Bool → ℕ → Option LateMessage → List ℕ
late_lines nanoseconds messages None = []
late_lines nanoseconds messages (Some worst) =
    named_late_lines nanoseconds messages worst.by (worst.event + 2) (worst.message + 2)

-- how far events moved, if they might, and then which messages are late
abbrev pub moved_notes : Bool → Bool → ℕ → Moved → Lateness → List ℕ
moved_notes nanoseconds true count moved lateness =
    moved_line count moved ++ late_lines nanoseconds lateness.messages lateness.worst
moved_notes nanoseconds false count moved lateness = []

-- the line that says by how much the clock of a node moved: so many nanoseconds, or a number alone
abbrev pub clock_line : Bool → List ℕ → ℕ → List ℕ
clock_line nanoseconds name offset = codes "synchrony: the clock of "
    ++ (printed name ++ (codes " moved by " ++ (time_words nanoseconds offset ++ 10 ∷ [])))

-- the same of the node at a place, counted from 0, if its clock moved
abbrev pub clock_line_at : Bool → List (List ℕ) → List ℤ → ℕ → List ℕ
clock_line_at nanoseconds nodes offsets place =
    if int_lt (pos 0) (slice_index_or offsets place (pos 0)) then clock_line nanoseconds (slice_index_or nodes place [])
    (unsigned_abs (slice_index_or offsets place (pos 0))) else []

-- the lines of so many nodes
abbrev pub clock_lines : Bool → List (List ℕ) → List ℤ → ℕ → List ℕ
clock_lines nanoseconds nodes offsets count =
    flat_map (clock_line_at nanoseconds nodes offsets) (range_with_len 0 count)

-- by how much clocks moved, if they were to be aligned
abbrev pub clock_notes : Bool → List (List ℕ) → Option (List ℤ) → List ℕ
clock_notes nanoseconds nodes None = []
clock_notes nanoseconds nodes (Some offsets) = clock_lines nanoseconds nodes offsets (length nodes)

-- the line that says how many messages were never received, whose sends are left out
abbrev pub lost_line : ℕ → List ℕ
lost_line lost =
    if lost == 1 then codes "synchrony: 1 message was never received; its send is left out" ++ 10 ∷ []
    else codes "synchrony: "
    ++ (decimal lost ++ (codes " messages were never received; their sends are left out" ++ 10 ∷ []))

-- this line, if they are left out
abbrev pub lost_notes : Option ℕ → List ℕ
lost_notes None = []
lost_notes (Some lost) = lost_line lost

-- the line that says how many receives are merged into others
abbrev pub merged_line : ℕ → List ℕ
merged_line merged =
    if merged == 1 then codes "synchrony: 1 receive is merged into another" ++ 10 ∷ []
    else codes "synchrony: " ++ (decimal merged ++ (codes " receives are merged into others" ++ 10 ∷ []))

-- this line, if they are merged
abbrev pub merged_notes : Option ℕ → List ℕ
merged_notes None = []
merged_notes (Some merged) = merged_line merged

-- so many receives of nothing
abbrev pub receives_words : ℕ → List ℕ
receives_words count = if count == 1 then codes "1 receive of nothing" else decimal count
    ++ codes " receives of nothing"

-- the line that says how many receives of nothing were added, and in which silences
abbrev pub idle_line : ℕ → ℕ → List ℕ
idle_line count limit =
    codes "synchrony: "
    ++ (receives_words count ++ (codes " added, in silences of at most " ++ (tick_words limit ++ 10 ∷ [])))

-- this line, if silences get such receives
abbrev pub idle_notes : Option IdleReceives → List ℕ
idle_notes None = []
idle_notes (Some idle) = idle_line idle.count idle.limit

-- how many of so many steps are events of a log
abbrev pub event_count : ℕ → Option IdleReceives → ℕ
event_count steps None = steps
event_count steps (Some idle) = steps - idle.count

-- the notes on a log that was read as a trace
abbrev pub notes_of : Options → Import → List ℕ
notes_of o import = node_notes o.nodes import.nodes
    ++ (clock_notes (are_nanoseconds o) import.nodes import.offsets
    ++ (lost_notes import.lost
    ++ (merged_notes import.merged
    ++ (moved_notes (are_nanoseconds o) o.spread (event_count (length import.trace.steps) import.idle) import.moved
    import.lateness
    ++ idle_notes import.idle))))
