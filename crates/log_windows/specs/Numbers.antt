-- What is told about a window, by the records of the whole log.
use Rattle.std.specs.Prelude.{ℕ, ◌+◌, ◌-◌, List, map, option_map, Some}
use Rattle.event_log.specs.declared.cycle_lines.CycleLine.{CycleLine}
use Rattle.event_log.specs.declared.cycle_lines.CycleLine.TheVariants as line
use Rattle.event_log.specs.declared.imports.Import.{Import}
use Rattle.event_log.specs.declared.refusals.LogError.{LogError}
use Rattle.event_log.specs.declared.refusals.LogError.TheVariants.{BadFields, BadTime, BadEvent, BadNode, BadMessage}
use Rattle.event_log.specs.declared.refusals.LogError.TheVariants.{TooManyNodes, SentBefore, NeverSent, WrongReceiver}
use Rattle.event_log.specs.declared.refusals.LogError.TheVariants.{ReceivedBefore, NotLater, SecondEvent, Cycle}
use Rattle.event_log.specs.declared.refusals.LogError.TheVariants.{NoOffsets}
use Rattle.timed_events.specs.declared.lateness.LateMessage.{LateMessage}
use Rattle.timed_events.specs.declared.lateness.Lateness.{Lateness}
use Rattle.event_log.specs.LogPlaces.{moved_in, place_in}

-- the number in the log of the record of the window that has this number; an event at place i is in record i + 2
abbrev pub number_in : List ℕ → ℕ → ℕ
number_in places n = place_in places (n - 2) + 2

-- a line of a cycle by the records of the log
abbrev pub line_in : List ℕ → CycleLine → CycleLine
line_in places (line.Hop number node message sender sent after) =
    line.Hop (number_in places number) node message sender (number_in places sent) (number_in places after)
line_in places (line.Clock number message sender receiver took sent) =
    line.Clock (number_in places number) message sender receiver took (number_in places sent)
line_in places other = other

-- the lines of a cycle by the records of the log
abbrev pub lines_in : List ℕ → List CycleLine → List CycleLine
lines_in places lines = map (line_in places) lines

-- a refusal of the window by the records of the log
abbrev pub refusal_in : List ℕ → LogError → LogError
refusal_in places (BadFields n) = BadFields (number_in places n)
refusal_in places (BadTime n) = BadTime (number_in places n)
refusal_in places (BadEvent n) = BadEvent (number_in places n)
refusal_in places (BadNode n name) = BadNode (number_in places n) name
refusal_in places (BadMessage n) = BadMessage (number_in places n)
refusal_in places (TooManyNodes n) = TooManyNodes (number_in places n)
refusal_in places (SentBefore n name) = SentBefore (number_in places n) name
refusal_in places (NeverSent n name) = NeverSent (number_in places n) name
refusal_in places (WrongReceiver n name node) = WrongReceiver (number_in places n) name node
refusal_in places (ReceivedBefore n name) = ReceivedBefore (number_in places n) name
refusal_in places (NotLater n name hint) = NotLater (number_in places n) name hint
refusal_in places (SecondEvent n node tick hint) = SecondEvent (number_in places n) node tick hint
refusal_in places (Cycle n lines) = Cycle (number_in places n) (lines_in places lines)
refusal_in places (NoOffsets lines) = NoOffsets (lines_in places lines)
refusal_in places why = why

-- a late message by the places of its events in the log
abbrev pub late_in : List ℕ → LateMessage → LateMessage
late_in places late =
    record { event = place_in places late.event; message = place_in places late.message; by = late.by }

abbrev pub lateness_in : List ℕ → Lateness → Lateness
lateness_in places lateness =
    record { messages = lateness.messages; worst = option_map (late_in places) lateness.worst }

-- an import of the window by the records of the log
abbrev pub import_in : List ℕ → Import → Import
import_in places import =
    record import { moved = moved_in (Some places) import.moved; lateness = lateness_in places import.lateness }
