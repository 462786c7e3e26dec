-- Events whose clocks are moved (own).
use Rattle.std.specs.Prelude.{ℕ, ◌<◌, ◌-◌, List, length}
use Rattle.std.proofs.Common.{ℤ, ◌+ℤ◌, ◌<ℤ◌}
use Rattle.timed_events.specs.declared.events.Event.{Event}
use Rattle.timed_events.specs.Checks.{time_at}
use Rattle.clock_offsets.specs.EventNeeds.{clock_at, offset_in}

-- an event, by the clock of its processor once that is moved
abbrev pub moved_event : List ℤ → Event → Event
moved_event offsets e =
    record { time = e.time +ℤ offset_in offsets (e.processor - 1); processor = e.processor; act = e.act }

-- some event would come later than the latest time
abbrev pub IsTooLate : List Event → List ℤ → ℤ → Type 0
IsTooLate events offsets latest = (i : ℕ) × (i < length events)
    × (latest <ℤ (time_at events i +ℤ offset_in offsets (clock_at events i)))
