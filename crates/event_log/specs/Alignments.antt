-- Logs whose clocks are aligned, and why they aren't.
use Rattle.std.specs.Prelude.{ℕ, ◌*◌, ◌≡◌, ℤ, pos, Bool, true, false, List, map, Option, Some, None, ◌⊎◌, IfSome}
use Rattle.std.specs.Prelude.{MatchBool, ⊤}
use Rattle.timed_events.specs.declared.events.Event.{Event}
use Rattle.timed_events.specs.Checks.{first_fault}
use Rattle.clock_offsets.specs.EventNeeds.{AreClockOffsets, AreInOrder}
use Rattle.clock_offsets.specs.MovedClocks.{IsTooLate, moved_event}
use Rattle.event_log.specs.declared.times.TimeKind.{TimeKind}
use Rattle.event_log.specs.declared.times.TimeKind.TheVariants as kind
use Rattle.event_log.specs.Times.{nanoseconds_in}
use Rattle.timed_events.specs.declared.events.EventError.{EventError}
use Rattle.event_log.specs.declared.refusals.LogError.{LogError}
use Rattle.event_log.specs.declared.refusals.LogError.TheVariants.{NoOffsets, TooLate}
use Rattle.clock_offsets.specs.declared.clock_cycles.ClockCycle.{ClockCycle}
use Rattle.clock_offsets.specs.ClockCycles.{IsClockCycle}
use Rattle.event_log.specs.ClockLines.{clock_lines}
use Rattle.event_log.specs.Naming.{is_memory}
use Rattle.event_log.specs.EventRefusals.{IsErrorOf}

-- the latest time of a kind: the greatest number of 64 bits, in its unit or as seconds with nine decimals, and the last
-- time stamp that is read
abbrev pub latest_in : TimeKind → ℤ
latest_in kind.Number = pos 18446744073709551615
latest_in (kind.Whole unit) = pos (18446744073709551615 * nanoseconds_in unit)
latest_in kind.Decimal = pos 18446744073709551615999999999
latest_in kind.Stamp = pos 253402207200999999999
latest_in kind.Local = pos 253402207200999999999

-- Nothing is against the messages of the events. The offsets are the least that bring them into order, and each event
-- is moved by that of its node's clock, by which none comes later than the latest time of its kind.
pub record IsAligned (kind : TimeKind) (n : ℕ) (events : List Event) (offsets : List ℤ)
    (moved : List Event) : Type 0 where
  pub passed : first_fault events ≡ None
  pub least : AreClockOffsets n events offsets
  pub in_time : ¬ IsTooLate events offsets (latest_in kind)
  pub moved_are : moved ≡ map (moved_event offsets) events

-- the events with their clocks aligned, if that is asked for
abbrev pub AreAligned : Bool → TimeKind → ℕ → List Event → Option (List ℤ) → List Event → Type 0
AreAligned false kind n events offsets moved = (offsets ≡ None) × (moved ≡ events)
AreAligned true kind n events None moved = ⊥
AreAligned true kind n events (Some offsets) moved = IsAligned kind n events offsets moved

-- no offsets bring the messages into order, which a cycle of clocks shows, if one is reported
pub record HaveNoOffsets (text : List ℕ) (nodes : List (List ℕ)) (events : List Event) (why : LogError) : Type 0 where
  pub none : (y : ℕ → ℤ) → ¬ AreInOrder events y
  pub cycle : Option ClockCycle
  pub sound : IfSome cycle (λ c. IsClockCycle events c)
  pub is : why ≡ NoOffsets (clock_lines text nodes events cycle)

-- why the clocks of events aren't aligned: the first reason against their messages; or no offsets bring these into
-- order; or times would be too late
abbrev pub IsUnalignedFor : List ℕ → List (List ℕ) → List Event → LogError → Type 0
IsUnalignedFor text nodes events why =
    ((reason : EventError) × (first_fault events ≡ Some reason) × IsErrorOf text nodes events reason why)
    ⊎ (((first_fault events ≡ None) × HaveNoOffsets text nodes events why)
    ⊎ ((first_fault events ≡ None) × (why ≡ TooLate)))

-- the same, or out of memory
abbrev pub IsAlignRefusal : List ℕ → List (List ℕ) → List Event → LogError → Type 0
IsAlignRefusal text nodes events why = MatchBool (is_memory why) ⊤ (IsUnalignedFor text nodes events why)
