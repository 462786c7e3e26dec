-- Messages that go round a cycle of clocks in less time than any clocks allow (own).
use Rattle.std.specs.Prelude.{ℕ, ◌≡◌, ◌≤◌, All, List, [], ◌∷◌, length, fold, pos}
use Rattle.std.proofs.Common.{ℤ, ◌+ℤ◌, ◌-ℤ◌, ◌<ℤ◌}
use Rattle.timed_events.specs.declared.events.Event.{Event}
use Rattle.timed_events.specs.Causes.{IsSentTo}
use Rattle.timed_events.specs.Checks.{time_at}
use Rattle.clock_offsets.specs.declared.clock_cycles.ClockCycle.{ClockCycle}
use Rattle.clock_offsets.specs.declared.clock_cycles.ClockHop.{ClockHop}
use Rattle.clock_offsets.specs.EventNeeds.{clock_at}

-- an event received a message from this clock, which took so long by the times
pub record IsClockHop (events : List Event) (from : ℕ) (hop : ClockHop) : Type 0 where
  pub sent : clock_at events hop.message ≡ from
  pub taken : IsSentTo events hop.event hop.message
  pub took : hop.took ≡ time_at events hop.event -ℤ time_at events hop.message

-- messages lead from one clock to another: each is sent from the clock to which the one before it went
abbrev pub LeadFrom : List Event → ℕ → List ClockHop → ℕ → Type 0
LeadFrom events from [] to = from ≡ to
LeadFrom events from (hop ∷ hops) to = IsClockHop events from hop × LeadFrom events (clock_at events hop.event) hops to

-- how long messages took together
abbrev pub took_together : List ClockHop → ℤ
took_together hops = fold (λ total hop. total +ℤ hop.took) (pos 0) hops

-- of the events that received messages the first is the one at the least place
abbrev pub BeginAtFirst : List ClockHop → Type 0
BeginAtFirst [] = Unit {0}
BeginAtFirst (first ∷ hops) = All (λ hop. first.event ≤ hop.event) hops

-- The messages lead from a clock back to it, begun at the first of their events, and took together
-- less than one unit each. So no offsets of clocks bring them into order: what one clock gains
-- another loses.
pub record IsClockCycle (events : List Event) (cycle : ClockCycle) : Type 0 where
  pub clock : ℕ
  pub round : LeadFrom events clock cycle.hops.items clock
  pub first : BeginAtFirst cycle.hops.items
  pub total : cycle.total ≡ took_together cycle.hops.items
  pub short : cycle.total <ℤ pos (length cycle.hops.items)
