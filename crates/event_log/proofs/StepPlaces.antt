-- The places of the steps of a trace of events.
use Rattle.std.proofs.Common.{ℕ, ◌≡◌, ◌∙◌, ℤ, Bool, true, List, Option, ap, ap₂, length, refl, subst, sym}
use Rattle.std.proofs.lemmas.Slice.Zip.{AllZip-long}
use Rattle.timed_events.specs.declared.events.Clock.{Clock}
use Rattle.timed_events.specs.declared.events.Event.{Event}
use Rattle.timed_events.specs.declared.idle_traces.IdleTrace.{IdleTrace}
use Rattle.timed_events.specs.declared.spread_traces.TimedTrace.{TimedTrace}
use Rattle.timed_events.specs.IdleTraces.{AreFilledPlaces, IsIdleTimed}
use Rattle.timed_events.specs.Spreads.{AreStepPlaces, HasStepsAt, IsTimed}
use Rattle.timed_events.specs.TimedTraces.{IsStepAt}
use Rattle.timed_events.proofs.OneIdle.{steps-filled}
use Rattle.timed_events.proofs.OneSpread.{steps-placed}
use Rattle.step_trace.specs.Traces.{Recorded}
use Rattle.event_log.specs.declared.imports.Import.{Import}
use Rattle.event_log.specs.declared.options.Options.{Options}
use Rattle.event_log.specs.Imports.{IsPlacedImport}
use Rattle.event_log.specs.LogTraces.{ArePlacedBy}
use Rattle.event_log.specs.StepTables.{IsTableOf, table_text}

-- there is one for each step
one-each : (n : ℕ) (events : List Event) (places : List ℕ) (trace : Recorded)
    → HasStepsAt n events places trace → length places ≡ length trace.steps
one-each n events places trace h = sym (AllZip-long (IsStepAt events h.numbers) places trace.steps h.has.steps)

pub places-long : (spread : Bool) (n : ℕ) (events : List Event) (clock : Clock) (timed : TimedTrace) (places : List ℕ)
    → IsTimed spread n events clock timed → AreStepPlaces spread events clock places
    → length places ≡ length timed.trace.steps
places-long spread n events clock timed places t p =
    one-each n events places timed.trace (steps-placed spread n events clock timed places t p)

pub filled-long : (spread : Bool) (n : ℕ) (events : List Event) (clock : Clock) (limit : ℕ) (timed : IdleTrace)
    (filled : List Event) (places : List ℕ) → IsIdleTimed spread n events clock limit timed filled
    → AreFilledPlaces spread n events clock limit filled places → length places ≡ length timed.trace.steps
filled-long spread n events clock limit timed filled places t p =
    one-each n filled places timed.trace (steps-filled spread n events clock limit timed filled places t p)

-- the table of an import whose events, clock and places are known
pub table-made : (o : Options) (text : List ℕ) (import : Import) (filled : List Event) (logged : ℕ)
    (left_at : Option (List ℕ)) (parts : Option (List (List ℕ))) (first : ℤ) (clock : Clock) (places table : List ℕ)
    → IsPlacedImport true o text import filled logged left_at parts first clock places
    → table ≡ table_text text import.nodes filled logged left_at parts first clock.width import.trace.ticks places
    → IsTableOf o text import table
table-made o text import filled logged left_at parts first clock places table h e = record {
  is = h.is;
  filled = filled;
  places = places;
  placed = subst (λ (c : Clock). ArePlacedBy h.is.limit o.spread (length h.is.log.nodes) h.is.made.left c filled places)
      (sym h.clock_is) h.placed;
  written = e ∙ ap₂ (λ (n : ℕ) (at : Option (List ℕ)).
      table_text text import.nodes filled n at parts first clock.width import.trace.ticks places) h.so_many h.at
      ∙ ap (λ (ps : Option (List (List ℕ))). table_text text import.nodes filled (length h.is.made.left) h.is.made.left_at
      ps first clock.width import.trace.ticks places) (h.parts_are refl) ∙ ap₂ (λ (z : ℤ) (c : Clock). table_text text import.nodes filled
      (length h.is.made.left) h.is.made.left_at h.is.made.parts z c.width import.trace.ticks places) h.begins (sym h.clock_is);
}
