-- The import of a text from that of its events, and why there is none.
use Rattle.std.proofs.Common.{ℕ, ◌≡◌, ◌∙◌, ◌<◌, ℤ, Bool, false, List, length, Option, Some, None, Ok, ◌⊎◌, inl, inr, refl, sym, subst}
use Rattle.std.specs.Prelude.{MatchBool, ⊤}
use Rattle.trace_text.proofs.TakenRecords.{unless}
use Rattle.timed_events.specs.declared.events.Event.{Event}
use Rattle.timed_events.specs.declared.events.Clock.{Clock}
use Rattle.timed_events.specs.declared.idle_traces.IdleError.{IdleError}
use Rattle.timed_events.specs.declared.lateness.Lateness.{Lateness}
use Rattle.timed_events.specs.Lateness.{lateness_of}
use Rattle.event_log.specs.declared.alignments.AlignedLog.{AlignedLog}
use Rattle.event_log.specs.declared.imports.Import.{Import}
use Rattle.event_log.specs.declared.options.Options.{Options}
use Rattle.event_log.specs.declared.refusals.LogError.{LogError}
use Rattle.event_log.specs.Alignments.{AreAligned}
use Rattle.event_log.specs.EventRefusals.{IsIdleErrorUnlessMemory}
use Rattle.event_log.specs.IdleLimits.{limit_in}
use Rattle.event_log.specs.Imports.{AreEventsOf, IsLogRefusal, IsPlacedImport, IsPlacedOfLog, IsUnmadeOfLog, IsUnmadeUnlessMemory}
use Rattle.event_log.specs.LeftRefusals.{IsPlacedErrorUnlessMemory}
use Rattle.event_log.specs.LogTraces.{IsUnmadeFor}
use Rattle.event_log.specs.TakenEvents.{AreTaken, IsEmptied, IsUnmergedOf}
use Rattle.event_log.specs.Logs.{SeenLog}
use Rattle.event_log.specs.Naming.{is_memory}
use Rattle.event_log.proofs.LogRefusals.{untimed-refusal}
use Rattle.event_log.proofs.TakenEvents.{whole-taken}

-- a reason against all events of a log
pub whole-unmade : (limit : Option ℕ) (spread : Bool) (text : List ℕ) (nodes : List (List ℕ)) (events : List Event)
    (clock : Clock) (reason : IdleError) (why : LogError) → 0 < length events
    → IsUnmadeFor limit spread (length nodes) events clock reason → IsIdleErrorUnlessMemory text nodes events reason why
    → IsUnmadeUnlessMemory false false limit spread text nodes events clock why
whole-unmade limit spread text nodes events clock reason why some untimed =
    unless (is_memory why) _ (IsUnmadeOfLog false false limit spread text nodes events clock why) (λ is. inr (inr (record {
      left = events;
      left_at = None;
      parts = None;
      are_left = whole-taken events clock some;
      reason = reason;
      untimed = untimed;
      is = is;
    })))

-- a reason against those that are left
pub left-unmade : (drop merge : Bool) (limit : Option ℕ) (spread : Bool) (text : List ℕ) (nodes : List (List ℕ))
    (events left : List Event) (places : List ℕ) (parts : Option (List (List ℕ))) (clock : Clock) (reason : IdleError)
    (why : LogError) → AreTaken drop merge events clock left (Some places) parts
    → IsUnmadeFor limit spread (length nodes) left clock reason
    → IsPlacedErrorUnlessMemory text nodes events left places parts reason why
    → IsUnmadeUnlessMemory drop merge limit spread text nodes events clock why
left-unmade drop merge limit spread text nodes events left places parts clock reason why are untimed =
    unless (is_memory why) _ (IsUnmadeOfLog drop merge limit spread text nodes events clock why) (λ is. inr (inr (record {
      left = left;
      left_at = Some places;
      parts = parts;
      are_left = are;
      reason = reason;
      untimed = untimed;
      is = is;
    })))

-- none is left, or the times are refused before receives are merged
pub untaken-unmade : (drop merge : Bool) (limit : Option ℕ) (spread : Bool) (text : List ℕ) (nodes : List (List ℕ))
    (events : List Event) (clock : Clock) (why : LogError)
    → MatchBool (is_memory why) ⊤ (IsEmptied drop events why ⊎ IsUnmergedOf drop merge events clock why)
    → IsUnmadeUnlessMemory drop merge limit spread text nodes events clock why
untaken-unmade drop merge limit spread text nodes events clock why =
    unless (is_memory why) _ (IsUnmadeOfLog drop merge limit spread text nodes events clock why) go where
      go : IsEmptied drop events why ⊎ IsUnmergedOf drop merge events clock why
          → IsUnmadeOfLog drop merge limit spread text nodes events clock why
      go (inl none) = inl none
      go (inr refused) = inr (inl refused)

module _ (o : Options) (text : List ℕ) (log : SeenLog) (events : List Event) (clock : Clock)
    (told : AreEventsOf o text log events clock) (aligned : AlignedLog)
    (clocks : AreAligned o.align log.kind (length log.nodes) events aligned.offsets aligned.log.events.items)
    (nodes : aligned.log.nodes ≡ log.nodes) (limit : Option ℕ) (fits : limit_in o log.kind clock ≡ Ok limit)
    (drop merge : Bool) (asked : o.drop_lost ≡ drop) (joined : o.merge ≡ merge) where
  pub placed-import : (table : Bool) (lateness : Lateness) → lateness ≡ lateness_of aligned.log.events.items
      → (import : Import) (filled : List Event) (logged : ℕ) (left_at : Option (List ℕ)) (parts : Option (List (List ℕ))) (first : ℤ)
      (ticks : Clock) (places : List ℕ) → IsPlacedOfLog table drop merge limit o.spread (length aligned.log.nodes) aligned.log.events.items
      clock import filled logged left_at parts first places → import.nodes ≡ aligned.log.nodes → import.offsets ≡ aligned.offsets
      → import.lateness ≡ lateness → ticks ≡ clock → IsPlacedImport table o text import filled logged left_at parts first ticks places
  placed-import table lateness late import filled logged left_at parts first ticks places h nodes_are offsets_are lateness_is clock_is =
      let is : IsPlacedOfLog table o.drop_lost o.merge limit o.spread
      (length log.nodes) aligned.log.events.items clock import filled logged left_at parts first places =
      subst (λ (d : Bool). IsPlacedOfLog table d o.merge limit o.spread
      (length log.nodes) aligned.log.events.items clock import filled logged left_at parts first places) (sym asked)
      (subst (λ (m : Bool). IsPlacedOfLog table drop m limit o.spread
      (length log.nodes) aligned.log.events.items clock import filled logged left_at parts first places) (sym joined)
      (subst (λ (ns : List (List ℕ)). IsPlacedOfLog table drop merge limit o.spread
      (length ns) aligned.log.events.items clock import filled logged left_at parts first places) nodes h)) in
      subst (λ (c : Clock). IsPlacedImport table o text import filled logged left_at parts first c places) (sym clock_is) (record {
        is = record {
          log = log;
          events = events;
          clock = clock;
          told = told;
          aligned = aligned.log.events.items;
          clocks = subst
              (λ (offsets : Option (List ℤ)). AreAligned o.align log.kind (length log.nodes) events offsets aligned.log.events.items)
              (sym offsets_are) clocks;
          limit = limit;
          fits_idle = fits;
          made = is.is;
          nodes = nodes_are ∙ nodes;
          lateness = lateness_is ∙ late;
        };
        clock_is = refl;
        so_many = is.so_many;
        at = is.at;
        parts_are = is.parts_are;
        begins = is.begins;
        placed = is.placed;
      })

  pub unmade-refusal : (why : LogError)
      → IsUnmadeUnlessMemory drop merge limit o.spread text aligned.log.nodes aligned.log.events.items clock why → IsLogRefusal o text why
  unmade-refusal why h = untimed-refusal o text why _ h (λ unmade. record {
    log = log;
    events = events;
    clock = clock;
    told = told;
    offsets = aligned.offsets;
    aligned = aligned.log.events.items;
    clocks = clocks;
    limit = limit;
    fits_idle = fits;
    unmade =
        subst (λ (d : Bool). IsUnmadeOfLog d o.merge limit o.spread text log.nodes aligned.log.events.items clock why) (sym asked)
        (subst (λ (m : Bool). IsUnmadeOfLog drop m limit o.spread text log.nodes aligned.log.events.items clock why) (sym joined)
        (subst (λ (ns : List (List ℕ)). IsUnmadeOfLog drop merge limit o.spread text ns aligned.log.events.items clock why) nodes unmade));
  })
