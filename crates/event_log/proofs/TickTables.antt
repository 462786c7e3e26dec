-- What an import with ticks of a length says, by the row of the length.
use Rattle.std.proofs.Common.{ℕ, ◌≡◌, ◌≢◌, ◌∙◌, ◌<◌, ℤ, Bool, true, false, List, length, Option, Some, None, Result, Ok, Err, inr, refl, sym, ap, subst, arith}
use Rattle.std.specs.Prelude.{MatchBool, ⊤, map, nat_lt}
use Rattle.std.specs.List.{All}
use Rattle.std.proofs.lemmas.Bool.Decides.{nat_tests}
use Rattle.step_trace.specs.Traces.{Recorded}
use Rattle.timed_events.specs.declared.events.Clock.{Clock}
use Rattle.timed_events.specs.declared.events.Event.{Event}
use Rattle.timed_events.specs.declared.events.EventError.{EventError}
use Rattle.timed_events.specs.declared.events.EventError.TheVariants as refused
use Rattle.timed_events.specs.declared.idle_traces.IdleError.TheVariants as filled
use Rattle.timed_events.specs.declared.spread_traces.Moved.{Moved}
use Rattle.timed_events.specs.Lateness.{lateness_of}
use Rattle.timed_events.specs.Spreads.{IsTimedRefusal}
use Rattle.event_log.specs.declared.alignments.AlignedLog.{AlignedLog}
use Rattle.event_log.specs.declared.imports.Import.{Import}
use Rattle.event_log.specs.declared.options.Options.{Options}
use Rattle.event_log.specs.declared.refusals.LogError.{LogError}
use Rattle.event_log.specs.declared.refusals.LogError.TheVariants.{TooManyTicks}
use Rattle.event_log.specs.declared.tick_rows.Placing.{Placing}
use Rattle.event_log.specs.declared.tick_rows.TickRow.{TickRow}
use Rattle.event_log.specs.declared.times.TimeKind.{TimeKind}
use Rattle.event_log.specs.Alignments.{AreAligned}
use Rattle.event_log.specs.Events.{seen}
use Rattle.event_log.specs.EventRefusals.{IsIdleErrorUnlessMemory}
use Rattle.event_log.specs.Imports.{AreEventsOf, IsLogRefusal, IsUnmadeUnlessMemory}
use Rattle.event_log.specs.LeftRefusals.{IsLeftErrorOf, IsPlacedErrorUnlessMemory}
use Rattle.event_log.specs.LogPlaces.{moved_in}
use Rattle.event_log.specs.ReadLogs.{IsRead, IsReadRefusal}
use Rattle.event_log.specs.TakenEvents.{AreLeftBy, AreTaken, kept_count, removed_by}
use Rattle.event_log.specs.TickClocks.{clock_in, units_in, until_in}
use Rattle.event_log.specs.Logs.{SeenLog}
use Rattle.event_log.specs.Naming.{is_memory}
use Rattle.event_log.specs.TickRows.{AreNumbersOf, IsPlacedBy, IsPlacingOf, IsRowOf, IsRowRefusal, clock_of, log_length, told_widths}
use Rattle.event_log.specs.TickTables.{AreLogRows, IsImportPlacing, IsLogRowRefusal, IsTickRefusal, IsToldBy, with_width}
use Rattle.event_log.proofs.PlacedImports.{left-unmade, unmade-refusal, whole-unmade}
use Rattle.event_log.proofs.TickRows.{units-some}

-- the text is read the same
pub read-with : (o : Options) (text : List ℕ) (width : ℕ) (answer : Result SeenLog LogError)
    → IsRead o text answer → IsRead (with_width o width) text answer
read-with o text width answer r = record { listed = r.listed; same = r.same; staged = r.staged }

pub unread-with : (o : Options) (text : List ℕ) (width : ℕ) (why : LogError)
    → IsReadRefusal o text why → IsReadRefusal (with_width o width) text why
unread-with o text width why h = go (is_memory why) h where
  go : (t : Bool) → MatchBool t ⊤ (IsRead o text (Err why)) → MatchBool t ⊤ (IsRead (with_width o width) text (Err why))
  go true p = p
  go false p = read-with o text width (Err why) p

-- the length fits the times
above : (kind : TimeKind) (width : ℕ) → 0 < width → nat_lt 0 (units_in kind width) ≡ true
above kind width some = let h = units-some kind width some in grind (arith, nat_tests)

pub fits-with : (o : Options) (kind : TimeKind) (until : Option ℤ) (width : ℕ)
    → 0 < width → until_in kind o.until ≡ Ok until → clock_in (with_width o width) kind ≡ Ok (clock_of kind until width)
fits-with o kind until width some ends = rw (above kind width some, ends) refl

pub unfit-with : (o : Options) (kind : TimeKind) (width : ℕ) (why : LogError)
    → 0 < width → until_in kind o.until ≡ Err why → clock_in (with_width o width) kind ≡ Err why
unfit-with o kind width why some ends = rw (above kind width some, ends) refl

-- the events are taken the same, since none are merged
pub kept-taken : (drop : Bool) (events left : List Event) (clock : Clock) (left_at : Option (List ℕ))
    → AreLeftBy drop events left left_at → 0 < length left → AreTaken drop false events clock left left_at None
kept-taken drop events left clock left_at are some = record {
  kept = left;
  kept_at = left_at;
  are_kept = are;
  some = some;
  own_parts = None;
  are_merged = (refl, refl);
  parts_are = refl;
  at = refl;
}

pub taken-kept : (events left : List Event) (clock : Clock) (places : List ℕ) (parts : Option (List (List ℕ)))
    → AreTaken true false events clock left (Some places) parts → (at : Option (List ℕ)) × AreLeftBy true events left at
taken-kept events left clock places parts t =
    (t.kept_at, subst (λ (es : List Event). AreLeftBy true events es t.kept_at) (sym t.are_merged.0) t.are_kept)

-- and the same whatever the clock
pub taken-by : (events left : List Event) (places : List ℕ) (parts : Option (List (List ℕ))) (clock other : Clock)
    → AreTaken true false events clock left (Some places) parts
    → AreTaken true false events other left (Some places) parts
taken-by events left places parts clock other t = record {
  kept = t.kept;
  kept_at = t.kept_at;
  are_kept = t.are_kept;
  some = t.some;
  own_parts = t.own_parts;
  are_merged = t.are_merged;
  parts_are = t.parts_are;
  at = t.at;
}

-- too many ticks are the same reason by the places in the log
too-many : (text : List ℕ) (nodes : List (List ℕ)) (events left : List Event) (left_at : Option (List ℕ))
    → IsLeftErrorOf text nodes events left left_at None (filled.Events refused.TooManyTicks) TooManyTicks
too-many text nodes events left None = refl
too-many text nodes events left (Some places) = refl

-- by the places in the log as many moved as far
moved-events : (at : Option (List ℕ)) (moved : Moved) → (moved_in at moved).events ≡ moved.events
moved-events None moved = refl
moved-events (Some places) moved = refl

moved-ticks : (at : Option (List ℕ)) (moved : Moved) → (moved_in at moved).ticks ≡ moved.ticks
moved-ticks None moved = refl
moved-ticks (Some places) moved = refl

pub numbers-in : (events : List Event) (clock : Clock) (trace : Recorded) (moved : Moved) (places : List ℕ)
    (p : Placing) (at : Option (List ℕ)) → AreNumbersOf events clock trace moved places p
    → AreNumbersOf events clock trace (moved_in at moved) places p
numbers-in events clock trace moved places p at h = record {
  last = h.last;
  so_many = h.so_many;
  moved_are = h.moved_are ∙ sym (moved-events at moved);
  most = h.most ∙ sym (moved-ticks at moved);
  far = h.far;
}

module _ (o : Options) (text : List ℕ) (log : SeenLog) (events : List Event) (read : IsRead o text (Ok log))
    (same : map seen events ≡ log.events) (aligned : AlignedLog)
    (clocks : AreAligned o.align log.kind (length log.nodes) events aligned.offsets aligned.log.events.items)
    (nodes : aligned.log.nodes ≡ log.nodes) (until : Option ℤ) (ends : until_in log.kind o.until ≡ Ok until) where
  told-with : (width : ℕ) → 0 < width → AreEventsOf (with_width o width) text log events (clock_of log.kind until width)
  told-with width some =
      record { read = read-with o text width (Ok log) read; same = same; fits = fits-with o log.kind until width some ends }

  unmade-with : (width : ℕ) (some : 0 < width) (why : LogError)
      → IsUnmadeUnlessMemory o.drop_lost false None true text aligned.log.nodes aligned.log.events.items
      (clock_of log.kind until width) why → IsLogRefusal (with_width o width) text why
  unmade-with width some why = unmade-refusal (with_width o width) text log events
      (clock_of log.kind until width) (told-with width some) aligned clocks nodes None refl o.drop_lost false refl refl why

  pub rows-refused : (why : LogError) → IsLogRowRefusal o.drop_lost text aligned.log.nodes aligned.log.events.items log.kind until why
      → why ≢ TooManyTicks → IsTickRefusal o text why
  rows-refused why h other = (h.0, h.1, unmade-with h.0 h.1 why h.2, other)

  module _ (left : List Event) (left_at : Option (List ℕ)) (are : AreLeftBy o.drop_lost aligned.log.events.items left left_at)
      (there : 0 < length left) where
    too-far : (width : ℕ) → 0 < width → IsPlacedBy (length aligned.log.nodes) left (clock_of log.kind until width) None
        → IsLogRefusal (with_width o width) text TooManyTicks
    too-far width some h = unmade-with width some TooManyTicks (inr (inr (record {
      left = left;
      left_at = left_at;
      parts = None;
      are_left = kept-taken o.drop_lost aligned.log.events.items left (clock_of log.kind until width) left_at are there;
      reason = filled.Events refused.TooManyTicks;
      untimed = h;
      is = too-many text aligned.log.nodes aligned.log.events.items left left_at;
    })))

    abbrev import-of : Recorded → Moved → Import
    import-of trace moved = record {
      trace = trace;
      nodes = log.nodes;
      moved = moved_in left_at moved;
      lateness = lateness_of aligned.log.events.items;
      offsets = aligned.offsets;
      idle = None;
      lost = removed_by o.drop_lost (length aligned.log.events.items) (kept_count o.drop_lost aligned.log.events.items);
      merged = None;
    }

    placed : (width : ℕ) → 0 < width → (p : Placing)
        → IsPlacingOf (length log.nodes) left (clock_of log.kind until width) p → IsImportPlacing (with_width o width) text p
    placed width some p h =
        let clock = clock_of log.kind until width in
        record {
          import = import-of h.trace h.moved;
          is = record {
            log = log;
            events = events;
            clock = clock;
            told = told-with width some;
            aligned = aligned.log.events.items;
            clocks = clocks;
            limit = None;
            fits_idle = refl;
            made = record {
              left = left;
              left_at = left_at;
              parts = None;
              are_left = kept-taken o.drop_lost aligned.log.events.items left clock left_at are there;
              moved = h.moved;
              made = (h.timed, refl);
              moved_is = refl;
              lost = refl;
              merged = refl;
            };
            nodes = refl;
            lateness = refl;
          };
          places = h.places;
          placed = h.placed;
          numbers = numbers-in left clock h.trace h.moved h.places p left_at h.numbers;
        }

    pub row-told : (row : TickRow) → IsRowOf (length aligned.log.nodes) left log.kind until row
        → IsToldBy (with_width o row.width) text row.placing
    row-told row h = go row.placing h.1 where
      go : (placing : Option Placing) → IsPlacedBy (length aligned.log.nodes) left (clock_of log.kind until row.width) placing
          → IsToldBy (with_width o row.width) text placing
      go None far = too-far row.width h.0 far
      go (Some p) is = placed row.width h.0 p
          (subst (λ (ns : List (List ℕ)). IsPlacingOf (length ns) left (clock_of log.kind until row.width) p) nodes is)

-- the rows of the events of a log, by the same events and the same number of nodes
pub log-rows : (drop : Bool) (kind : TimeKind) (n m : ℕ) (events left xs : List Event) (left_at : Option (List ℕ))
    (until : Option ℤ) (rows : List TickRow) → m ≡ n → xs ≡ left → AreLeftBy drop events left left_at → 0 < length left
    → map (λ row. row.width) rows ≡ told_widths kind (log_length xs until) → All (IsRowOf m xs kind until) rows
    → AreLogRows drop kind n events until rows
log-rows drop kind n m events left xs left_at until rows number same are some widths each = record {
  left = left;
  left_at = left_at;
  are_left = are;
  some = some;
  widths = widths ∙ ap (λ (es : List Event). told_widths kind (log_length es until)) same;
  each = subst (λ k. All (IsRowOf k left kind until) rows) number
      (subst (λ (es : List Event). All (IsRowOf m es kind until) rows) same each);
}

-- a reason against all events of a log
pub whole-refused : (text : List ℕ) (nodes : List (List ℕ)) (events xs : List Event) (kind : TimeKind)
    (until : Option ℤ) (why : EventError) (error : LogError) → 0 < length events → xs ≡ events
    → IsRowRefusal xs kind until why → IsIdleErrorUnlessMemory text nodes events (filled.Events why) error
    → IsLogRowRefusal false text nodes events kind until error
whole-refused text nodes events xs kind until why error some same h is = (
  h.0,
  h.1,
  whole-unmade None true text nodes events (clock_of kind until h.0) (filled.Events why) error some
      (subst (λ (es : List Event). IsTimedRefusal true es (clock_of kind until h.0) why) same h.2) is,
)

-- a reason against those that are left
pub left-refused : (text : List ℕ) (nodes : List (List ℕ)) (events left xs : List Event) (places : List ℕ)
    (parts : Option (List (List ℕ))) (kind : TimeKind) (until : Option ℤ) (clock : Clock) (why : EventError)
    (error : LogError) → xs ≡ left → AreTaken true false events clock left (Some places) parts
    → IsRowRefusal xs kind until why → IsPlacedErrorUnlessMemory text nodes events left places parts
    (filled.Events why) error → IsLogRowRefusal true text nodes events kind until error
left-refused text nodes events left xs places parts kind until clock why error same t h is = (
  h.0,
  h.1,
  left-unmade true false None true text nodes events left places parts (clock_of kind until h.0)
      (filled.Events why) error (taken-by events left places parts clock (clock_of kind until h.0) t)
      (subst (λ (es : List Event). IsTimedRefusal true es (clock_of kind until h.0) why) same h.2) is,
)
