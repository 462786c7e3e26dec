-- Logs read as traces.
use Rattle.std.specs.Prelude.{ℕ, ◌≡◌, ◌⊎◌, Bool, List, map, length, Option, Ok, Err, ℤ, true, MatchBool, ⊤}
use Rattle.timed_events.specs.declared.events.Event.{Event}
use Rattle.timed_events.specs.declared.events.Clock.{Clock}
use Rattle.timed_events.specs.Lateness.{lateness_of}
use Rattle.timed_events.specs.Times.{least_time}
use Rattle.timed_events.specs.declared.idle_traces.IdleError.{IdleError}
use Rattle.timed_events.specs.declared.spread_traces.Moved.{Moved}
use Rattle.event_log.specs.declared.imports.Import.{Import}
use Rattle.event_log.specs.declared.options.Options.{Options}
use Rattle.event_log.specs.declared.refusals.LogError.{LogError}
use Rattle.event_log.specs.declared.refusals.LogError.TheVariants.{Memory}
use Rattle.event_log.specs.Alignments.{AreAligned, IsUnalignedFor}
use Rattle.event_log.specs.Events.{seen}
use Rattle.event_log.specs.Logs.{SeenLog}
use Rattle.event_log.specs.Naming.{is_memory}
use Rattle.event_log.specs.TickClocks.{clock_in}
use Rattle.event_log.specs.IdleLimits.{limit_in}
use Rattle.event_log.specs.ReadLogs.{IsRead}
use Rattle.event_log.specs.LogTraces.{IsMadeBy, ArePlacedBy, IsUnmadeFor}
use Rattle.event_log.specs.TakenEvents.{AreTaken, kept_count, removed_by, IsEmptied, IsUnmergedOf}
use Rattle.event_log.specs.LogPlaces.{moved_in}
use Rattle.event_log.specs.LeftRefusals.{IsLeftErrorOf}

-- events and a clock, which a text and options give
pub record AreEventsOf (o : Options) (text : List ℕ) (log : SeenLog) (events : List Event)
    (clock : Clock) : Type 0 where
  pub read : IsRead o text (Ok log)
  pub same : map seen events ≡ log.events
  pub fits : clock_in o log.kind ≡ Ok clock

-- The nodes and the events of the log of a text, with aligned clocks if that is asked for.
pub record IsAlignedLogOf (o : Options) (text : List ℕ) (nodes : List (List ℕ)) (aligned : List Event) : Type 0 where
  pub log : SeenLog
  pub events : List Event
  pub read : IsRead o text (Ok log)
  pub same : map seen events ≡ log.events
  pub offsets : Option (List ℤ)
  pub clocks : AreAligned o.align log.kind (length log.nodes) events offsets aligned
  pub nodes_are : nodes ≡ log.nodes

-- The trace is that of the events of a log, without lost sends if these are left out, and with
-- merged receives if that is asked for. How far they moved is reported by their places in the log.
pub record IsMadeOfLog (drop merge : Bool) (limit : Option ℕ) (spread : Bool) (n : ℕ) (events : List Event)
    (clock : Clock) (import : Import) : Type 0 where
  pub left : List Event
  pub left_at : Option (List ℕ)
  pub parts : Option (List (List ℕ))
  pub are_left : AreTaken drop merge events clock left left_at parts
  pub moved : Moved
  pub made : IsMadeBy limit spread n left clock import.trace moved import.idle
  pub moved_is : import.moved ≡ moved_in left_at moved
  pub lost : import.lost ≡ removed_by drop (length events) (kept_count drop events)
  pub merged : import.merged ≡ removed_by merge (kept_count drop events) (length left)

-- The trace is that of the events that the text gives by the options, with aligned clocks, without lost sends and with
-- merged receives, if these are asked for. The nodes are the processors, in their order. So many messages of the events
-- are late.
pub record IsImportOf (o : Options) (text : List ℕ) (import : Import) : Type 0 where
  pub log : SeenLog
  pub events : List Event
  pub clock : Clock
  pub told : AreEventsOf o text log events clock
  pub aligned : List Event
  pub clocks : AreAligned o.align log.kind (length log.nodes) events import.offsets aligned
  pub limit : Option ℕ
  pub fits_idle : limit_in o log.kind clock ≡ Ok limit
  pub made : IsMadeOfLog o.drop_lost o.merge limit o.spread (length log.nodes) aligned clock import
  pub nodes : import.nodes ≡ log.nodes
  pub lateness : import.lateness ≡ lateness_of aligned

-- The import is that of a log's events. `filled` has those that are left, so many, in the order of
-- their records, and behind them the receives of nothing that were added. The events are at the
-- places `left_at` of the log, or made of those at the places `parts`. Tick 1 begins at the time
-- `first`, and the steps are those of the list at these places. The parts are known if a table has to
-- tell them.
pub record IsPlacedOfLog (told drop merge : Bool) (limit : Option ℕ) (spread : Bool) (n : ℕ) (events : List Event)
    (clock : Clock) (import : Import) (filled : List Event) (logged : ℕ) (left_at : Option (List ℕ))
    (parts : Option (List (List ℕ))) (first : ℤ) (places : List ℕ) : Type 0 where
  pub is : IsMadeOfLog drop merge limit spread n events clock import
  pub so_many : logged ≡ length is.left
  pub at : left_at ≡ is.left_at
  pub parts_are : told ≡ true → parts ≡ is.parts
  pub begins : first ≡ least_time is.left
  pub placed : ArePlacedBy limit spread n is.left clock filled places

-- The import is that of the text by the options, and its events are placed so.
pub record IsPlacedImport (told : Bool) (o : Options) (text : List ℕ) (import : Import) (filled : List Event)
    (logged : ℕ) (left_at : Option (List ℕ)) (parts : Option (List (List ℕ))) (first : ℤ) (clock : Clock)
    (places : List ℕ) : Type 0 where
  pub is : IsImportOf o text import
  pub clock_is : is.clock ≡ clock
  pub so_many : logged ≡ length is.made.left
  pub at : left_at ≡ is.made.left_at
  pub parts_are : told ≡ true → parts ≡ is.made.parts
  pub begins : first ≡ least_time is.made.left
  pub placed : ArePlacedBy is.limit o.spread (length is.log.nodes) is.made.left clock filled places

-- the events are read, and an option doesn't fit their times
pub record IsUnfit (o : Options) (text : List ℕ) (why : LogError) : Type 0 where
  pub log : SeenLog
  pub read : IsRead o text (Ok log)
  pub unfit : (clock_in o log.kind ≡ Err why)
      ⊎ ((clock : Clock) × (clock_in o log.kind ≡ Ok clock) × (limit_in o log.kind clock ≡ Err why))

-- there is a reason against those of a log's events that are left
pub record IsUntimedOf (drop merge : Bool) (limit : Option ℕ) (spread : Bool) (text : List ℕ) (nodes : List (List ℕ))
    (events : List Event) (clock : Clock) (why : LogError) : Type 0 where
  pub left : List Event
  pub left_at : Option (List ℕ)
  pub parts : Option (List (List ℕ))
  pub are_left : AreTaken drop merge events clock left left_at parts
  pub reason : IdleError
  pub untimed : IsUnmadeFor limit spread (length nodes) left clock reason
  pub is : IsLeftErrorOf text nodes events left left_at parts reason why

-- why the events of a log make no trace
abbrev pub IsUnmadeOfLog : Bool → Bool → Option ℕ → Bool → List ℕ → List (List ℕ) → List Event → Clock
    → LogError → Type 0
IsUnmadeOfLog drop merge limit spread text nodes events clock why =
    IsEmptied drop events why
    ⊎ (IsUnmergedOf drop merge events clock why ⊎ IsUntimedOf drop merge limit spread text nodes events clock why)

-- the same, or out of memory
abbrev pub IsUnmadeUnlessMemory : Bool → Bool → Option ℕ → Bool → List ℕ → List (List ℕ) → List Event → Clock
    → LogError → Type 0
IsUnmadeUnlessMemory drop merge limit spread text nodes events clock why =
    MatchBool (is_memory why) ⊤ (IsUnmadeOfLog drop merge limit spread text nodes events clock why)

-- the events are read, and they make no trace
pub record IsUntimed (o : Options) (text : List ℕ) (why : LogError) : Type 0 where
  pub log : SeenLog
  pub events : List Event
  pub clock : Clock
  pub told : AreEventsOf o text log events clock
  pub offsets : Option (List ℤ)
  pub aligned : List Event
  pub clocks : AreAligned o.align log.kind (length log.nodes) events offsets aligned
  pub limit : Option ℕ
  pub fits_idle : limit_in o log.kind clock ≡ Ok limit
  pub unmade : IsUnmadeOfLog o.drop_lost o.merge limit o.spread text log.nodes aligned clock why

-- the events are read, all options fit their times, and their clocks aren't aligned, though that is asked for
pub record IsUnaligned (o : Options) (text : List ℕ) (why : LogError) : Type 0 where
  pub log : SeenLog
  pub events : List Event
  pub clock : Clock
  pub told : AreEventsOf o text log events clock
  pub limit : Option ℕ
  pub fits_idle : limit_in o log.kind clock ≡ Ok limit
  pub asked : o.align ≡ true
  pub unaligned : IsUnalignedFor text log.nodes events why

-- why there is no trace: the first refusal of the text, else of the options by its times, else of its clocks, else of
-- its events; or out of memory
abbrev pub IsLogRefusal : Options → List ℕ → LogError → Type 0
IsLogRefusal o text Memory = ⊤
IsLogRefusal o text why = IsRead o text (Err why)
    ⊎ (IsUnfit o text why ⊎ (IsUnaligned o text why ⊎ IsUntimed o text why))
