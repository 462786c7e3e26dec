-- The table of the lengths of a tick for a log: what an import says with each.
use Rattle.std.specs.Prelude.{ℕ, ◌≡◌, ◌≢◌, ◌<◌, ℤ, Bool, true, false, List, length, map, Option, Some, None, Ok}
use Rattle.std.specs.List.{All}
use Rattle.std.proofs.Common.{lit<}
use Rattle.timed_events.specs.declared.events.Event.{Event}
use Rattle.timed_events.specs.Spreads.{AreStepPlaces}
use Rattle.event_log.specs.declared.imports.Import.{Import}
use Rattle.event_log.specs.declared.options.Options.{Options}
use Rattle.event_log.specs.declared.refusals.LogError.{LogError}
use Rattle.event_log.specs.declared.refusals.LogError.TheVariants.{TooManyTicks}
use Rattle.event_log.specs.declared.tick_rows.Placing.{Placing}
use Rattle.event_log.specs.declared.tick_rows.TickRow.{TickRow}
use Rattle.event_log.specs.declared.times.TimeKind.{TimeKind}
use Rattle.event_log.specs.declared.times.Width.TheVariants.{Units}
use Rattle.event_log.specs.Alignments.{AreAligned}
use Rattle.event_log.specs.Events.{seen}
use Rattle.event_log.specs.Imports.{IsImportOf, IsLogRefusal, IsUnmadeUnlessMemory}
use Rattle.event_log.specs.ReadLogs.{IsRead}
use Rattle.event_log.specs.TakenEvents.{AreLeftBy}
use Rattle.event_log.specs.TickClocks.{until_in}
use Rattle.event_log.specs.Logs.{SeenLog}
use Rattle.event_log.specs.TickRows.{AreNumbersOf, IsRowOf, clock_of, log_length, told_widths}

-- the same options with ticks of so many units; events may be spread, no receives are merged, and none are added
abbrev pub with_width : Options → ℕ → Options
with_width o width = record {
  nodes = o.nodes;
  unit = o.unit;
  width = Units width;
  until = o.until;
  idle = None;
  spread = true;
  align = o.align;
  drop_lost = o.drop_lost;
  merge = false;
  short = lit< tt;
}

-- the numbers are those of the import of the text by the options
pub record IsImportPlacing (o : Options) (text : List ℕ) (p : Placing) : Type 0 where
  pub import : Import
  pub is : IsImportOf o text import
  pub places : List ℕ
  pub placed : AreStepPlaces true is.made.left is.clock places
  pub numbers : AreNumbersOf is.made.left is.clock import.trace import.moved places p

-- the same; or the import is refused, since its trace would have too many ticks
abbrev pub IsToldBy : Options → List ℕ → Option Placing → Type 0
IsToldBy o text None = IsLogRefusal o text TooManyTicks
IsToldBy o text (Some p) = IsImportPlacing o text p

-- the rows of the events of a log, without lost sends if these are left out; there are some events
pub record AreLogRows (drop : Bool) (kind : TimeKind) (n : ℕ) (events : List Event) (until : Option ℤ)
    (rows : List TickRow) : Type 0 where
  pub left : List Event
  pub left_at : Option (List ℕ)
  pub are_left : AreLeftBy drop events left left_at
  pub some : 0 < length left
  pub widths : map (λ row. row.width) rows ≡ told_widths kind (log_length left until)
  pub each : All (IsRowOf n left kind until) rows

-- why there are none: the events make no trace with ticks of some length; or out of memory
abbrev pub IsLogRowRefusal : Bool → List ℕ → List (List ℕ) → List Event → TimeKind → Option ℤ → LogError → Type 0
IsLogRowRefusal drop text nodes events kind until why =
    (width : ℕ) × (0 < width) × IsUnmadeUnlessMemory drop false None true text nodes events
    (clock_of kind until width) why

-- The rows are of the lengths of a tick up to the first that is longer than the log, which ends as
-- the options say. Each says what the import with ticks of this length says.
pub record IsTickTable (o : Options) (text : List ℕ) (kind : TimeKind) (rows : List TickRow) : Type 0 where
  pub log : SeenLog
  pub read : IsRead o text (Ok log)
  pub kind_is : kind ≡ log.kind
  pub events : List Event
  pub same : map seen events ≡ log.events
  pub offsets : Option (List ℤ)
  pub aligned : List Event
  pub clocks : AreAligned o.align log.kind (length log.nodes) events offsets aligned
  pub until : Option ℤ
  pub ends : until_in log.kind o.until ≡ Ok until
  pub left : List Event
  pub left_at : Option (List ℕ)
  pub are_left : AreLeftBy o.drop_lost aligned left left_at
  pub some : 0 < length left
  pub widths : map (λ row. row.width) rows ≡ told_widths kind (log_length left until)
  pub each : All (λ row. IsToldBy (with_width o row.width) text row.placing) rows

-- the refusal of an import with ticks of some length, but for too many ticks
abbrev pub IsTickRefusal : Options → List ℕ → LogError → Type 0
IsTickRefusal o text why =
    (width : ℕ) × (0 < width) × IsLogRefusal (with_width o width) text why × (why ≢ TooManyTicks)
