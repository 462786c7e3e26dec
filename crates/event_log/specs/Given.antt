-- What an import has from the log whose events it is of.
use Rattle.std.specs.Prelude.{◌≡◌}
use Rattle.timed_events.specs.declared.events.Clock.{Clock}
use Rattle.timed_events.specs.declared.lateness.Lateness.{Lateness}
use Rattle.event_log.specs.declared.alignments.AlignedLog.{AlignedLog}
use Rattle.event_log.specs.declared.imports.PlacedImport.{PlacedImport}

-- the import has the nodes of the log, by how much their clocks were moved, and these late messages and this clock
pub record AreGiven (aligned : AlignedLog) (lateness : Lateness) (clock : Clock) (placed : PlacedImport) : Type 0 where
  pub nodes : placed.import.nodes ≡ aligned.log.nodes
  pub offsets : placed.import.offsets ≡ aligned.offsets
  pub lateness_is : placed.import.lateness ≡ lateness
  pub clock_is : placed.clock ≡ clock
