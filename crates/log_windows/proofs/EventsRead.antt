-- An event of a log whose record isn't kept, because what is kept is too large.
use Rattle.std.proofs.Common.{◌≡◌, ◌<◌, List, ℕ, Some, Ok, Err, refl}
use Rattle.std.specs.Prelude.{MatchBool, ⊤}
use Rattle.std.proofs.lemmas.Bool.{lt-leb}
use Rattle.trace_text.specs.Records.{field_of}
use Rattle.trace_text.proofs.TakenRecords.{unless}
use Rattle.event_log.specs.declared.columns.Columns.{Columns}
use Rattle.event_log.specs.declared.refusals.LogError.{LogError}
use Rattle.event_log.specs.declared.times.Moment.{Moment}
use Rattle.event_log.specs.LogRecords.{moment_as}
use Rattle.event_log.specs.Naming.{is_memory}
use Rattle.event_log.specs.Times.{settled}
use Rattle.log_windows.specs.declared.bounds.Times.{Times}
use Rattle.log_windows.specs.declared.windows.Reading.{Reading}
use Rattle.log_windows.specs.declared.windows.TheConstants.{MAX_LOGGED}
use Rattle.log_windows.specs.Bounds.{kind_of, times_by}
use Rattle.log_windows.specs.KeptRows.{rows_after}
use Rattle.log_windows.specs.Windows.{event_after}

-- the refusal of the record is that of the event
pub event-refused : (columns : Columns) (r : Reading) (fields : List (List ℕ)) (moment : Moment) (times : Times) (why : LogError) → r.count
    < MAX_LOGGED → moment_as (settled r.unit (kind_of r.times)) (field_of fields columns.time) ≡ Some moment → times_by r.times r.from
    r.until moment.kind ≡ Ok times → MatchBool (is_memory why) ⊤ (rows_after columns times r.count moment.time fields r.rows ≡ Err why)
    → MatchBool (is_memory why) ⊤ (event_after columns r fields ≡ Err why)
event-refused columns r fields moment times why few told fits h =
    unless (is_memory why) _ _ (λ k. rw (lt-leb MAX_LOGGED r.count few) (rw told (rw fits (rw k refl)))) h
