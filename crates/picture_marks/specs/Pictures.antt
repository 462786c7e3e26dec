-- What a picture shows (own). A window is the ticks in the picture. What lasts from tick a to tick b touches it
-- if a isn't after its end and b not before its beginning. What is shown has a lane, or goes from lane to lane.
use Rattle.std.specs.Prelude.{ℕ, ◌≡◌, ◌+◌, ◌-◌, ◌&&◌, Bool, false, not, List, length, Option, Some, None, if◌then◌else◌}
use Rattle.std.specs.Option.{option_map_or}
use Rattle.step_trace.specs.declared.rows.Gap.{Gap}
use Rattle.step_trace.specs.declared.rows.Miss.{Miss}
use Rattle.step_trace.specs.declared.rows.Row.{Row}
use Rattle.step_trace.specs.Traces.{Recorded}
use Rattle.step_trace.specs.Ticks.{tick_of}
use Rattle.picture_marks.specs.declared.windows.Window.{Window}
use Rattle.picture_marks.specs.declared.messages.Message.{Message}
use Rattle.picture_marks.specs.declared.pictures.Picture.{Picture}
use Rattle.step_trace.specs.Processors.{has_proc}
use Rattle.picture_marks.specs.Windows.{touches}
use Rattle.picture_marks.specs.Gathered.{gathered}
use Rattle.picture_marks.specs.Messages.{message_of, end_of, proc_of, sends_between}
use Rattle.step_trace.specs.ReportRows.{row_at}
use Rattle.picture_marks.specs.Rows.{miss_at, gap_at, same_miss, share_end, share_column}
use Rattle.picture_marks.specs.Strokes.{columns_for}

-- step s, if its tick is in the window and its processor has a lane
abbrev pub shown_step : Recorded → Window → ℕ → ℕ → Option ℕ
shown_step trace w lanes s =
    if touches w (tick_of trace s) (tick_of trace s) && has_proc lanes (proc_of trace.steps s) then Some s
    else None

-- message s, if there is one that touches the window and goes from a lane to a lane
abbrev pub shown_message : Recorded → Window → ℕ → ℕ → Option Message
shown_message trace w lanes s =
    if sends_between lanes trace.steps s && touches w (tick_of trace s)
    (end_of trace (message_of trace.steps s)) then Some (message_of trace.steps s)
    else None

-- whether a miss touches the window and goes from a lane to a lane
abbrev pub shows_miss : Recorded → Window → ℕ → Miss → Bool
shows_miss trace w lanes m =
    touches w (tick_of trace m.sent) (tick_of trace m.missed)
    && (has_proc lanes (proc_of trace.steps m.sent) && has_proc lanes (proc_of trace.steps m.missed))

-- row k, if it has a miss that is shown and the row before has another or none
abbrev pub shown_miss : Recorded → Window → ℕ → List Row → ℕ → Option Row
shown_miss trace w lanes rows k =
    if option_map_or (λ m. shows_miss trace w lanes m) (miss_at rows k) false
    && not (same_miss (miss_at rows (k - 1)) (miss_at rows k)) then row_at rows k
    else None

-- whether a gap touches the window and its processor has a lane
abbrev pub shows_gap : Window → ℕ → Gap → Bool
shows_gap w lanes a = touches w a.from a.to && has_proc lanes a.proc

-- row k, if it has a gap that is shown, and that of the row before isn't of the same processor with the same end
abbrev pub shown_gap : Window → ℕ → List Row → ℕ → Option Row
shown_gap w lanes rows k =
    if option_map_or (λ a. shows_gap w lanes a) (gap_at rows k) false
    && not (share_end (gap_at rows (k - 1)) (gap_at rows k)) then row_at rows k
    else None

-- row k, unless the rows before and after it begin in its column
abbrev pub corner : ℕ → List Row → ℕ → Option Row
corner last rows k =
    if share_column last (row_at rows (k - 1)) (row_at rows k) && share_column last (row_at rows k)
    (row_at rows (k + 1)) then None
    else row_at rows k

-- the window of all ticks
abbrev pub all_ticks : Recorded → Window
all_ticks trace = record { first = 1; to = trace.last }

-- The picture shows these ticks and lanes of the trace, with the witnesses and the corners of these
-- rows. Of all ticks it shows so many columns, and the gaps of these rows.
pub record Shows (trace : Recorded) (rows : List Row) (w : Window) (lanes : ℕ) (p : Picture) : Type 0 where
  pub window : p.window ≡ w
  pub lanes_drawn : p.lanes ≡ lanes
  pub steps : p.steps.items ≡ gathered (shown_step trace w lanes) (length trace.steps)
  pub messages : p.messages.items ≡ gathered (shown_message trace w lanes) (length trace.steps)
  pub misses : p.misses.items ≡ gathered (shown_miss trace w lanes rows) (length rows)
  pub gaps : p.gaps.items ≡ gathered (shown_gap w lanes rows) (length rows)
  pub corners : p.corners.items ≡ gathered (corner trace.last rows) (length rows)
  pub columns : p.strokes.columns ≡ columns_for trace.last
  pub stalls : p.stalls.items ≡ gathered (shown_gap (all_ticks trace) lanes rows) (length rows)
