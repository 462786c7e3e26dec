-- The ticks that show evidence (own).
use Rattle.std.specs.Prelude.{ℕ, ◌≡◌, ◌+◌, ◌-◌, ◌/◌, ◌<◌, ◌≤◌, nat_lt, min, max, List, length, slice_get}
use Rattle.std.specs.Prelude.{Option, Some, None, option_map, option_and_then, if◌then◌else◌}
use Rattle.step_trace.specs.declared.rows.Row.{Row}
use Rattle.step_trace.specs.Traces.{Recorded}
use Rattle.step_trace.specs.Ticks.{tick_of}
use Rattle.picture_marks.specs.declared.windows.TheConstants.{MAX_WINDOW}
use Rattle.picture_marks.specs.declared.windows.Window.{Window}
use Rattle.picture_marks.specs.Messages.{taker}
use Rattle.run_story.specs.declared.delays.Delay.{Delay}
use Rattle.run_story.specs.declared.evidence.Evidence.{Evidence}
use Rattle.run_story.specs.declared.stalls.Stall.{Stall}
use Rattle.run_story.specs.Evidence.{AreEvidence}
use Rattle.run_page.specs.declared.evidence_ticks.TheConstants.{NEAR, MARGINS, LEAST_MARGIN}
use Rattle.run_page.specs.declared.scales.Span.{Span}

-- from the tick before a gap to the tick after it: those of the steps at both ends
abbrev pub around_gap : ℕ → Stall → Span
around_gap last s = record { first = s.gap.from - 1; to = min s.gap.to last + 1 }

-- the last tick to show of a late message: that of the Receive that takes it, if it comes soon after the miss;
-- else that of the miss
abbrev pub miss_end : Recorded → Delay → Option ℕ → ℕ
miss_end trace d None = tick_of trace d.miss.missed
miss_end trace d (Some r) =
    if nat_lt (tick_of trace r - tick_of trace d.miss.missed) (max d.ticks NEAR) then max (tick_of trace r)
    (tick_of trace d.miss.missed)
    else tick_of trace d.miss.missed

-- from the Send of a late message on
abbrev pub around_miss : Recorded → Delay → Option ℕ → Span
around_miss trace d taken = record { first = tick_of trace d.miss.sent; to = miss_end trace d taken }

-- the ticks of both
abbrev pub both : Span → Span → Span
both a b = record { first = min a.first b.first; to = max a.to b.to }

-- the ticks of a stall, of a delay, or of both, with the Receive that takes the late message, if there is one
abbrev pub core_of : Recorded → Option Stall → Option Delay → Option ℕ → Span
core_of trace (Some s) (Some d) taken = both (around_gap trace.last s) (around_miss trace d taken)
core_of trace (Some s) None taken = around_gap trace.last s
core_of trace None (Some d) taken = around_miss trace d taken
core_of trace None None taken = record { first = 1; to = 1 }

-- how many ticks are added at both ends
abbrev pub margin : Span → ℕ
margin s = max ((s.to - s.first) / MARGINS) LEAST_MARGIN

-- these ticks with so many more at both ends, as far as a trace with this last tick goes
abbrev pub widened : ℕ → ℕ → Span → Span
widened more last s = record { first = max (s.first - more) 1; to = min (s.to + more) last }

-- these ticks with a seventh more at both ends
abbrev pub padded : ℕ → Span → Span
padded last s = widened (margin s) last s

-- the Receive that takes the late message, if there is one and it is taken
abbrev pub taker_of : (ℕ → Option ℕ) → Option Delay → Option ℕ
taker_of taken d = option_and_then (λ d. taken d.miss.sent) d

-- the ticks of evidence, with no more at its ends
abbrev pub evidence_core : Recorded → Evidence → Span
evidence_core trace e =
    core_of trace e.stall e.delay (taker_of (taker trace.steps (length trace.steps)) e.delay)

-- the first of these ticks, as many as may be drawn
abbrev pub drawn_first : Span → Window
drawn_first s = record { first = s.first; to = min s.to (s.first + (MAX_WINDOW - 1)) }

-- the ticks that are drawn of these: a seventh more at both ends, but no more than a seventh of what may be drawn, so
-- that evidence of any length is in the picture
abbrev pub drawn_of : ℕ → Span → Window
drawn_of last s = drawn_first (widened (min (margin s) (MAX_WINDOW / MARGINS)) last s)

-- a window of a trace with this last tick: one tick at least, and at most as many as may be drawn
pub record IsWindowOf (last : ℕ) (w : Window) : Type 0 where
  pub first : 1 ≤ w.first
  pub order : w.first ≤ w.to
  pub end : w.to ≤ last
  pub few : w.to < w.first + MAX_WINDOW

-- the window that shows the first evidence of these rows; none if there is no evidence
pub record IsEvidenceWindow (trace : Recorded) (rows : List Row) (w : Option Window) : Type 0 where
  pub evidence : List Evidence
  pub found : AreEvidence trace rows evidence
  pub window : w ≡ option_map (λ e. drawn_of trace.last (evidence_core trace e)) (slice_get evidence 0)
