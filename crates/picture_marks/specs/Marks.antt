-- What the marks of a picture mean in the trace (own).
use Rattle.std.specs.Prelude.{◌≡◌, ℕ, ◌≤◌, ◌↔◌, IsTrue, List, length, Option, Some, None, Contains}
use Rattle.step_trace.specs.declared.rows.Gap.{Gap}
use Rattle.step_trace.specs.declared.rows.Miss.{Miss}
use Rattle.step_trace.specs.declared.rows.Row.{Row}
use Rattle.step_trace.specs.declared.steps.Step.{Step}
use Rattle.step_trace.specs.Traces.{Recorded, IsSentTo, TakesAt}
use Rattle.step_trace.specs.Ticks.{tick_of}
use Rattle.picture_marks.specs.declared.windows.Window.{Window}
use Rattle.picture_marks.specs.declared.messages.Message.{Message}
use Rattle.picture_marks.specs.declared.pictures.Picture.{Picture}
use Rattle.picture_marks.specs.Messages.{end_of, proc_of}
use Rattle.step_trace.specs.Processors.{has_proc}

-- what lasts from tick a to tick b has a tick of the window, or has it inside
pub record Touches (w : Window) (a b : ℕ) : Type 0 where
  pub begins : a ≤ w.to
  pub ends : w.first ≤ b

-- step s is one of the trace, its tick is in the window, and its processor has a lane
pub record IsShownStep (trace : Recorded) (w : Window) (lanes : ℕ) (s : ℕ) : Type 0 where
  pub low : 1 ≤ s
  pub high : s ≤ length trace.steps
  pub inside : Touches w (tick_of trace s) (tick_of trace s)
  pub lane : IsTrue (has_proc lanes (proc_of trace.steps s))

-- that step takes message s, or no step does
abbrev pub IsTakenBy : List Step → ℕ → Option ℕ → Type 0
IsTakenBy steps s (Some r) = TakesAt steps r s
IsTakenBy steps s None = (r : ℕ) → ¬ TakesAt steps r s

-- a message of the trace with the Receive that takes it, or none, that touches the window and goes from a lane to a
-- lane
pub record IsShownMessage (trace : Recorded) (w : Window) (lanes : ℕ) (m : Message) : Type 0 where
  pub to : ℕ
  pub sent : IsSentTo trace.steps m.sent to
  pub taken : IsTakenBy trace.steps m.sent m.taken
  pub inside : Touches w (tick_of trace m.sent) (end_of trace m)
  pub begins : IsTrue (has_proc lanes (proc_of trace.steps m.sent))
  pub ends : IsTrue (has_proc lanes to)

-- exactly these steps and these messages are shown
pub record ShowsExactly (trace : Recorded) (w : Window) (lanes : ℕ) (p : Picture) : Type 0 where
  pub steps : (s : ℕ) → Contains p.steps.items s ↔ IsShownStep trace w lanes s
  pub messages : (m : Message) → Contains p.messages.items m ↔ IsShownMessage trace w lanes m

-- some row of these has this miss
abbrev pub HasMiss : List Row → Miss → Type 0
HasMiss rows m = (r : Row) × Contains rows r × (r.miss ≡ Some m)

-- the miss touches the window and goes from a lane to a lane
pub record IsShownMiss (trace : Recorded) (w : Window) (lanes : ℕ) (m : Miss) : Type 0 where
  pub inside : Touches w (tick_of trace m.sent) (tick_of trace m.missed)
  pub begins : IsTrue (has_proc lanes (proc_of trace.steps m.sent))
  pub ends : IsTrue (has_proc lanes (proc_of trace.steps m.missed))

-- exactly the misses of the rows that touch the window and go from a lane to a lane are shown
abbrev pub ShowsMisses : Recorded → List Row → Window → ℕ → List Row → Type 0
ShowsMisses trace rows w lanes shown = (m : Miss) → HasMiss shown m ↔ (HasMiss rows m × IsShownMiss trace w lanes m)

-- some row of these has this gap
abbrev pub HasGap : List Row → Gap → Type 0
HasGap rows w = (r : Row) × Contains rows r × (r.gap ≡ Some w)

-- gap a covers gap b: it is of the same processor, has the same end and isn't shorter
pub record Covers (a b : Gap) : Type 0 where
  pub proc : a.proc ≡ b.proc
  pub end : a.to ≡ b.to
  pub longer : a.from ≤ b.from

-- the gap touches the window, and its processor has a lane
pub record IsShownGap (w : Window) (lanes : ℕ) (a : Gap) : Type 0 where
  pub inside : Touches w a.from a.to
  pub lane : IsTrue (has_proc lanes a.proc)

-- each gap that is shown is that of a row and touches the window in a lane, and each such gap is covered by one that is
-- shown
pub record ShowsGaps (rows : List Row) (w : Window) (lanes : ℕ) (shown : List Row) : Type 0 where
  pub sound : (a : Gap) → HasGap shown a → HasGap rows a × IsShownGap w lanes a
  pub covered : (b : Gap) → HasGap rows b → IsShownGap w lanes b → (a : Gap) × HasGap shown a × Covers a b
