-- Evidence against bounds (own).
use Rattle.std.specs.Prelude.{ℕ, ◌≡◌, ◌+◌, ◌<◌, ◌≤◌, Option, Some, None, IsTrue}
use Rattle.step_trace.specs.declared.rows.Miss.{Miss}
use Rattle.step_trace.specs.declared.rows.Gap.{Gap}
use Rattle.step_trace.specs.Processors.{has_proc}
use Rattle.step_trace.specs.Traces.{Recorded, IsReceiveOf}
use Rattle.step_trace.specs.Ticks.{tick_of, StepsIn}
use Rattle.step_trace.specs.Bounds.{IsMessage, IsDelivered}

-- A message between members, and a Receive of its receiver in a later tick by which it wasn't delivered.
-- `sent` and `missed` are the numbers of the two steps; the length of the miss is the distance of their
-- ticks.
pub record IsMiss (set : ℕ) (trace : Recorded) (m : Miss) : Type 0 where
  pub to : ℕ
  pub message : IsMessage set trace.steps m.sent to
  pub receive : IsReceiveOf trace.steps m.missed to
  pub late : tick_of trace m.sent < tick_of trace m.missed
  pub undelivered : ¬ IsDelivered trace m.sent (tick_of trace m.missed)

-- The miss refutes the communication bound d from tick g.
pub record MissRefutes (set : ℕ) (trace : Recorded) (g d : ℕ) (m : Miss) : Type 0 where
  pub miss : IsMiss set trace m
  pub from : g ≤ tick_of trace m.sent
  pub long : tick_of trace m.sent + d ≤ tick_of trace m.missed

-- A member that takes no step from tick `from` to tick `to`. The length of the gap is to - from + 1.
pub record IsGap (set : ℕ) (trace : Recorded) (w : Gap) : Type 0 where
  pub member : IsTrue (has_proc set w.proc)
  pub start : 1 ≤ w.from
  pub order : w.from ≤ w.to
  pub inside : w.to ≤ trace.last
  pub silent : (x : ℕ) → w.from ≤ x → x ≤ w.to → ¬ StepsIn trace x w.proc

-- The gap refutes the processor bound f from tick g.
pub record GapRefutes (set : ℕ) (trace : Recorded) (g f : ℕ) (w : Gap) : Type 0 where
  pub gap : IsGap set trace w
  pub from : g ≤ w.from
  pub long : w.from + f ≤ w.to + 1

-- The named miss for the bound d from tick g: of the misses of length d - 1 of messages sent in g or
-- later, the one with the greatest tick of its Send, then the greatest number.
pub record IsNamedMiss (set : ℕ) (trace : Recorded) (g d : ℕ) (m : Miss) : Type 0 where
  pub miss : IsMiss set trace m
  pub from : g ≤ tick_of trace m.sent
  pub long : tick_of trace m.sent + d ≡ tick_of trace m.missed + 1
  pub latest : (o : Miss) → IsMiss set trace o → g ≤ tick_of trace o.sent
      → tick_of trace o.sent + d ≡ tick_of trace o.missed + 1 → tick_of trace o.sent ≤ tick_of trace m.sent
  pub greatest : (o : Miss) → IsMiss set trace o → tick_of trace o.sent ≡ tick_of trace m.sent
      → tick_of trace o.sent + d ≡ tick_of trace o.missed + 1 → o.sent ≤ m.sent

-- The named gap for the bound f from tick g: of the gaps of length f - 1 that begin in g or later, the one
-- with the greatest beginning, then of the least processor.
pub record IsNamedGap (set : ℕ) (trace : Recorded) (g f : ℕ) (w : Gap) : Type 0 where
  pub gap : IsGap set trace w
  pub from : g ≤ w.from
  pub long : w.from + f ≡ w.to + 2
  pub greatest : (o : Gap) → IsGap set trace o → g ≤ o.from → o.from + f ≡ o.to + 2 → o.from ≤ w.from
  pub least : (o : Gap) → IsGap set trace o → o.from ≡ w.from → o.from + f ≡ o.to + 2 → w.proc ≤ o.proc

-- the witness of a communication bound: none at 1, else the named miss
abbrev pub NamesMiss : ℕ → Recorded → ℕ → ℕ → Option Miss → Type 0
NamesMiss set trace g d None = d ≡ 1
NamesMiss set trace g d (Some m) = (1 < d) × IsNamedMiss set trace g d m

-- the witness of a processor bound: none at 1, else the named gap
abbrev pub NamesGap : ℕ → Recorded → ℕ → ℕ → Option Gap → Type 0
NamesGap set trace g f None = f ≡ 1
NamesGap set trace g f (Some w) = (1 < f) × IsNamedGap set trace g f w
