-- The bounds of one processor and of one link (own). They are those of section 2 of the 1988 paper over the set of one
-- processor, and over the messages of one processor to another, or to itself.
use Rattle.std.specs.Prelude.{ℕ, ◌≡◌, ◌+◌, ◌-◌, ◌^◌, ◌<◌, ◌≤◌, List, Option, Some, None, IsTrue}
use Rattle.step_trace.specs.declared.rows.Miss.{Miss}
use Rattle.step_trace.specs.declared.steps.Act.TheVariants.{Send}
use Rattle.step_trace.specs.declared.steps.Step.{Step}
use Rattle.step_trace.specs.Processors.{has_proc}
use Rattle.step_trace.specs.Traces.{Recorded, step_at}
use Rattle.step_trace.specs.Ticks.{tick_of}
use Rattle.step_trace.specs.Bounds.{DeltaHoldsFor}
use Rattle.step_trace.specs.Witnesses.{IsMiss}

-- the set whose only member is p
abbrev pub only : ℕ → ℕ
only p = 2 ^ (p - 1)

-- message s goes from the member p to the member q
pub record IsMessageOn (set : ℕ) (steps : List Step) (p q s : ℕ) : Type 0 where
  pub sent : step_at steps s ≡ Some (record { proc = p; act = Send q })
  pub sender : IsTrue (has_proc set p)
  pub receiver : IsTrue (has_proc set q)

-- The communication bound d holds from tick g on the link from p to q: it holds for each of its messages sent in g or
-- later.
pub record LinkHolds (set : ℕ) (trace : Recorded) (p q g d : ℕ) : Type 0 where
  pub each : (s : ℕ) → g ≤ tick_of trace s → IsMessageOn set trace.steps p q s → DeltaHoldsFor set trace s d

-- a miss of a message of p to q
pub record IsLinkMiss (set : ℕ) (trace : Recorded) (p q : ℕ) (m : Miss) : Type 0 where
  pub miss : IsMiss set trace m
  pub link : IsMessageOn set trace.steps p q m.sent

-- The named miss for the bound d from tick g on a link: of its misses of length d - 1 of messages sent in g or later,
-- the one with the greatest tick of its Send. There is one, since p makes at most one step in a tick.
pub record IsNamedLinkMiss (set : ℕ) (trace : Recorded) (p q g d : ℕ) (m : Miss) : Type 0 where
  pub miss : IsLinkMiss set trace p q m
  pub from : g ≤ tick_of trace m.sent
  pub long : tick_of trace m.sent + d ≡ tick_of trace m.missed + 1
  pub latest : (o : Miss) → IsLinkMiss set trace p q o → g ≤ tick_of trace o.sent
      → tick_of trace o.sent + d ≡ tick_of trace o.missed + 1 → tick_of trace o.sent ≤ tick_of trace m.sent

-- the witness of a communication bound of a link: none at 1, else the named miss
abbrev pub NamesLinkMiss : ℕ → Recorded → ℕ → ℕ → ℕ → ℕ → Option Miss → Type 0
NamesLinkMiss set trace p q g d None = d ≡ 1
NamesLinkMiss set trace p q g d (Some m) = (1 < d) × IsNamedLinkMiss set trace p q g d m
