-- What a search for witnesses of one length finds, and that it finds the same from a tick further on.
use Rattle.std.specs.Prelude.{ℕ, ◌≡◌, ◌+◌, ◌<◌, ◌≤◌, Option, IsTrue}
use Rattle.step_trace.specs.declared.rows.Miss.{Miss}
use Rattle.step_trace.specs.declared.rows.Gap.{Gap}
use Rattle.step_trace.specs.Processors.{has_proc}
use Rattle.step_trace.specs.Traces.{Recorded}
use Rattle.step_trace.specs.Ticks.{tick_of}
use Rattle.step_trace.specs.Bounds.{StepsWithin, IsDelta, IsPhi}
use Rattle.step_trace.specs.Witnesses.{IsMiss, NamesMiss, NamesGap}

-- a miss of this length, which is the distance of its ticks, of a message sent in g or later
pub record IsMissOf (set : ℕ) (trace : Recorded) (g span : ℕ) (m : Miss) : Type 0 where
  pub miss : IsMiss set trace m
  pub from : g ≤ tick_of trace m.sent
  pub long : tick_of trace m.sent + span ≡ tick_of trace m.missed

-- no message sent in g or later has a miss of this length
pub record HasNoMissOf (set : ℕ) (trace : Recorded) (g span : ℕ) : Type 0 where
  pub none : (m : Miss) → ¬ IsMissOf set trace g span m

-- message s has no such miss
pub record SentHasNoMissOf (set : ℕ) (trace : Recorded) (g span s : ℕ) : Type 0 where
  pub none : (m : Miss) → m.sent ≡ s → ¬ IsMissOf set trace g span m

-- one of the misses of message s of this length
pub record IsMissOfSent (set : ℕ) (trace : Recorded) (g span s : ℕ) (m : Miss) : Type 0 where
  pub sent : m.sent ≡ s
  pub miss : IsMissOf set trace g span m

-- each member takes a step in one of the f ticks from x on
pub record AllStepWithin (set : ℕ) (trace : Recorded) (x f : ℕ) : Type 0 where
  pub each : (p : ℕ) → IsTrue (has_proc set p) → StepsWithin trace p x f

-- p is the least member that takes no step in the f ticks from x on
pub record IsFirstSilent (set : ℕ) (trace : Recorded) (x f p : ℕ) : Type 0 where
  pub member : IsTrue (has_proc set p)
  pub silent : ¬ StepsWithin trace p x f
  pub least : (q : ℕ) → IsTrue (has_proc set q) → q < p → StepsWithin trace q x f

-- if d is Δ(g + 1) too, its witness is the same there
abbrev pub IsSteadyMiss : ℕ → Recorded → ℕ → ℕ → Option Miss → Type 0
IsSteadyMiss set trace g d m =
    (o : Option Miss) → IsDelta set trace (g + 1) d → NamesMiss set trace (g + 1) d o → o ≡ m

-- if f is Φ(g + 1) too, its witness is the same there
abbrev pub IsSteadyGap : ℕ → Recorded → ℕ → ℕ → Option Gap → Type 0
IsSteadyGap set trace g f w =
    (o : Option Gap) → IsPhi set trace (g + 1) f → NamesGap set trace (g + 1) f o → o ≡ w
