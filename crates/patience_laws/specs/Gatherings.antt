-- Runs in which the members alone speak from a tick on, and by when they meet.
use Rattle.std.specs.Prelude.{ℕ, ◌≡◌, ◌<◌, ◌≤◌, ◌*◌, ◌+◌, ◌-◌, ◌⊎◌, false, IsTrue}
use Rattle.step_trace.specs.Configurations.{Setup, IsProc}
use Rattle.step_trace.specs.Processors.{has_proc}
use Rattle.step_trace.specs.Traces.{Recorded, IsReceiveOf, IsStepOf}
use Rattle.step_trace.specs.Ticks.{tick_of}
use Rattle.lock_phases.specs.Hearing.{number_of}
use Rattle.step_buffers.specs.HeardTables.{round_at}
use Rattle.step_buffers.specs.Runs.{IsSend}
use Rattle.deciding_runs.specs.HeardOut.{IsTakenBefore}
use Rattle.patience_laws.specs.Silence.{Suspects, TakesOf}
use Rattle.patience_laws.specs.LeastRounds.{AreInRoundFrom}
use Rattle.patience_laws.specs.Meetings.{ComesTo, MeetOnce}

-- Before tick g no processor is in a round above `most`. From tick g on, no member takes anything of another processor,
-- and each member is in round `least` or in a later one.
pub record AreAlone (set : ℕ) (trace : Recorded) (g least most : ℕ) : Type 0 where
  pub early : (p k : ℕ) → IsStepOf trace.steps k p → tick_of trace k < g → round_at trace.steps p k ≤ most
  pub quiet : (p q k : ℕ) → IsTrue (has_proc set p) → IsProc trace.config q → has_proc set q ≡ false
      → TakesOf trace.steps p q k → tick_of trace k < g
  pub there : AreInRoundFrom set trace least g
  pub low : 1 ≤ least

-- no member comes to the round before this tick
abbrev pub NoneBefore : ℕ → Recorded → ℕ → ℕ → Type 0
NoneBefore set trace round x = (p k : ℕ) → IsTrue (has_proc set p) → ComesTo trace.steps p round k → x ≤ tick_of trace k

-- by each of its Receives a member has taken what it sent to itself before
abbrev pub HearThemselves : ℕ → Recorded → Type 0
HearThemselves set trace = (p s k : ℕ) → IsTrue (has_proc set p) → IsSend trace.steps p p s
    → IsReceiveOf trace.steps k p → s < k → IsTakenBefore trace.steps p k s

-- when a member makes a Receive from tick x on, it suspects no member
abbrev pub SuspectNone : ℕ → ℕ → Recorded → ℕ → Type 0
SuspectNone patience set trace x = (p q k : ℕ) → IsTrue (has_proc set p) → IsTrue (has_proc set q)
    → IsReceiveOf trace.steps k p → x ≤ tick_of trace k
    → ¬ Suspects trace.config patience trace.steps p q (k - 1)

-- when a member makes a Receive in this round of its own, it suspects no member
abbrev pub SuspectNoneIn : ℕ → ℕ → Recorded → ℕ → Type 0
SuspectNoneIn patience set trace round = (p q k : ℕ) → IsTrue (has_proc set p) → IsTrue (has_proc set q)
    → IsReceiveOf trace.steps k p → round_at trace.steps p k ≡ round
    → ¬ Suspects trace.config patience trace.steps p q (k - 1)

-- No member goes on without another: the members are no more than N - t, or none suspects a member from tick x on.
abbrev pub NeedAll : ℕ → ℕ → Recorded → ℕ → Type 0
NeedAll patience set trace x = (number_of trace.config.n (has_proc set) ≤ trace.config.n - trace.config.t)
    ⊎ SuspectNone patience set trace x

-- in how many ticks a member passes a round, whatever it hears
abbrev pub longest_round : Setup → ℕ → ℕ → ℕ
longest_round c patience f = (c.n + patience + 1) * f

-- the round by which members have met whose rounds were in these bounds
abbrev pub met_round : Setup → ℕ → ℕ → ℕ → ℕ → ℕ
met_round c patience f least most = most + 5 * ((most + 9 - least) * longest_round c patience f) + 21

-- and the tick, if they were so in tick g
abbrev pub met_tick : Setup → ℕ → ℕ → ℕ → ℕ → ℕ → ℕ
met_tick c patience g f least most = g + (met_round c patience f least most - least) * longest_round c patience f

-- the members meet before a tick, in a round up to this one
pub record HaveMet (patience set : ℕ) (trace : Recorded) (g round tick : ℕ) : Type 0 where
  pub first : ℕ
  pub since : ℕ
  pub met : MeetOnce patience set trace g first since
  pub in_time : first ≤ round
  pub before : since < tick
