-- By which tick a round is over.
use Rattle.std.specs.Prelude.{ℕ, ◌≡◌, ◌-◌, ◌≤◌, List, Some, Bool, true, false, IsTrue, ◌==◌, ◌&&◌, nat_le, count_by}
use Rattle.std.specs.List.{range_with_len}
use Rattle.std.specs.Option.{option_map_or}
use Rattle.step_trace.specs.declared.steps.Act.TheVariants.{Receive}
use Rattle.step_trace.specs.declared.steps.Step.{Step}
use Rattle.step_trace.specs.Configurations.{Setup, IsProc}
use Rattle.step_trace.specs.Processors.{has_proc}
use Rattle.step_trace.specs.Traces.{Recorded, IsReceiveOf, IsStepOf, step_at}
use Rattle.step_trace.specs.Ticks.{tick_of}
use Rattle.round_model.specs.RoundStates.{state_after}
use Rattle.step_buffers.specs.HeardTables.{round_at, heard_table}
use Rattle.step_buffers.specs.Runs.{destinations}
use Rattle.deciding_runs.specs.Audible.{may_hear}
use Rattle.deciding_runs.specs.HeardOut.{HasHeardOf}
use Rattle.patience_laws.specs.Silence.{Suspects}

-- from this tick on, p is in this round or in a later one
abbrev pub IsInRoundFrom : Recorded → ℕ → ℕ → ℕ → Type 0
IsInRoundFrom trace p round x = (k : ℕ) → IsStepOf trace.steps k p → x ≤ tick_of trace k
    → round ≤ round_at trace.steps p k

-- to whom p sends in a round
abbrev pub sends_to : Setup → List Step → ℕ → ℕ → List ℕ
sends_to c steps p round = destinations c (state_after c (heard_table steps) (round - 1) p) p round

-- from this tick on, each Receive of p in this round ends it
abbrev pub EachEnds : Recorded → ℕ → ℕ → ℕ → Type 0
EachEnds trace p round x = (k : ℕ) (ids : List ℕ) (ends : Bool)
    → step_at trace.steps k ≡ Some (record { proc = p; act = Receive ends ids })
    → round_at trace.steps p k ≡ round → x ≤ tick_of trace k → ends ≡ true

-- p has heard of q in a round or in a later one by each Receive that it makes from this tick on
abbrev pub HasHeardFrom : Recorded → ℕ → ℕ → ℕ → ℕ → Type 0
HasHeardFrom trace p q round x = (k : ℕ) → IsReceiveOf trace.steps k p → x ≤ tick_of trace k
    → HasHeardOf trace.steps p q round k

-- and suspects it after each
abbrev pub SuspectsFrom : ℕ → Recorded → ℕ → ℕ → ℕ → Type 0
SuspectsFrom patience trace p q x = (k : ℕ) → IsReceiveOf trace.steps k p → x ≤ tick_of trace k
    → Suspects trace.config patience trace.steps p q k

-- whom p may hear in a round, by the node that it has in it
abbrev pub may_hear_of : Setup → List Step → ℕ → ℕ → ℕ → Bool
may_hear_of c steps p round q = may_hear c (state_after c (heard_table steps) (round - 1) p) round p q

-- Each member that p may hear in a round has been heard by this tick, and p suspects all others that it may hear.
pub record HearsMembers (patience set : ℕ) (trace : Recorded) (p round x : ℕ) : Type 0 where
  pub members : (q : ℕ) → IsTrue (has_proc set q) → may_hear_of trace.config trace.steps p round q ≡ true
      → HasHeardFrom trace p q round x
  pub others : (q : ℕ) → IsProc trace.config q → has_proc set q ≡ false
      → may_hear_of trace.config trace.steps p round q ≡ true → SuspectsFrom patience trace p q x

-- whether step j is one of p, from this tick on
abbrev pub is_step_since : Recorded → ℕ → ℕ → ℕ → Bool
is_step_since trace p x j = option_map_or (λ s. s.proc == p) (step_at trace.steps j) false && nat_le x (tick_of trace j)

-- how many steps p makes before step k, from this tick on
abbrev pub steps_since : Recorded → ℕ → ℕ → ℕ → ℕ
steps_since trace p x k = count_by (is_step_since trace p x) (range_with_len 1 (k - 1))
