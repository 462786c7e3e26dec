-- Prefixes of a recorder's trace: what they show, and why none is shown.
use Rattle.std.specs.Prelude.{ℕ, zero, suc, ◌≡◌, ◌<◌, List, Option, Some, None, Contains, All}
use Rattle.step_trace.specs.declared.steps.Step.{Step}
use Rattle.step_trace.specs.Configurations.{Setup}
use Rattle.step_trace.specs.Traces.{Recorded, step_at}
use Rattle.step_trace.specs.Ticks.{IsOnePerTick}
use Rattle.step_trace.specs.Differences.{IsFirstDifference}
use Rattle.step_buffers.specs.declared.moves.Done.{Done}
use Rattle.step_buffers.specs.Runs.{IsRun}
use Rattle.locked_recorder.specs.declared.errors.PrefixError.{PrefixError}
use Rattle.locked_recorder.specs.declared.errors.PrefixError.TheVariants as prefix_error
use Rattle.locked_recorder.specs.declared.errors.MineError.{MineError}
use Rattle.locked_recorder.specs.declared.errors.MineError.TheVariants as mine_error
use Rattle.locked_recorder.specs.Seats.{Turns}
use Rattle.locked_recorder.specs.Recorders.{Identity}

-- a run of the configuration, with one step in each tick
pub record IsRunOf (c : Setup) (trace : Recorded) : Type 0 where
  pub config : trace.config ≡ c
  pub run : IsRun c trace.steps
  pub one_per_tick : IsOnePerTick trace

-- some run of the configuration has its first difference there from what was seen
pub record IsOtherRun (c : Setup) (seen : Recorded) (place : ℕ) (found : Option (ℕ × Step)) : Type 0 where
  pub trace : Recorded
  pub run : IsRunOf c trace
  pub difference : IsFirstDifference trace seen place found

-- why a recorder of the configuration doesn't extend what a view has seen; 0 shows nothing
abbrev pub IsNotAnExtension : Setup → Option Recorded → ℕ → Option (ℕ × Step) → Type 0
IsNotAnExtension c seen zero found = found ≡ None
IsNotAnExtension c None (suc k) found = ⊥
IsNotAnExtension c (Some seen) (suc k) found = IsOtherRun c seen (suc k) found

-- why a recorder of the configuration shows no prefix to a view; out of memory shows nothing
abbrev pub IsPrefixRefusal : Setup → Option Recorded → PrefixError → Type 0
IsPrefixRefusal c seen (prefix_error.NotAnExtension place found) = IsNotAnExtension c seen place found
IsPrefixRefusal c seen prefix_error.Memory = Unit {0}

-- a step that was done is in a trace at its number
abbrev pub Stands : List Step → Done → Type 0
Stands steps done = step_at steps done.no ≡ Some done.step

-- the least number of these that the steps haven't with its step
pub record IsLeastMissing (steps : List Step) (done : List Done) (n : ℕ) : Type 0 where
  pub missing : (d : Done) × Contains done d × (d.no ≡ n) × (Stands steps d → ⊥)
  pub least : (d : Done) → Contains done d → d.no < n → Stands steps d

-- which of these the steps haven't with their step: none, or this one as the least
abbrev pub Misses : List Step → List Done → Option ℕ → Type 0
Misses steps done None = All (λ d. Stands steps d) done
Misses steps done (Some n) = IsLeastMissing steps done n

-- some run of the configuration hasn't the step of this number that the seat did, and has all those before it
pub record IsMissing (c : Setup) (s : Turns) (n : ℕ) : Type 0 where
  pub steps : List Step
  pub run : IsRun c steps
  pub least : IsLeastMissing steps s.done n

-- Why a recorder shows no prefix to a seat. ForeignSeat shows nothing; any other reason is answered to a seat of
-- the recorder's tag alone.
abbrev pub IsMineRefusal : Identity → Turns → MineError → Type 0
IsMineRefusal r s mine_error.ForeignSeat = Unit {0}
IsMineRefusal r s (mine_error.NotMine n) = (s.tag ≡ r.tag) × IsMissing r.config s n
IsMineRefusal r s mine_error.Memory = s.tag ≡ r.tag
