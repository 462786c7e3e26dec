-- Recorded steps: what a World of a recorder answers. Which World it was, under the lock, is not seen.
use Rattle.std.specs.Prelude.{ℕ, ◌≡◌, ◌+◌, ◌≤◌, ◌++◌, ◌∷◌, [], List, length, Some, None}
use Rattle.step_trace.specs.declared.steps.Step.{Step}
use Rattle.step_trace.specs.declared.traces.TheConstants.{MAX_STEPS}
use Rattle.step_buffers.specs.declared.moves.Done.{Done}
use Rattle.step_buffers.specs.declared.moves.Move.{Move}
use Rattle.step_buffers.specs.declared.moves.StepError.{StepError}
use Rattle.step_buffers.specs.declared.moves.StepError.TheVariants.{Memory}
use Rattle.step_buffers.specs.HeardTables.{passed}
use Rattle.step_buffers.specs.Runs.{node_at, IsRun}
use Rattle.step_buffers.specs.Moves.{step_of, step_refusal}
use Rattle.locked_recorder.specs.declared.errors.RecordError.{RecordError}
use Rattle.locked_recorder.specs.declared.errors.RecordError.TheVariants as record_error
use Rattle.locked_recorder.specs.Seats.{Turns}
use Rattle.locked_recorder.specs.Recorders.{Identity}

-- The steps of a World of a recorder: a run of its configuration, of no more steps than may be made in it. These
-- are at most as many as a trace may have.
pub record IsWorldOf (r : Identity) (steps : List Step) : Type 0 where
  pub run : IsRun r.config steps
  pub within : length steps ≤ r.limit
  pub bounded : r.limit ≤ MAX_STEPS

-- This was done on a World of a recorder by this move of p. The move isn't refused, and what was done is its step,
-- with its number, and the round and decision of p after it.
pub record IsAnswer (r : Identity) (p : ℕ) (move : Move) (done : Done) : Type 0 where
  pub before : List Step
  pub world : IsWorldOf r before
  pub allowed : step_refusal r.config r.limit before p move ≡ None
  pub step : Some done.step ≡ step_of r.config before p move
  pub number : done.no ≡ length before + 1
  pub round : done.round ≡ passed (before ++ done.step ∷ []) p + 1
  pub decision : done.decision ≡ (node_at r.config (before ++ done.step ∷ []) p).decision

-- A World of a recorder refuses for this reason to move p so.
pub record IsAgainst (r : Identity) (p : ℕ) (move : Move) (why : StepError) : Type 0 where
  pub before : List Step
  pub world : IsWorldOf r before
  pub reason : step_refusal r.config r.limit before p move ≡ Some why

-- why a World refuses; out of memory shows nothing
abbrev pub IsStepReason : Identity → ℕ → Move → StepError → Type 0
IsStepReason r p move Memory = Unit {0}
IsStepReason r p move why = IsAgainst r p move why

-- Why a recorder refuses a move from a seat. ForeignSeat shows nothing; any other reason is answered to a seat
-- of the recorder's tag alone.
abbrev pub IsRecordRefusal : Identity → Turns → Move → RecordError → Type 0
IsRecordRefusal r s move record_error.ForeignSeat = Unit {0}
IsRecordRefusal r s move (record_error.Step why) = (s.tag ≡ r.tag) × IsStepReason r s.proc move why

-- some World of a recorder has so many steps
pub record IsStepCount (r : Identity) (count : ℕ) : Type 0 where
  pub steps : List Step
  pub world : IsWorldOf r steps
  pub count_is : count ≡ length steps
