-- Choices: moves that hang on where a processor sends next. Which World it was, under the lock, is not seen.
use Rattle.std.specs.Prelude.{ℕ, ◌≡◌, ◌&&◌, if◌then◌else◌, Bool, Option, is_some}
use Rattle.step_buffers.specs.declared.moves.Done.{Done}
use Rattle.step_buffers.specs.declared.moves.Move.{Move}
use Rattle.step_buffers.specs.declared.moves.Move.TheVariants.{Send}
use Rattle.step_buffers.specs.declared.moves.StepError.{StepError}
use Rattle.step_buffers.specs.declared.moves.StepError.TheVariants.{Memory}
use Rattle.step_buffers.specs.Moves.{next_send}
use Rattle.locked_recorder.specs.declared.errors.RecordError.{RecordError}
use Rattle.locked_recorder.specs.declared.errors.RecordError.TheVariants as record_error
use Rattle.locked_recorder.specs.Seats.{Turns, with_done}
use Rattle.locked_recorder.specs.Recorders.{Identity}
use Rattle.locked_recorder.specs.Recordings.{IsAnswer, IsAgainst}

-- a Send, if sends come first and there is something to send; and else this move
abbrev pub chosen : Bool → Move → Option ℕ → Move
chosen sends step to = if sends && is_some to then Send else step

-- This was done on a World of a recorder, in which p sends next to `to`, and p made the move of the choice.
pub record IsChosenAnswer (r : Identity) (p : ℕ) (choice : Option ℕ → Move) (done : Done) : Type 0 where
  pub to : Option ℕ
  pub answer : IsAnswer r p (choice to) done
  pub next : next_send r.config answer.before p ≡ to

-- A World of a recorder, in which p sends next to `to`, refuses for this reason to move p as the choice says.
pub record IsChosenAgainst (r : Identity) (p : ℕ) (choice : Option ℕ → Move) (why : StepError) : Type 0 where
  pub to : Option ℕ
  pub against : IsAgainst r p (choice to) why
  pub next : next_send r.config against.before p ≡ to

-- why a World refuses; out of memory shows nothing
abbrev pub IsChosenStepReason : Identity → ℕ → (Option ℕ → Move) → StepError → Type 0
IsChosenStepReason r p choice Memory = Unit {0}
IsChosenStepReason r p choice why = IsChosenAgainst r p choice why

-- why a recorder refuses to move p as the choice says
abbrev pub IsChoiceRefused : Identity → ℕ → (Option ℕ → Move) → RecordError → Type 0
IsChoiceRefused r p choice record_error.ForeignSeat = Unit {0}
IsChoiceRefused r p choice (record_error.Step why) = IsChosenStepReason r p choice why

-- why a recorder refuses a choice from a seat, as `IsRecordRefusal` says it of a move
abbrev pub IsChoiceRefusal : Identity → Turns → (Option ℕ → Move) → RecordError → Type 0
IsChoiceRefusal r s choice record_error.ForeignSeat = Unit {0}
IsChoiceRefusal r s choice (record_error.Step why) = (s.tag ≡ r.tag) × IsChosenStepReason r s.proc choice why

-- a seat after a recorded step that was made as the choice says
pub record IsChosen (r : Identity) (choice : Option ℕ → Move) (old new : Turns) : Type 0 where
  pub done : Done
  pub appended : new ≡ with_done old done
  pub answer : IsChosenAnswer r old.proc choice done
