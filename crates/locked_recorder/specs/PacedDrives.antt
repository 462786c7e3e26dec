-- Drives by the pace "heard out": many steps made from one seat. Which World it was, under the lock, is not seen.
use Rattle.std.specs.Prelude.{ℕ, ◌≡◌, ◌<◌, ◌++◌, ◌∷◌, [], List, length}
use Rattle.step_buffers.specs.declared.moves.Done.{Done}
use Rattle.step_buffers.specs.declared.moves.Move.{Move}
use Rattle.step_buffers.specs.declared.moves.StepError.{StepError}
use Rattle.step_buffers.specs.declared.moves.StepError.TheVariants.{Memory}
use Rattle.deciding_runs.specs.Paces.{Paced, opening_pace, paced_move, after_move}
use Rattle.locked_recorder.specs.declared.errors.DriveError.{DriveError}
use Rattle.locked_recorder.specs.declared.errors.DriveStop.{DriveStop}
use Rattle.locked_recorder.specs.declared.errors.DriveStop.TheVariants.{Held, Record}
use Rattle.locked_recorder.specs.declared.errors.RecordError.{RecordError}
use Rattle.locked_recorder.specs.declared.errors.RecordError.TheVariants as record_error
use Rattle.locked_recorder.specs.Seats.{Turns, with_done}
use Rattle.locked_recorder.specs.Recorders.{Identity}
use Rattle.locked_recorder.specs.Recordings.{IsAnswer, IsAgainst}

-- This was done on a World of a recorder by the move that the pace makes of p in it, and `after` is the pace then.
pub record IsPacedAnswer (r : Identity) (p : ℕ) (pace after : Paced) (done : Done) : Type 0 where
  pub move : Move
  pub answer : IsAnswer r p move done
  pub moved : move ≡ paced_move r.config answer.before p pace
  pub noted : after ≡ after_move r.config answer.before p pace

-- A World of a recorder refuses for this reason the move that the pace makes of p in it.
pub record IsPacedAgainst (r : Identity) (p : ℕ) (pace : Paced) (why : StepError) : Type 0 where
  pub move : Move
  pub against : IsAgainst r p move why
  pub moved : move ≡ paced_move r.config against.before p pace

-- why a World refuses; out of memory shows nothing
abbrev pub IsPacedStepReason : Identity → ℕ → Paced → StepError → Type 0
IsPacedStepReason r p pace Memory = Unit {0}
IsPacedStepReason r p pace why = IsPacedAgainst r p pace why

-- why a recorder refuses to move p by its pace
abbrev pub IsPaceRefused : Identity → ℕ → Paced → RecordError → Type 0
IsPaceRefused r p pace record_error.ForeignSeat = Unit {0}
IsPaceRefused r p pace (record_error.Step why) = IsPacedStepReason r p pace why

-- why a recorder refuses a step from a seat by its pace, as `IsRecordRefusal` says it of a move
abbrev pub IsPaceRefusal : Identity → Turns → Paced → RecordError → Type 0
IsPaceRefusal r s pace record_error.ForeignSeat = Unit {0}
IsPaceRefusal r s pace (record_error.Step why) = (s.tag ≡ r.tag) × IsPacedStepReason r s.proc pace why

-- a seat after a recorded step by its pace
pub record IsPacedStep (r : Identity) (pace after : Paced) (old new : Turns) : Type 0 where
  pub done : Done
  pub appended : new ≡ with_done old done
  pub answer : IsPacedAnswer r old.proc pace after done

-- these things were done one after the other by a pace, which is so before the first of them, and so after the last
abbrev pub WerePaced : Identity → ℕ → Paced → List Done → Paced → Type 0
WerePaced r p pace [] after = after ≡ pace
WerePaced r p pace (done ∷ more) after = (next : Paced) × IsPacedAnswer r p pace next done
    × WerePaced r p next more after

-- A seat after so many steps by the pace that begins with this patience. As many things more are done, each of which a
-- World of the recorder answers to the pace's move at that time. Steps are made only from a seat with the recorder's
-- tag.
pub record IsPacedDrive (r : Identity) (patience steps : ℕ) (old new : Turns) : Type 0 where
  pub more : List Done
  pub count : length more ≡ steps
  pub appended : new ≡ record old { done = old.done ++ more }
  pub after : Paced
  pub paced : WerePaced r old.proc (opening_pace r.config patience) more after
  pub tag : 0 < steps → old.tag ≡ r.tag

-- Why a drive stops that made `made` of its steps and has this pace, when the seat is so. It is held before its first
-- step; a step is refused only before the last.
abbrev pub IsPacedStop : Identity → ℕ → ℕ → Paced → Turns → DriveStop → Type 0
IsPacedStop r steps made pace s Held = made ≡ 0
IsPacedStop r steps made pace s (Record why) = (made < steps) × IsPaceRefusal r s pace why

-- a seat after a drive that stopped: what was made, and why no more
pub record IsPacedStopped (r : Identity) (patience steps : ℕ) (old new : Turns) (e : DriveError) : Type 0 where
  pub driven : IsPacedDrive r patience e.made old new
  pub stop : IsPacedStop r steps e.made driven.after new e.why
