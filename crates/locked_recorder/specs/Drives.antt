-- Drives: many steps made from one seat.
use Rattle.std.specs.Prelude.{ℕ, ◌≡◌, ◌<◌, ◌+◌, ◌==◌, ◌++◌, if◌then◌else◌, List, length}
use Rattle.std.specs.Prelude.{take, slice_get, fold, Option, Some, Bool, true, false}
use Rattle.step_trace.specs.declared.steps.Act.{Act}
use Rattle.step_trace.specs.declared.steps.Act.TheVariants as act
use Rattle.step_buffers.specs.declared.moves.Done.{Done}
use Rattle.step_buffers.specs.declared.moves.Move.{Move}
use Rattle.step_buffers.specs.declared.moves.Move.TheVariants.{Receive}
use Rattle.step_buffers.specs.declared.moves.Take.TheVariants.{All}
use Rattle.locked_recorder.specs.declared.errors.DriveError.{DriveError}
use Rattle.locked_recorder.specs.declared.errors.DriveStop.{DriveStop}
use Rattle.locked_recorder.specs.declared.errors.DriveStop.TheVariants.{Held, Record}
use Rattle.locked_recorder.specs.Seats.{Turns}
use Rattle.locked_recorder.specs.Recorders.{Identity}
use Rattle.locked_recorder.specs.Choices.{chosen, IsChosenAnswer, IsChosen, IsChoiceRefusal}

-- How many Receives a processor made in its round, after one act more. One that ends the round leaves none.
abbrev pub received_with : ℕ → Act → ℕ
received_with n (act.Send to) = n
received_with n (act.Receive ends ids) = if ends then 0 else n + 1

-- how many Receives of all that was done come after the last that ended a round
abbrev pub received : List Done → ℕ
received done = fold (λ n d. received_with n d.step.act) 0 done

-- the Receive of a drive: of all that waits; the `patience`-th of a round ends it
abbrev pub drive_receive : ℕ → ℕ → Move
drive_receive patience before = Receive All (before + 1 == patience)

-- The move of a drive that made so many Receives in the round. Before the first of them it sends if there is something
-- to send; else it receives.
abbrev pub drive_move : ℕ → ℕ → Option ℕ → Move
drive_move patience before = chosen (before == 0) (drive_receive patience before)

-- a seat after one step of a drive that made `before` Receives in the round, and then `after`
pub record IsMoved (r : Identity) (patience before after : ℕ) (old new : Turns) : Type 0 where
  pub chosen : IsChosen r (drive_move patience before) old new
  pub counted : after ≡ received_with before chosen.done.step.act

-- A seat after so many steps. As many things more are done, each of which a World of the recorder answers to the move
-- of the drive after the things before it. Steps are made only from a seat with the recorder's tag.
pub record IsDriven (r : Identity) (patience steps : ℕ) (old new : Turns) : Type 0 where
  pub more : List Done
  pub count : length more ≡ steps
  pub appended : new ≡ record old { done = old.done ++ more }
  pub answers : (k : ℕ) (d : Done) → slice_get more k ≡ Some d
      → IsChosenAnswer r old.proc (drive_move patience (received (take k more))) d
  pub tag : 0 < steps → old.tag ≡ r.tag

-- Why a drive stops that made `made` of its steps and then `before` Receives in the round, when the
-- seat is so. It is held before its first step; a step is refused only before the last.
abbrev pub IsStop : Identity → ℕ → ℕ → ℕ → ℕ → Turns → DriveStop → Type 0
IsStop r patience steps made before s Held = made ≡ 0
IsStop r patience steps made before s (Record why) = (made < steps)
    × IsChoiceRefusal r s (drive_move patience before) why

-- what a gate answered, if a drive stopped for this reason
abbrev pub was_let_in : DriveStop → Bool
was_let_in Held = false
was_let_in (Record why) = true

-- a seat after a drive that stopped: what was made, and why no more
pub record IsStopped (r : Identity) (patience steps : ℕ) (old new : Turns) (e : DriveError) : Type 0 where
  pub driven : IsDriven r patience e.made old new
  pub stop : IsStop r patience steps e.made (received driven.more) new e.why
