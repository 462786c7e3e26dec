-- Moves: what a processor does in a step, by what its node has to send and what waits in its buffer (own).
use Rattle.std.specs.Prelude.{ℕ, ◌≡◌, ◌+◌, List, [], take, length, filter, find, Option, Some, None, Bool}
use Rattle.std.specs.Prelude.{◌==◌, ◌&&◌, not, nat_lt, is_some, is_none, option_map, if◌then◌else◌}
use Rattle.std.specs.List.{list_any}
use Rattle.step_trace.specs.declared.steps.Act.TheVariants as act
use Rattle.step_trace.specs.declared.steps.Step.{Step}
use Rattle.step_trace.specs.Configurations.{Setup, is_proc}
use Rattle.step_trace.specs.PushRefusals.{is_rising}
use Rattle.step_buffers.specs.declared.moves.Take.{Take}
use Rattle.step_buffers.specs.declared.moves.Take.TheVariants.{All, Nothing, Oldest, These}
use Rattle.step_buffers.specs.declared.moves.Move.{Move}
use Rattle.step_buffers.specs.declared.moves.Move.TheVariants.{Send, Receive}
use Rattle.step_buffers.specs.declared.moves.StepError.{StepError}
use Rattle.step_buffers.specs.declared.moves.StepError.TheVariants.{Full, BadProc, NothingToSend, StillSending}
use Rattle.step_buffers.specs.declared.moves.StepError.TheVariants.{IdsNotRising, NotInBuffer, Memory}
use Rattle.step_buffers.specs.Runs.{next_destination}
use Rattle.step_buffers.specs.Buffers.{buffer}

-- whether an id is one of these
abbrev pub is_in : List ℕ → ℕ → Bool
is_in ids s = list_any (λ i. i == s) ids

-- a list without these ids
abbrev pub without : List ℕ → List ℕ → List ℕ
without ids xs = filter (λ s. not (is_in ids s)) xs

-- the ids that a Receive takes out of a buffer
abbrev pub taken_ids : Take → List ℕ → List ℕ
taken_ids All waiting = waiting
taken_ids Nothing waiting = []
taken_ids (Oldest n) waiting = take n waiting
taken_ids (These ids) waiting = ids.now

-- the ids that a move names, of messages that it is to take
abbrev pub named_ids : Move → List ℕ
named_ids (Receive (These ids) ends) = ids.now
named_ids move = []

-- where p sends next; None if all messages of its round are out
abbrev pub next_send : Setup → List Step → ℕ → Option ℕ
next_send c steps p = next_destination c steps p (length steps + 1)

-- the step that a move of p makes
abbrev pub step_of : Setup → List Step → ℕ → Move → Option Step
step_of c steps p Send = option_map (λ to. record { proc = p; act = act.Send to }) (next_send c steps p)
step_of c steps p (Receive taken ends) =
    Some (record { proc = p; act = act.Receive ends (taken_ids taken (buffer steps p)) })

-- the first reason against taking messages out of a buffer
abbrev pub take_refusal : Take → List ℕ → Option StepError
take_refusal All waiting = None
take_refusal Nothing waiting = None
take_refusal (Oldest n) waiting = None
take_refusal (These ids) waiting =
    if is_rising ids.now then option_map (λ s. NotInBuffer s) (find (λ s. not (is_in waiting s)) ids.now)
    else Some IdsNotRising

-- the first reason against a Receive of a processor
abbrev pub receive_refusal : Setup → List Step → ℕ → Take → Bool → Option StepError
receive_refusal c steps p taken ends =
    if ends && is_some (next_send c steps p) then Some StillSending else take_refusal taken (buffer steps p)

-- the first reason against a move of a processor
abbrev pub move_refusal : Setup → List Step → ℕ → Move → Option StepError
move_refusal c steps p Send = if is_none (next_send c steps p) then Some NothingToSend else None
move_refusal c steps p (Receive taken ends) = receive_refusal c steps p taken ends

-- the first reason against a move, if so many steps may be made; out of memory aside
abbrev pub step_refusal : Setup → ℕ → List Step → ℕ → Move → Option StepError
step_refusal c limit steps p move =
    if nat_lt (length steps) limit then
    (if is_proc c p then move_refusal c steps p move else Some BadProc)
    else Some Full

-- the answer is this reason, or out of memory if there is none
abbrev pub IsStepRefusal : StepError → Option StepError → Type 0
IsStepRefusal Memory why = why ≡ None
IsStepRefusal e why = why ≡ Some e
