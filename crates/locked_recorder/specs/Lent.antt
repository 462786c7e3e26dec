-- What a seat ends as, once what it lent is given back.
use Rattle.std.specs.Prelude.{◌≡◌, ⊤, Result, MatchResult}
use Rattle.std.specs.Borrow.{follows_so, Bor, MutBor, Fml}
use mathlib.Core.Option.{none}
use Rattle.step_buffers.specs.declared.moves.Done.{Done}
use Rattle.locked_recorder.specs.Seats.{Turns, with_done}
use Rattle.locked_recorder.specs.contracts.seats.Seat.{the_row}

-- if a step was made, the seat ends with what the answer shows appended; a refusal leaves it unchanged
abbrev pub Appends : {E : Type 0} → MutBor Turns → Result (Bor Done) E → Fml
Appends s r = follows_so the_row the_row s.ghost_name none (λ _ _. ⊤)
    (λ n. MatchResult r (λ x. n ≡ with_done s.now x.now) (λ _. n ≡ s.now))
