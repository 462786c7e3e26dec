-- What contracts see of a seat.
use Rattle.std.specs.Prelude.{ℕ, List, [], ◌∷◌, ◌++◌, map}
use Rattle.std.specs.List.{range_with_len}
use Rattle.step_buffers.specs.declared.moves.Done.{Done}

-- the tag of its recorder, its processor, and all that it did, in order
pub record Turns : Type 0 where
  pub tag : ℕ
  pub proc : ℕ
  pub done : List Done

-- with one more thing done
abbrev pub with_done : Turns → Done → Turns
with_done s d = record s { done = s.done ++ d ∷ [] }

-- the seat of a processor that did nothing yet
abbrev pub opening_seat : ℕ → ℕ → Turns
opening_seat tag p = record { tag = tag; proc = p; done = [] }

-- a seat for each of n processors, in order
abbrev pub opening_seats : ℕ → ℕ → List Turns
opening_seats tag n = map (λ p. opening_seat tag p) (range_with_len 1 n)
