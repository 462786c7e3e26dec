-- What the buffer of a caller holds.
use Rattle.std.specs.Prelude.{ℕ, List, ◌++◌, length, take, drop}

-- the room with these bytes in place of its first ones, as far as they fit
abbrev pub over : List ℕ → List ℕ → List ℕ
over bytes room = take (length room) bytes ++ drop (length bytes) room
