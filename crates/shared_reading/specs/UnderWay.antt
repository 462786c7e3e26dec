-- Pieces of a text that other threads read.
use Rattle.std.specs.Prelude.{ℕ, ◌≡◌, ◌++◌, List}
use Rattle.std.specs.List.{flat_map}
use Rattle.shared_reading.specs.declared.progress.Progress.{Progress}
use Rattle.shared_reading.specs.declared.under_way.UnderWay.{UnderWay}

-- the bytes that a thread was given
abbrev pub bytes_in : UnderWay → List ℕ
bytes_in piece = piece.thread.promise.bytes.value.items

-- the bytes of all these pieces, in their order
abbrev pub bytes_of : List UnderWay → List ℕ
bytes_of pieces = flat_map bytes_in pieces

-- the same bytes, of which others are before the rest
pub record IsMoved (p : Progress) (was : List ℕ) (q : Progress) (is : List ℕ) : Type 0 where
  pub stage : q.stage ≡ p.stage
  pub total : q.total ≡ p.total
  pub bytes : is ++ q.rest.items ≡ was ++ p.rest.items
