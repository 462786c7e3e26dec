-- Pieces of a text that were read, with their bytes.
use Rattle.std.specs.Prelude.{ℕ, ◌≡◌, List}
use Rattle.shared_reading.specs.declared.read_pieces.ReadPiece.{ReadPiece}
use Rattle.shared_reading.specs.Pieces.{IsFound}

-- a piece of these bytes, and what was found in it
pub record IsReadPiece (bytes : List ℕ) (piece : ReadPiece) : Type 0 where
  pub same : piece.bytes.items ≡ bytes
  pub found : IsFound piece.version bytes piece.found
