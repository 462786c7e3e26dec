-- How records are written by csv's writer.
use Rattle.std.specs.Prelude.{◌≡◌, ℕ, List, [], ◌∷◌, ◌++◌, true, false, Vec}
use Rattle.std.specs.List.{list_any}
use Rattle.std.specs.Global.{Global}
use Rattle.csv.specs.Writing.{default_writer, needs_byte, fields_written, has_written}
use Rattle.csv.specs.Writing.{writer_setup, writer_under, writer_pending}
use Rattle.csv.specs.declared.writer.Writer.{Writer}
use Rattle.csv.specs.declared.writer.WriterBuilder.{WriterBuilder}

-- as by default, with records of any length
abbrev pub our_writer : WriterBuilder
our_writer = record default_writer { flexible = true }

-- the writer is between two records
abbrev pub IsReady : {W : Type 0} → Writer W → Type 0
IsReady w = (fields_written w ≡ 0) × (has_written w ≡ false) × (writer_setup w ≡ our_writer)

-- what was written so far
abbrev pub written : Writer (Vec ℕ Global) → List ℕ
written w = (writer_under w).items ++ writer_pending w

-- no byte of the field calls for quotes
abbrev pub IsPlain : List ℕ → Type 0
IsPlain field = list_any (needs_byte our_writer) field ≡ false

-- no field of the record does
abbrev pub ArePlain : List (List ℕ) → Type 0
ArePlain [] = Unit {0}
ArePlain (field ∷ rest) = IsPlain field × ArePlain rest
