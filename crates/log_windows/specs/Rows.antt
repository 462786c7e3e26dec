-- Records with another field.
use Rattle.std.specs.Prelude.{ℕ, List, ◌==◌, if◌then◌else◌, length, map}
use Rattle.std.specs.List.{range_with_len}
use Rattle.trace_text.specs.Records.{field_of}

-- the field at a place, if another is put at one
abbrev pub field_or : List (List ℕ) → ℕ → List ℕ → ℕ → List ℕ
field_or fields at value i = if i == at then value else field_of fields i

-- the fields of a record with another one at a place
abbrev pub with_field : List (List ℕ) → ℕ → List ℕ → List (List ℕ)
with_field fields at value = map (field_or fields at value) (range_with_len 0 (length fields))
