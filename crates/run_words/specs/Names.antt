-- Names of processors as a text lists them (own).
use Rattle.std.specs.Prelude.{ℕ, ◌≡◌, ◌≢◌, ◌<◌, ◌≤◌, ◌==◌, ◌+◌, ◌-◌, ◌&&◌, ◌||◌, Bool, false}
use Rattle.std.specs.Prelude.{nat_lt, nat_le, List, [], length, slice_index_or, ⊤}
use Rattle.std.specs.List.{slice_split}
use Rattle.run_words.specs.declared.names.NamesError.{NamesError}
use Rattle.run_words.specs.declared.names.NamesError.TheVariants.{WrongCount, BadName, SameName, Memory}
use Rattle.run_words.specs.declared.names.TheConstants.{MAX_NAME_BYTES}

-- the parts between the commas
abbrev pub parts_of : List ℕ → List (List ℕ)
parts_of list = slice_split (λ b. b == 44) list

-- name number i, from 0 on
abbrev pub name_at : List (List ℕ) → ℕ → List ℕ
name_at names i = slice_index_or names i []

-- byte number i, from 0 on; 0 after the last
abbrev pub byte_at : List ℕ → ℕ → ℕ
byte_at bytes i = slice_index_or bytes i 0

-- whether a control character is at this place, or U+FFFE or U+FFFF begins there, whose UTF-8 is EF BF BE and EF
-- BF BF
abbrev pub is_refused_at : List ℕ → ℕ → Bool
is_refused_at bytes i =
    (nat_lt (byte_at bytes i) 32 || byte_at bytes i == 127)
    || (byte_at bytes i == 239 && (byte_at bytes (i + 1) == 191 && nat_le 190 (byte_at bytes (i + 2))))

-- no name before number i is the same
abbrev pub IsNew : List (List ℕ) → ℕ → Type 0
IsNew names i = (j : ℕ) → j < i → name_at names j ≢ name_at names i

-- a name of a processor, which XML can hold
pub record IsName (name : List ℕ) : Type 0 where
  pub some : 1 ≤ length name
  pub short : length name ≤ MAX_NAME_BYTES
  pub plain : (i : ℕ) → i < length name → is_refused_at name i ≡ false

-- so many names, all different
pub record AreNames (count : ℕ) (names : List (List ℕ)) : Type 0 where
  pub many : length names ≡ count
  pub each : (i : ℕ) → i < length names → IsName (name_at names i)
  pub different : (i : ℕ) → i < length names → IsNew names i

-- there are so many names, and those before this place, which counts from 1, are names and all different
pub record AreNamesBefore (count : ℕ) (names : List (List ℕ)) (place : ℕ) : Type 0 where
  pub many : length names ≡ count
  pub first : 1 ≤ place
  pub within : place ≤ length names
  pub each : (i : ℕ) → i + 1 < place → IsName (name_at names i)
  pub different : (i : ℕ) → i + 1 < place → IsNew names i

-- what a refusal says: how many there are, or which name is the first that doesn't do
abbrev pub IsNamesRefusal : ℕ → List (List ℕ) → NamesError → Type 0
IsNamesRefusal count names (WrongCount given) = (given ≡ length names) × (given ≢ count)
IsNamesRefusal count names (BadName place) = AreNamesBefore count names place × (¬ IsName (name_at names (place - 1)))
IsNamesRefusal count names (SameName place) = AreNamesBefore count names place × IsName (name_at names (place - 1))
    × (¬ IsNew names (place - 1))
IsNamesRefusal count names Memory = ⊤
