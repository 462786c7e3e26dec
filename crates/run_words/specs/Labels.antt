-- What the lanes of processors are called, and how wide that is taken to be (own).
use Rattle.std.specs.Prelude.{ℕ, ◌-◌, ◌==◌, ◌&&◌, ◌||◌, Bool, nat_le, nat_lt, min}
use Rattle.std.specs.Prelude.{List, [], length, take, sum_by, if◌then◌else◌}
use Rattle.run_words.specs.declared.names.TheConstants.{MAX_NAME_BYTES}
use Rattle.run_words.specs.Names.{name_at}

-- the name of processor p, empty if it has none
abbrev pub name_of : List (List ℕ) → ℕ → List ℕ
name_of names p = if nat_lt p 1 || nat_lt (length names) p then [] else name_at names (p - 1)

-- whether this byte begins a wide character: it is a capital letter, m or w, or the first of three or four bytes
abbrev pub is_wide : ℕ → Bool
is_wide b = (nat_le 65 b && nat_le b 90) || (b == 109 || b == 119) || nat_le 224 b

-- whether this byte goes on with a character that was begun before
abbrev pub goes_on : ℕ → Bool
goes_on b = nat_le 128 b && nat_lt b 192

-- how wide a byte makes a name, in tenths of a pixel
abbrev pub byte_width : ℕ → ℕ
byte_width b =
    if goes_on b then 0
    else if is_wide b then 120
    else 90

-- how wide a name is taken to be: no name has more bytes
abbrev pub name_width : List ℕ → ℕ
name_width name = sum_by byte_width (take (min (length name) MAX_NAME_BYTES) name)
