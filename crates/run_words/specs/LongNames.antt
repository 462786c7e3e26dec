-- Names of a log, which may have any length (own).
use Rattle.std.specs.Prelude.{ℕ, ◌-◌, ◌++◌, List, [], ◌∷◌, if◌then◌else◌, nat_le, take, drop}
use Rattle.run_words.specs.Escapes.{escaped}
use Rattle.run_words.specs.ShortNames.{characters, start_of}

-- a name with at most so many characters, and else its first 30 and its last 15, with an ellipsis between them
abbrev pub long_text : ℕ → List ℕ → List ℕ
long_text most name =
    if nat_le (characters name) most then escaped name
    else escaped (take (start_of 30 name) name)
    ++ ((226 ∷ 128 ∷ 166 ∷ []) ++ escaped (drop (start_of (characters name - 15) name) name))
