-- Names that are too long for their place (own).
use Rattle.std.specs.Prelude.{ℕ, ◌+◌, ◌-◌, ◌==◌, ◌++◌, not, List, [], ◌∷◌, if◌then◌else◌, nat_le, take, drop, count_by}
use Rattle.run_words.specs.Escapes.{escaped}
use Rattle.run_words.specs.Labels.{goes_on, name_width}

-- how many characters a text in UTF-8 has: those of its bytes that begin one
abbrev pub characters : List ℕ → ℕ
characters text = count_by (λ b. not (goes_on b)) text

-- where character number k begins, from 0; the length if there is none
abbrev pub start_of : ℕ → List ℕ → ℕ
start_of k [] = 0
start_of k (b ∷ bs) =
    if goes_on b then start_of k bs + 1
    else if k == 0 then 0
    else start_of (k - 1) bs + 1

-- a name with at most 15 characters, and else its first seven and its last seven, with an ellipsis between them
abbrev pub short_text : List ℕ → List ℕ
short_text name =
    if nat_le (characters name) 15 then escaped name
    else escaped (take (start_of 7 name) name)
    ++ ((226 ∷ 128 ∷ 166 ∷ []) ++ escaped (drop (start_of (characters name - 7) name) name))

-- how wide it is taken to be then
abbrev pub short_width : List ℕ → ℕ
short_width name =
    if nat_le (characters name) 15 then name_width name
    else name_width (take (start_of 7 name) name) + (120 + name_width (drop (start_of (characters name - 7) name) name))
