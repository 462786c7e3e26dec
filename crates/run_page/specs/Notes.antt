-- What a note says about evidence that the spread made (own).
use Rattle.std.specs.Prelude.{ℕ, ◌∷◌, ◌==◌, List, [], codes, if◌then◌else◌}
use Rattle.std.specs.List.{flat_map}
use Rattle.run_words.specs.Digits.{count_text}

-- texts one after the other
abbrev pub joined : List (List ℕ) → List ℕ
joined texts = flat_map (λ text. text) texts

-- one piece of so many, and several of them
abbrev pub one_text : ℕ → List ℕ
one_text all = joined (codes " <b>1 of the " ∷ count_text all
    ∷ codes " pieces of evidence below comes of that alone</b> and says little of the run." ∷ [])

abbrev pub some_text : ℕ → ℕ → List ℕ
some_text made all =
    joined (codes " <b>" ∷ count_text made ∷ codes " of the " ∷ count_text all
    ∷ codes " pieces of evidence below come of that alone</b> and say little of the run." ∷ [])

-- all of them, some, or nothing if there is none
abbrev pub made_text : ℕ → ℕ → List ℕ
made_text made all =
    if made == 0 then []
    else if made == all then codes " <b>All evidence below comes of that alone</b> and says little of the run."
    else if made == 1 then one_text all
    else some_text made all
