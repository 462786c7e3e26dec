-- What is reported about a window of a log besides what is reported about a log.
use Rattle.std.specs.Prelude.{ℕ, List, [], ◌∷◌, ◌++◌, ◌==◌, if◌then◌else◌, codes, decimal}

-- the line that says how many events are outside the window
abbrev pub outside_notes : ℕ → List ℕ
outside_notes outside =
    if outside == 0 then codes "synchrony: no event is outside the window" ++ 10 ∷ []
    else if outside == 1 then codes "synchrony: 1 event is outside the window, and left out" ++ 10 ∷ []
    else codes "synchrony: " ++ (decimal outside ++ (codes " events are outside the window, and left out" ++ 10 ∷ []))

-- the line that says how many received messages were sent outside the window, if any were
abbrev pub unsent_notes : ℕ → List ℕ
unsent_notes unsent =
    if unsent == 0 then []
    else if unsent == 1 then codes "synchrony: 1 received message was sent outside the window, and is left out"
    ++ 10 ∷ []
    else codes "synchrony: "
    ++ (decimal unsent ++ (codes " received messages were sent outside the window, and are left out" ++ 10 ∷ []))

abbrev pub window_notes : ℕ → ℕ → List ℕ
window_notes outside unsent = outside_notes outside ++ unsent_notes unsent
