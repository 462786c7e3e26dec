-- Notes of messages: the place of message s in a list is s (own).
use Rattle.std.specs.Prelude.{ℕ, ◌≡◌, ◌==◌, List, slice_index, if◌then◌else◌}
use Rattle.std.specs.List.{list_any}

-- x is noted for these messages, and for others there is what was before
abbrev pub AreNoted : ℕ → List ℕ → List ℕ → List ℕ → Type 0
AreNoted x ids old new = (s : ℕ)
    → slice_index new s ≡ (if list_any (λ i. i == s) ids then x else slice_index old s)
