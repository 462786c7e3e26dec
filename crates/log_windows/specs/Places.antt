-- Places of a text between two records.
use Rattle.std.specs.Prelude.{ℕ, ◌≡◌, ◌≤◌, ◌<◌, ◌+◌, List, length, get_or, take}
use Rattle.csv.specs.declared.parser.State.{State}
use Rattle.csv.specs.declared.parser.State.TheVariants as st
use Rattle.shared_reading.specs.Seams.{IsClosed}

-- the last place between two records, if the next one is in this state
abbrev pub seam_by : State → ℕ → ℕ → ℕ
seam_by st.StartRecord seam next = next
seam_by s seam next = seam

-- no line feed from a place on leaves the reader between two records
abbrev pub EndsNone : List ℕ → ℕ → Type 0
EndsNone text from = (n : ℕ) → from ≤ n → n < length text → get_or text n 0 ≡ 10 → IsClosed (take (n + 1) text) → ⊥
