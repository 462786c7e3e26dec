-- Sets of processors as texts (own).
use Rattle.std.specs.Prelude.{ℕ, ◌≡◌, ◌<◌, ◌≤◌, ◌↔◌, ◌⊎◌, List, [], length, map, Contains, IsTrue, decimal, codes}
use Rattle.std.specs.List.{join_with_byte}
use Rattle.step_trace.specs.declared.processors.TheConstants.{MAX_MEMBER}
use Rattle.step_trace.specs.Processors.{has_proc}

-- The text lists these numbers: their digits, with one comma between each two. There is at least one
-- number, and each is from 1 to MAX_MEMBER.
pub record IsListOf (text numbers : List ℕ) : Type 0 where
  pub some : 0 < length numbers
  pub low : (p : ℕ) → Contains numbers p → 1 ≤ p
  pub high : (p : ℕ) → Contains numbers p → p ≤ MAX_MEMBER
  pub written : text ≡ join_with_byte 44 (map decimal numbers)

-- the members of the set are these numbers
abbrev pub HasMembers : ℕ → List ℕ → Type 0
HasMembers set numbers = (p : ℕ) → IsTrue (has_proc set p) ↔ Contains numbers p

-- the set is what the text says: no processor if it is the word `none`, else the numbers that it lists
abbrev pub IsSetIn : List ℕ → ℕ → Type 0
IsSetIn text set = ((text ≡ codes "none") × HasMembers set [])
    ⊎ ((numbers : List ℕ) × IsListOf text numbers × HasMembers set numbers)
