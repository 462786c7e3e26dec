-- Which followers a leader has.
use Rattle.std.specs.Prelude.{ℕ, ◌≡◌, ◌↔◌, ◌⊎◌, ◌<◌, ◌≤◌, ◌++◌, List, [], ◌∷◌, IsTrue, suc, zero, if◌then◌else◌}
use Rattle.step_trace.specs.declared.processors.TheConstants.{MAX_MEMBER}
use Rattle.step_trace.specs.declared.steps.Step.{Step}
use Rattle.step_trace.specs.Processors.{has_proc}
use Rattle.timeouts.specs.Hearing.{IsFrom}

-- one of the steps before this number is a Send of p to q
abbrev pub SendsBefore : List Step → ℕ → ℕ → ℕ → Type 0
SendsBefore steps p q n = (s : ℕ) × (s < n) × IsFrom steps p q s

-- the members are those to which p sends in a step before this number
abbrev pub AreReceivers : List Step → ℕ → ℕ → ℕ → Type 0
AreReceivers steps p n set = (q : ℕ) → IsTrue (has_proc set q) ↔ SendsBefore steps p q n

-- a number that a processor may have
abbrev pub IsProcessor : ℕ → Type 0
IsProcessor p = (1 ≤ p) × (p ≤ MAX_MEMBER)

-- the set has p and q, and no other
pub record IsPair (p q set : ℕ) : Type 0 where
  pub leader : IsTrue (has_proc set p)
  pub follower : IsTrue (has_proc set q)
  pub only : (x : ℕ) → IsTrue (has_proc set x) → (x ≡ p) ⊎ (x ≡ q)

-- the members of a set up to n, in rising order
unfoldable pub members_to : ℕ → ℕ → List ℕ
members_to set zero = []
members_to set (suc n) = members_to set n ++ (if has_proc set (suc n) then suc n ∷ [] else [])
