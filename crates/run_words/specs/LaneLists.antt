-- Lanes of processors as a text lists them (own).
use Rattle.std.specs.Prelude.{ℕ, ◌≡◌, ◌<◌, ◌≤◌, ◌+◌, ◌-◌, ◌⊎◌, IsTrue, List, length, decimal, ⊤}
use Rattle.step_trace.specs.declared.processors.TheConstants.{MAX_MEMBER}
use Rattle.step_trace.specs.Processors.{has_proc}
use Rattle.run_words.specs.declared.lane_lists.LanesError.{LanesError}
use Rattle.run_words.specs.declared.lane_lists.LanesError.TheVariants.{NoLane, Above, Memory}
use Rattle.run_words.specs.Names.{name_at}

-- the part is the name of processor p; one without a name has an empty one, which no part denotes
pub record IsNamed (names : List (List ℕ)) (part : List ℕ) (p : ℕ) : Type 0 where
  pub low : 1 ≤ p
  pub high : p ≤ length names
  pub same : name_at names (p - 1) ≡ part
  pub some : 1 ≤ length part

-- the part is the number of processor p, and no name
pub record IsNumbered (names : List (List ℕ)) (part : List ℕ) (p : ℕ) : Type 0 where
  pub low : 1 ≤ p
  pub high : p ≤ MAX_MEMBER
  pub written : part ≡ decimal p
  pub unnamed : (q : ℕ) → ¬ IsNamed names part q

-- the part denotes processor p
abbrev pub IsLane : List (List ℕ) → List ℕ → ℕ → Type 0
IsLane names part p = IsNamed names part p ⊎ IsNumbered names part p

-- The first n parts denote processors up to `count`, and the set has just those.
pub record AreLanesTo (names parts : List (List ℕ)) (count n set : ℕ) : Type 0 where
  pub each : (i : ℕ) → i < n → (p : ℕ) × IsLane names (name_at parts i) p × (p ≤ count) × IsTrue (has_proc set p)
  pub listed : (p : ℕ) → IsTrue (has_proc set p) → (i : ℕ) × (i < n) × IsLane names (name_at parts i) p

-- each part denotes a processor up to `count`, and the set has just those
abbrev pub AreLanes : List (List ℕ) → List (List ℕ) → ℕ → ℕ → Type 0
AreLanes names parts count set = AreLanesTo names parts count (length parts) set

-- The parts before this place, which counts from 1, denote processors up to `count`.
pub record AreLanesBefore (names parts : List (List ℕ)) (count place : ℕ) : Type 0 where
  pub first : 1 ≤ place
  pub within : place ≤ length parts
  pub each : (i : ℕ) → i + 1 < place → (p : ℕ) × IsLane names (name_at parts i) p × (p ≤ count)

-- what a refusal says of the part at this place: it denotes no processor, or one above `count`
abbrev pub IsLaneRefusal : List (List ℕ) → List ℕ → ℕ → ℕ → LanesError → Type 0
IsLaneRefusal names part count place (NoLane given) = (given ≡ place) × ((p : ℕ) → ¬ IsLane names part p)
IsLaneRefusal names part count place (Above p) = IsLane names part p × (count < p)
IsLaneRefusal names part count place Memory = ⊥

-- The part at a place is the first to be refused, for this; or out of memory.
pub record IsFirstRefusal (names parts : List (List ℕ)) (count : ℕ) (why : LanesError) : Type 0 where
  pub place : ℕ
  pub before : AreLanesBefore names parts count place
  pub refused : IsLaneRefusal names (name_at parts (place - 1)) count place why

abbrev pub IsLanesRefusal : List (List ℕ) → List (List ℕ) → ℕ → LanesError → Type 0
IsLanesRefusal names parts count (NoLane place) = IsFirstRefusal names parts count (NoLane place)
IsLanesRefusal names parts count (Above p) = IsFirstRefusal names parts count (Above p)
IsLanesRefusal names parts count Memory = ⊤
