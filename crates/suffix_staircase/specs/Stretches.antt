-- Levels as stretches of equal bounds.
use Rattle.std.specs.Prelude.{ℕ, ◌-◌, ◌<◌, ◌≤◌, List, [], ◌∷◌, ◌++◌, length, replicate, reverse, IsTrue}
use Rattle.suffix_staircase.specs.declared.levels.Level.{Level}
use Rattle.suffix_staircase.specs.declared.stretches.Stretch.{Stretch}
use Rattle.step_trace.specs.declared.traces.TheConstants.{MAX_TICKS}
use Rattle.suffix_staircase.specs.Levels.{begins, IsStaircase}

-- how many levels there are from the first of these stretches to the last of all
abbrev pub height : List Stretch → ℕ
height [] = 0
height (s ∷ rest) = s.reach

-- the levels of stretches in their order
abbrev pub levels_in : List Stretch → List Level
levels_in [] = []
levels_in (s ∷ rest) = replicate (s.reach - height rest) s.level ++ levels_in rest

-- each stretch has a level, and another bound than the one after it
abbrev pub AreInOrder : List Stretch → Type 0
AreInOrder [] = Unit {0}
AreInOrder (s ∷ rest) = (height rest < s.reach) × IsTrue (begins s.level (levels_in rest)) × AreInOrder rest

-- the levels of stretches in their kept order, from the last to the first
abbrev pub levels_of : List Stretch → List Level
levels_of stretches = levels_in (reverse stretches)

abbrev pub AreStretches : List Stretch → Type 0
AreStretches stretches = AreInOrder (reverse stretches)

-- stretches that are stairs: their levels fall, and are no more than a trace has ticks
abbrev pub AreStairs : List Stretch → Type 0
AreStairs stretches =
    let levels = levels_of stretches in
    AreStretches stretches × IsStaircase levels × (length levels ≤ MAX_TICKS)
