-- Which lane of a picture is whose: the processors of a set have lanes, in the order of their numbers (own).
use Rattle.std.specs.Prelude.{ℕ, ◌+◌, min, if◌then◌else◌, suc, zero}
use Rattle.step_trace.specs.declared.processors.TheConstants.{MAX_MEMBER}
use Rattle.step_trace.specs.Processors.{has_proc}

-- how many members of the set are at most n
abbrev pub members_to : ℕ → ℕ → ℕ
members_to set zero = 0
members_to set (suc n) = members_to set n + (if has_proc set (suc n) then 1 else 0)

-- which lane from the top is that of processor p
abbrev pub lane_number : ℕ → ℕ → ℕ
lane_number set p = members_to set (min p MAX_MEMBER)
