-- How many lanes there are up to a processor.
use Rattle.std.proofs.Common.{ℕ, ◌≡◌, ◌+◌, if◌then◌else◌, refl, suc, arith}
use Rattle.step_trace.specs.Processors.{has_proc}
use Rattle.run_picture.specs.ShownLanes.{members_to}

pub members_more : (set i : ℕ) → members_to set (i + 1) ≡ members_to set i + (if has_proc set (i + 1) then 1 else 0)
members_more set i = let next : i + 1 ≡ suc i = omega arith in rw next refl
