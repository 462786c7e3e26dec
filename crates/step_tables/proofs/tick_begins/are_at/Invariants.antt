use Rattle.std.proofs.Common.{ℕ, ◌≡◌, ◌<◌, true}
use Rattle.step_tables.specs.TickBegins.{is_at_time}
use Rattle.step_tables.proofs.tick_begins.are_at.Given as goal

-- the steps so far begin at these times
abbrev pub invariant-loop-place : goal.invariant-loop-place
invariant-loop-place l = (k : ℕ) → k < l.place → is_at_time l.trace l.times l.rows k ≡ true
