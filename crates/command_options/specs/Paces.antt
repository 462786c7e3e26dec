-- Paces of runs.
use Rattle.std.specs.Prelude.{ℕ}
use Rattle.command_options.specs.declared.Pace.{Pace}
use Rattle.command_options.specs.declared.Pace.TheVariants as pace

-- the patience of a pace: how many Receives a round takes at most
abbrev pub patience_of : Pace → ℕ
patience_of (pace.Patience n) = n
patience_of (pace.HeardOut n) = n
