use Rattle.std.proofs.Common.{◌≡◌, ◌<◌, ℕ}
use Rattle.step_trace.specs.Ticks.{tick_of}
use Rattle.trace_text.proofs.versions.version_of.Given as goal

-- the steps before this one are in the ticks of their numbers
abbrev pub invariant-loop-no : goal.invariant-loop-no
invariant-loop-no l = (k : ℕ) → k < l.no → tick_of l.trace k ≡ k
