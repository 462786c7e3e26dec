-- Where a trace differs from one that was seen before (own).
use Rattle.std.specs.Prelude.{ℕ, ◌≡◌, ◌≢◌, ◌+◌, ◌≤◌, ◌<◌, length, Option, option_map}
use Rattle.step_trace.specs.declared.steps.Step.{Step}
use Rattle.step_trace.specs.Traces.{Recorded, step_at}
use Rattle.step_trace.specs.Ticks.{tick_of}
use Rattle.step_trace.specs.Extensions.{Extends}

-- what a trace has at a number: the step, with its tick
abbrev pub placed_at : Recorded → ℕ → Option (ℕ × Step)
placed_at trace k = option_map (λ x. (tick_of trace k, x)) (step_at trace.steps k)

-- The first difference of a trace from one that was seen, of the same configuration, and that it doesn't extend.
-- It is the least number of a step that was seen at which there is none, another one, or one in another tick. If
-- there is no such number, it is the one after all of these. And what there is.
pub record IsFirstDifference (trace seen : Recorded) (place : ℕ) (there : Option (ℕ × Step)) : Type 0 where
  pub config : trace.config ≡ seen.config
  pub first : 1 ≤ place
  pub last : place ≤ length seen.steps + 1
  pub before : (k : ℕ) → k < place → placed_at trace k ≡ placed_at seen k
  pub found : there ≡ placed_at trace place
  pub differs : place ≤ length seen.steps → there ≢ placed_at seen place
  pub off : ¬ Extends trace seen
