-- Who may step in a tick, as some processors crash.
use Rattle.std.specs.Prelude.{ℕ, ◌≡◌, ◌-◌, ◌≤◌, ◌^◌, ◌==◌, if◌then◌else◌, List}
use Rattle.std.specs.Prelude.{Some, fold, length, map, min, slice_index}
use Rattle.std.specs.List.{range_with_len}
use Rattle.step_trace.specs.declared.steps.Step.{Step}
use Rattle.step_trace.specs.Traces.{step_at}
use Rattle.command_options.specs.declared.simulations.Crash.{Crash}
use Rattle.command_options.specs.Simulations.{IsUp}

-- of a table that has for each processor the last tick in which it may step: p may step in tick x
pub record IsUpIn (lasts : List ℕ) (p x : ℕ) : Type 0 where
  pub low : 1 ≤ p
  pub high : p ≤ length lasts
  pub up : x ≤ slice_index lasts (p - 1)

-- somebody may
abbrev pub IsSomeUp : List ℕ → ℕ → Type 0
IsSomeUp lasts x = (p : ℕ) × IsUpIn lasts p x

-- the last tick in which p may step: the least of those in which it crashes, or the greatest number
abbrev pub last_tick : List Crash → ℕ → ℕ
last_tick crashes p = fold (λ last crash. if crash.proc == p then min last crash.tick else last) (2 ^ 64 - 1) crashes

-- the last tick of each of n processors
abbrev pub lasts_of : ℕ → List Crash → List ℕ
lasts_of n crashes = map (last_tick crashes) (range_with_len 1 n)

-- no processor steps after it crashed
abbrev pub StepBeforeCrashes : List Crash → List Step → Type 0
StepBeforeCrashes crashes steps = (k : ℕ) (step : Step) → step_at steps k ≡ Some step → IsUp crashes step.proc k
