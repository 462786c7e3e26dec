-- Steps in pages.
use Rattle.std.specs.Prelude.{ℕ, ◌≡◌, ◌++◌, List, length, All}
use Rattle.std.specs.List.{flat_map}
use Rattle.step_trace.specs.declared.steps.Step.{Step}
use Rattle.step_trace.specs.PlacedSteps.{Ticked}

-- each step has a tick
abbrev pub IsPaired : Ticked → Type 0
IsPaired page = length page.ticks ≡ length page.steps

-- the steps of these pages, one page after the other, and their ticks
abbrev pub steps_of : List Ticked → List Step
steps_of pages = flat_map (λ p. p.steps) pages

abbrev pub ticks_of : List Ticked → List ℕ
ticks_of pages = flat_map (λ p. p.ticks) pages

-- the same, with those of the last page behind them
abbrev pub joined : List Ticked → Ticked → Ticked
joined pages last = record { steps = steps_of pages ++ last.steps; ticks = ticks_of pages ++ last.ticks }

-- each step of these pages has a tick
pub record ArePaired (pages : List Ticked) (last : Ticked) : Type 0 where
  pub each : All IsPaired pages
  pub end : IsPaired last
