-- Steps that a trace has taken unchanged, and that are checked after that (own).
use Rattle.std.specs.Prelude.{ℕ, ◌≡◌, ◌≤◌, length, take, drop, Result}
use Rattle.step_trace.specs.Configurations.{Setup}
use Rattle.step_trace.specs.declared.loose_steps.StepRefused.{StepRefused}
use Rattle.step_trace.specs.declared.unchecked_steps.Unchecked.{Unchecked}
use Rattle.step_trace.specs.Traces.{Recorded}
use Rattle.step_trace.specs.Ticks.{IsTrace}
use Rattle.step_trace.specs.PlacedSteps.{Ticked}
use Rattle.step_trace.specs.DeliveryIndex.{IsIndex}
use Rattle.step_trace.specs.AppendedSteps.{appended, IsReached}

-- the first n of these steps, as a trace that ends in this tick
abbrev pub front_of : Setup → Ticked → ℕ → ℕ → Recorded
front_of config placed n last =
    record { config = config; steps = take n placed.steps; ticks = take n placed.ticks; last = last }

-- where the steps after the first n lead that trace
abbrev pub rest_of : Setup → Ticked → ℕ → ℕ → Result Recorded StepRefused
rest_of config placed n last = appended (front_of config placed n last) (drop n placed.steps) (drop n placed.ticks)

-- the trace of the steps that were checked: those for which there is a flag
abbrev pub checked : Unchecked → Recorded
checked u = front_of u.config u.placed (length u.taken.items) u.last

-- where the others lead it
abbrev pub unchecked : Unchecked → Result Recorded StepRefused
unchecked u = rest_of u.config u.placed (length u.taken.items) u.last

-- all steps before this number, which is that of an unchecked one, fit where they are
abbrev pub IsLeft : Unchecked → ℕ → Type 0
IsLeft u at = IsReached (checked u) (drop (length u.taken.items) u.placed.steps)
    (drop (length u.taken.items) u.placed.ticks) at

-- What was checked is a trace, and the flags say which of its messages were taken.
pub record IsChecked (u : Unchecked) : Type 0 where
  pub trace : IsTrace (checked u)
  pub index : IsIndex (checked u).steps u.taken.items
  pub inside : length u.taken.items ≤ length u.placed.steps
  pub each : length u.placed.ticks ≡ length u.placed.steps
