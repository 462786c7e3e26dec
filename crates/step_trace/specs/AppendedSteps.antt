-- Several steps that are appended, one after the other (own).
use Rattle.std.specs.Prelude.{ℕ, ◌≡◌, ◌+◌, ◌⊎◌, List, [], ◌∷◌, length, Option, Some, None, Result, Ok, Err}
use Rattle.step_trace.specs.declared.steps.Step.{Step}
use Rattle.step_trace.specs.declared.traces.PushError.{PushError}
use Rattle.step_trace.specs.declared.traces.PushError.TheVariants.{Memory}
use Rattle.step_trace.specs.declared.loose_steps.StepRefused.{StepRefused}
use Rattle.step_trace.specs.Traces.{Recorded}
use Rattle.step_trace.specs.Ticks.{with_step}
use Rattle.step_trace.specs.TickRefusals.{refusal_in}

-- what comes of the step of this number, and of the steps after it if nothing is against it
abbrev pub unless_refused : Option PushError → ℕ → Result Recorded StepRefused → Result Recorded StepRefused
unless_refused None at after = after
unless_refused (Some why) at after = Err (record { no = at; why = why })

-- the trace with these steps behind its own, each in its tick, or the first of them that is refused
unfoldable pub appended : Recorded → List Step → List ℕ → Result Recorded StepRefused
appended trace [] ticks = Ok trace
appended trace (x ∷ xs) [] = Ok trace
appended trace (x ∷ xs) (tick ∷ ticks) =
    unless_refused (refusal_in trace tick x) (length trace.steps + 1) (appended (with_step trace tick x) xs ticks)

-- the answer is this refusal, or out of memory
abbrev pub IsStepRefusal : Result Recorded StepRefused → StepRefused → Type 0
IsStepRefusal result e = (e.why ≡ Memory → ⊥) → result ≡ Err e

-- this is the number of one of these steps, and the trace takes those before it, one after the other
unfoldable pub IsReached : Recorded → List Step → List ℕ → ℕ → Type 0
IsReached trace [] ticks at = ⊥
IsReached trace (x ∷ xs) [] at = ⊥
IsReached trace (x ∷ xs) (tick ∷ ticks) at = (at ≡ length trace.steps + 1)
    ⊎ ((refusal_in trace tick x ≡ None) × IsReached (with_step trace tick x) xs ticks at)
