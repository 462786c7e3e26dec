-- The reasons against one more step in a tick, in their order.
use Rattle.std.specs.Prelude.{ℕ, ◌+◌, List, length, Option, Some, Bool, true}
use Rattle.std.specs.Prelude.{◌&&◌, ◌==◌, nat_lt, nat_le, not, if◌then◌else◌}
use Rattle.std.specs.Option.{option_map_or}
use Rattle.step_trace.specs.declared.steps.Step.{Step}
use Rattle.step_trace.specs.declared.traces.TheConstants.{MAX_STEPS, MAX_TICKS}
use Rattle.step_trace.specs.declared.traces.PushError.{PushError}
use Rattle.step_trace.specs.declared.traces.PushError.TheVariants.{Full, BadTick, BadProc, ProcOrder, UnknownMessage}
use Rattle.step_trace.specs.declared.traces.PushError.TheVariants.{NotAddressed, SameTick, Redelivered, Memory}
use Rattle.step_trace.specs.Configurations.{is_proc}
use Rattle.step_trace.specs.Steps.{act_ids}
use Rattle.step_trace.specs.Traces.{Recorded, step_at}
use Rattle.step_trace.specs.Ticks.{tick_at, CanAppend}
use Rattle.step_trace.specs.PushRefusals.{is_taken, is_message, is_sent_to, act_refusal, IsLeastFailing}

-- whether a trace may end in this tick
abbrev pub may_end_in : Recorded → ℕ → Bool
may_end_in trace tick = nat_le trace.last tick && nat_le tick MAX_TICKS

-- whether a step of p in this tick comes after the last step: that is in another tick, or of a smaller processor
abbrev pub comes_after_last : List Step → List ℕ → ℕ → ℕ → Bool
comes_after_last steps ticks tick p =
    option_map_or (λ x. not (tick_at ticks (length steps) == tick && nat_le p x.proc))
    (step_at steps (length steps)) true

-- whether message s was sent in this tick
abbrev pub is_sent_in : List ℕ → ℕ → ℕ → Bool
is_sent_in ticks tick s = tick_at ticks s == tick

-- the first reason against one more step in this tick; out of memory aside
abbrev pub refusal_in : Recorded → ℕ → Step → Option PushError
refusal_in trace tick x =
    if nat_lt (length trace.steps) MAX_STEPS then
    (if nat_lt 0 tick && may_end_in trace tick then
    (if is_proc trace.config x.proc then
    (if comes_after_last trace.steps trace.ticks tick x.proc
    then act_refusal trace.config trace.steps (is_sent_in trace.ticks tick) x.proc x.act
    else Some ProcOrder) else Some BadProc) else Some BadTick) else Some Full

-- the first reason against one more step in the tick after the last
abbrev pub next_refusal : Recorded → Step → Option PushError
next_refusal trace x = if nat_lt trace.last MAX_TICKS then refusal_in trace (trace.last + 1) x else Some Full

-- the answer is no reason exactly if the step may be appended in this tick
abbrev pub IsJustifiedIn : Recorded → ℕ → Step → PushError → Type 0
IsJustifiedIn trace tick x Memory = CanAppend trace tick x
IsJustifiedIn trace tick x e = CanAppend trace tick x → ⊥

-- the id that a reason names is the least of its kind
abbrev pub NamesLeastIn : Recorded → ℕ → Step → PushError → Type 0
NamesLeastIn trace tick x (UnknownMessage s) = IsLeastFailing (is_message trace.steps) (act_ids x.act) s
NamesLeastIn trace tick x (NotAddressed s) = IsLeastFailing (λ i. is_sent_to trace.steps i x.proc) (act_ids x.act) s
NamesLeastIn trace tick x (SameTick s) = IsLeastFailing (λ i. not (is_sent_in trace.ticks tick i)) (act_ids x.act) s
NamesLeastIn trace tick x (Redelivered s) = IsLeastFailing (λ i. not (is_taken trace.steps i)) (act_ids x.act) s
NamesLeastIn trace tick x e = Unit {0}
