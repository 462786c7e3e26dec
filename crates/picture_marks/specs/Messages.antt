-- Messages with the Receives that take them (own).
use Rattle.std.specs.Prelude.{ℕ, ◌==◌, ◌&&◌, Bool, false, List, length, Option}
use Rattle.std.specs.Prelude.{Some, None, slice_index_or, if◌then◌else◌, suc, zero}
use Rattle.std.specs.List.{list_any}
use Rattle.std.specs.Option.{option_map_or}
use Rattle.step_trace.specs.declared.steps.Act.{Act}
use Rattle.step_trace.specs.declared.steps.Act.TheVariants.{Send, Receive}
use Rattle.step_trace.specs.declared.steps.Step.{Step}
use Rattle.step_trace.specs.Traces.{Recorded, ids_at, step_at}
use Rattle.step_trace.specs.Ticks.{tick_of}
use Rattle.picture_marks.specs.declared.messages.Message.{Message}
use Rattle.step_trace.specs.Processors.{has_proc}

-- whether step k takes message s
abbrev pub takes_at : List Step → ℕ → ℕ → Bool
takes_at steps k s = list_any (λ i. i == s) (ids_at steps k)

-- the last step up to number n that takes message s, if there is one; in a trace no other step does
abbrev pub taker : List Step → ℕ → ℕ → Option ℕ
taker steps zero s = None
taker steps (suc n) s = if takes_at steps (suc n) s then Some (suc n) else taker steps n s

-- what a list of takers has for message s
abbrev pub taker_in : List (Option ℕ) → ℕ → Option ℕ
taker_in takers s = slice_index_or takers s None

-- message s, with the Receive that takes it
abbrev pub message_of : List Step → ℕ → Message
message_of steps s = record { sent = s; taken = taker steps (length steps) s }

-- the tick in which a message ends: that of its Receive, or of its Send if nobody takes it
abbrev pub end_of : Recorded → Message → ℕ
end_of trace m = option_map_or (tick_of trace) m.taken (tick_of trace m.sent)

-- the processor of step s; 0 if there is no such step
abbrev pub proc_of : List Step → ℕ → ℕ
proc_of steps s = option_map_or (λ x. x.proc) (step_at steps s) 0

-- whether it is a Send to a processor that has a lane
abbrev pub sends_to_lane : ℕ → Act → Bool
sends_to_lane lanes (Send to) = has_proc lanes to
sends_to_lane lanes (Receive ends ids) = false

-- whether step s is a Send, and both its processor and its receiver have a lane
abbrev pub sends_between : ℕ → List Step → ℕ → Bool
sends_between lanes steps s = option_map_or (λ x. sends_to_lane lanes x.act && has_proc lanes x.proc)
    (step_at steps s) false
