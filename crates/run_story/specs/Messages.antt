-- Facts of the messages of a trace, by their numbers (own).
use Rattle.std.specs.Prelude.{ℕ, Bool, false, List, slice_index_or}
use Rattle.std.specs.Option.{option_map_or}
use Rattle.step_trace.specs.declared.steps.Act.{Act}
use Rattle.step_trace.specs.declared.steps.Act.TheVariants.{Send, Receive}
use Rattle.step_trace.specs.declared.steps.Step.{Step}
use Rattle.step_trace.specs.Traces.{step_at}

-- the flag of this number; false if there is none
abbrev pub flag_at : List Bool → ℕ → Bool
flag_at flags s = slice_index_or flags s false

-- who sends, and who receives, in a step of p: 0 if it isn't a Send
abbrev pub sent_by : ℕ → Act → ℕ
sent_by p (Send to) = p
sent_by p (Receive ends ids) = 0

abbrev pub sent_to : Act → ℕ
sent_to (Send to) = to
sent_to (Receive ends ids) = 0

-- the sender of message s: 0 if there is no such message
abbrev pub sender_of : List Step → ℕ → ℕ
sender_of steps s = option_map_or (λ x. sent_by x.proc x.act) (step_at steps s) 0

-- its receiver
abbrev pub receiver_of : List Step → ℕ → ℕ
receiver_of steps s = option_map_or (λ x. sent_to x.act) (step_at steps s) 0
