-- What a command makes of a trace text, and why it makes nothing of one.
use Rattle.std.specs.Prelude.{ℕ, ◌≡◌, ◌⊎◌, List, ⊤}
use Rattle.step_trace.specs.declared.correct_sets.Correct.{Correct}
use Rattle.step_trace.specs.CorrectSets.{named}
use Rattle.step_trace.specs.Cuts.{IsCutAt}
use Rattle.step_trace.specs.Traces.{Recorded}
use Rattle.command_faults.specs.declared.faults.Fault.{Fault}
use Rattle.command_faults.specs.declared.faults.Fault.TheVariants as fault
use Rattle.command_faults.specs.declared.faults.SetOption.TheVariants as set_option
use Rattle.command_faults.specs.Outside.{IsSetFault}
use Rattle.text_verdicts.specs.Texts.{IsRefusedFor, OfTrace}

-- the text encodes a trace, of which the command gives the other text
abbrev pub IsAnswerTo : (Recorded → List ℕ → Type 0) → List ℕ → List ℕ → Type 0
IsAnswerTo Gives text out = OfTrace (λ t. Gives t out) text

-- The fault is one that the trace is declined for, or out of memory. Refused texts and failing
-- devices are no faults of a trace.
abbrev pub IsDeclined : (Fault → Type 0) → Fault → Type 0
IsDeclined Declines fault.Memory = ⊤
IsDeclined Declines fault.Read = ⊥
IsDeclined Declines (fault.Write n) = ⊥
IsDeclined Declines (fault.Trace reason) = ⊥
IsDeclined Declines w = Declines w

-- What a command leaves of a trace: all of it, or the part up to a tick.
abbrev pub IsLeft : Recorded → Recorded → Type 0
IsLeft trace left = (left ≡ trace) ⊎ ((tick : ℕ) × IsCutAt trace tick left)

-- the fault is the first refusal of the text, or out of memory
abbrev pub IsUnread : List ℕ → Fault → Type 0
IsUnread text (fault.Trace reason) = IsRefusedFor text reason
IsUnread text fault.Memory = ⊤
IsUnread text _ = ⊥

-- Why a text has no answer: its first refusal; or the trace that it encodes is declined for this; or out of memory.
abbrev pub IsUnanswered : (Recorded → Fault → Type 0) → List ℕ → Fault → Type 0
IsUnanswered Declines text fault.Memory = ⊤
IsUnanswered Declines text fault.Read = ⊥
IsUnanswered Declines text (fault.Write n) = ⊥
IsUnanswered Declines text (fault.Trace reason) = IsRefusedFor text reason
IsUnanswered Declines text w = OfTrace (λ t. Declines t w) text

-- a correct processor is none of the trace; the least one is reported, and how many processors there are
abbrev pub IsOutside : Correct → Recorded → Fault → Type 0
IsOutside correct t w = IsSetFault set_option.Correct (named correct t.config.n) t.config.n w
