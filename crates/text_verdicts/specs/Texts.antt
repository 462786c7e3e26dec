-- What a trace text encodes, and why it encodes nothing.
use Rattle.std.specs.Prelude.{ℕ, ◌≢◌, ◌≤◌, List, length}
use Rattle.step_trace.specs.declared.correct_sets.Correct.{Correct}
use Rattle.step_trace.specs.CorrectSets.{named}
use Rattle.step_trace.specs.Processors.{IsWithin}
use Rattle.step_trace.specs.Traces.{Recorded}
use Rattle.trace_text.specs.declared.byte_loops.TheConstants.{MAX_TEXT_BYTES}
use Rattle.trace_text.specs.declared.refusals.TextError.{TextError}
use Rattle.trace_text.specs.declared.refusals.TextError.TheVariants as why
use Rattle.trace_text.specs.TraceTexts.{IsTextTrace, StandsFor}
use Rattle.trace_text.specs.TextRefusals.{IsFirstRefusal}

-- The text encodes this trace, and isn't too large.
pub record IsTextOf (text : List ℕ) (t : Recorded) : Type 0 where
  pub trace : IsTextTrace t
  pub stands : StandsFor text t
  pub size : length text ≤ MAX_TEXT_BYTES

-- The text encodes a trace of which this holds.
pub record OfTrace (Holds : Recorded → Type 0) (text : List ℕ) : Type 0 where
  pub trace : Recorded
  pub read : IsTextOf text trace
  pub holds : Holds trace

-- the first refusal of the text; out of memory and a failed read are none
abbrev pub IsRefusedFor : List ℕ → TextError → Type 0
IsRefusedFor text reason = IsFirstRefusal text reason × (reason ≢ why.Read) × (reason ≢ why.Memory)

-- the trace has all correct processors
abbrev pub HasCorrect : Correct → Recorded → Type 0
HasCorrect correct t = IsWithin (named correct t.config.n) t.config.n
