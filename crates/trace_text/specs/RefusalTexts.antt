-- The refusals of a trace text, and of its writing, in words (docs/FORMATS.md): without the program's name, and without
-- a line feed.
use Rattle.std.specs.Prelude.{ℕ, List, ◌++◌, codes, decimal}
use Rattle.step_trace.specs.PushErrorTexts.{push_error_text}
use Rattle.trace_text.specs.declared.refusals.TextError.{TextError}
use Rattle.trace_text.specs.declared.refusals.TextError.TheVariants as why
use Rattle.trace_text.specs.declared.refusals.WriteError.{WriteError}
use Rattle.trace_text.specs.declared.refusals.WriteError.TheVariants as unwritten

-- a refusal of the step of this number
abbrev pub at_step : ℕ → List ℕ → List ℕ
at_step number words = codes "step " ++ (decimal number ++ (codes ": " ++ words))

-- the words of each refusal
abbrev pub text_error_text : TextError → List ℕ
text_error_text why.TooLarge = codes "text too large"
text_error_text why.Read = codes "cannot read"
text_error_text why.BadHeader = codes "bad header"
text_error_text why.BadVersion = codes "bad version"
text_error_text why.BadSize = codes "bad size"
text_error_text why.BadInit = codes "bad init"
text_error_text (why.BadFields number) = at_step number (codes "bad fields")
text_error_text (why.WrongNumber number) = at_step number (codes "wrong number")
text_error_text (why.BadOp number) = at_step number (codes "bad operation")
text_error_text (why.BadNumber number) = at_step number (codes "bad number")
text_error_text (why.BadStep number reason) = at_step number (push_error_text reason)
text_error_text why.NoEnd = codes "no end"
text_error_text why.WrongEnd = codes "wrong end"
text_error_text why.AfterEnd = codes "text after end"
text_error_text why.Memory = codes "out of memory"

-- the words of each reason why a text wasn't written whole
abbrev pub write_error_text : WriteError → List ℕ
write_error_text (unwritten.Write count) = codes "cannot write"
write_error_text unwritten.Memory = codes "out of memory"
