-- Why a command line gives no job, in words.
use Rattle.std.specs.Prelude.{ℕ, List, codes, string_bytes}
use Rattle.command_line.specs.declared.line_errors.LineError.{LineError}
use Rattle.command_line.specs.declared.line_errors.LineError.TheVariants as unread

-- the words of each reason: those of the refusal, or that there is no memory
abbrev pub line_error_text : LineError → List ℕ
line_error_text (unread.Refused words) = string_bytes words
line_error_text unread.Memory = codes "synchrony: out of memory"
