-- The refusals of a report text in words (docs/FORMATS.md): without the program's name, and without a line feed.
use Rattle.std.specs.Prelude.{ℕ, List, ◌++◌, codes, decimal}
use Rattle.front.specs.declared.refusals.ReportError.{ReportError}
use Rattle.front.specs.declared.refusals.ReportError.TheVariants as why

-- a refusal of the row of this number
abbrev pub in_row : ℕ → List ℕ → List ℕ
in_row number words = codes "row " ++ (decimal number ++ (codes ": " ++ words))

-- the words of each refusal
abbrev pub report_error_text : ReportError → List ℕ
report_error_text why.TooLarge = codes "text too large"
report_error_text why.Read = codes "cannot read"
report_error_text why.BadHeader = codes "bad header"
report_error_text (why.BadFields number) = in_row number (codes "bad fields")
report_error_text (why.BadNumber number) = in_row number (codes "bad number")
report_error_text (why.HalfWitness number) = in_row number (codes "half a witness")
report_error_text why.Memory = codes "out of memory"
