-- The refusals of a text of decisions and of a list of runs in words (docs/FORMATS.md): without the program's name, and
-- without a line feed.
use Rattle.std.specs.Prelude.{ℕ, List, ◌++◌, codes, decimal}
use Rattle.judged_runs.specs.declared.refusals.DecisionsError.{DecisionsError}
use Rattle.judged_runs.specs.declared.refusals.DecisionsError.TheVariants as why
use Rattle.judged_runs.specs.declared.refusals.RunListError.{RunListError}
use Rattle.judged_runs.specs.declared.refusals.RunListError.TheVariants as unlisted

-- a refusal of the record of this number
abbrev pub in_record : ℕ → List ℕ → List ℕ
in_record number words = codes "record " ++ (decimal number ++ (codes ": " ++ words))

-- the words of each refusal
abbrev pub decisions_error_text : DecisionsError → List ℕ
decisions_error_text why.TooLarge = codes "text too large"
decisions_error_text why.BadHeader = codes "bad header"
decisions_error_text why.TooMany = codes "too many records"
decisions_error_text (why.BadFields number) = in_record number (codes "bad fields")
decisions_error_text (why.BadNumber number) = in_record number (codes "bad number")
decisions_error_text (why.BadProcessor number) = in_record number (codes "no such processor")
decisions_error_text (why.BadTick number) = in_record number (codes "no such tick")
decisions_error_text why.Memory = codes "out of memory"

abbrev pub run_list_error_text : RunListError → List ℕ
run_list_error_text unlisted.TooLarge = codes "text too large"
run_list_error_text unlisted.BadHeader = codes "bad header"
run_list_error_text unlisted.TooMany = codes "too many records"
run_list_error_text (unlisted.BadFields number) = in_record number (codes "bad fields")
run_list_error_text unlisted.NoRuns = codes "no runs"
run_list_error_text unlisted.Memory = codes "out of memory"
