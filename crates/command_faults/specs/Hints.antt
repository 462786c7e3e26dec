-- The lines after that of a fault (docs/FORMATS.md): each begins with a line feed, and there is none if nothing is
-- known.
use Rattle.std.specs.Prelude.{ℕ, ◌+◌, ◌-◌, ◌^◌, min, List, [], ◌∷◌, ◌++◌, codes}
use Rattle.std.specs.Prelude.{decimal, Option, Some, None, ◌==◌, if◌then◌else◌}
use Rattle.trace_text.specs.declared.refusals.TextError.{TextError}
use Rattle.trace_text.specs.declared.refusals.TextError.TheVariants as why
use Rattle.front.specs.declared.refusals.ReportError.{ReportError}
use Rattle.front.specs.declared.refusals.ReportError.TheVariants as uncertified
use Rattle.judged_runs.specs.declared.refusals.DecisionsError.{DecisionsError}
use Rattle.judged_runs.specs.declared.refusals.DecisionsError.TheVariants as undecided
use Rattle.judged_runs.specs.declared.refusals.RunListError.{RunListError}
use Rattle.judged_runs.specs.declared.refusals.RunListError.TheVariants as unlisted
use Rattle.step_tables.specs.declared.refusals.TableError.{TableError}
use Rattle.step_tables.specs.declared.refusals.TableError.TheVariants as untabled
use Rattle.step_buffers.specs.declared.dues.Due.{Due}
use Rattle.step_buffers.specs.declared.dues.DueStep.{DueStep}
use Rattle.step_buffers.specs.declared.dues.DueStep.TheVariants.{SendTo, SendFirst, Receive}
use Rattle.decision_claims.specs.declared.readings.BadFormula.{BadFormula}
use Rattle.decision_claims.specs.declared.readings.BadFormula.TheVariants as unread
use Rattle.command_faults.specs.declared.files.FileTrouble.{FileTrouble}
use Rattle.command_faults.specs.declared.files.FileTrouble.TheVariants as trouble
use Rattle.command_faults.specs.declared.files.OutputTrouble.{OutputTrouble}
use Rattle.command_faults.specs.declared.files.OutputTrouble.TheVariants as output_trouble
use Rattle.command_faults.specs.declared.faults.PictureOption.{PictureOption}
use Rattle.command_faults.specs.declared.faults.PictureOption.TheVariants as option
use Rattle.command_faults.specs.declared.faults.ListedField.{ListedField}
use Rattle.command_faults.specs.declared.faults.ListedField.TheVariants as field

-- one more line
abbrev pub hint : List ℕ → List ℕ
hint words = 10 ∷ (codes "synchrony: " ++ words)

-- why a file wasn't read
abbrev pub trouble_words : FileTrouble → List ℕ
trouble_words trouble.NoSuchFile = codes "no such file"
trouble_words trouble.PermissionDenied = codes "permission denied"
trouble_words trouble.IsADirectory = codes "is a directory"
trouble_words trouble.Unopened = codes "cannot be opened"
trouble_words trouble.Unread = codes "cannot be read"

-- which file wasn't read, as the command line has it, and why
abbrev pub file_hint : List ℕ → FileTrouble → List ℕ
file_hint file trouble = hint (file ++ (codes ": " ++ trouble_words trouble))

-- why standard output wasn't written
abbrev pub output_hint : OutputTrouble → List ℕ
output_hint output_trouble.NoSpace = hint (codes "standard output: no space left")
output_hint output_trouble.QuotaExceeded = hint (codes "standard output: disk quota exceeded")
output_hint output_trouble.FileTooLarge = hint (codes "standard output: file too large")
output_hint output_trouble.Unwritten = hint (codes "standard output: cannot be written")

-- what may be wrong if the decisions begin as a trace, and the trace doesn't
abbrev pub swapped_hint : List ℕ
swapped_hint = hint (codes "the decisions begin as a trace: the two files may be swapped, and the trace comes first")

-- what a trace begins with, for a text that doesn't begin as one
abbrev pub trace_hint : TextError → List ℕ
trace_hint why.BadHeader = hint (codes "a trace begins with dls-trace; if this is a log, import makes a trace of it")
trace_hint e = []

-- likewise of a certificate
abbrev pub certificate_hint : ReportError → List ℕ
certificate_hint uncertified.BadHeader =
    hint (codes "a certificate begins with gst,delta,phi,sent,missed,proc,from,to; the trace comes before it")
certificate_hint e = []

-- what a record of decisions has
abbrev pub decision_hint : List ℕ
decision_hint = hint
    (codes "a record is a processor, a tick and a value, all of them whole numbers; record 1 is the one after the header")

-- of what its processor and its tick are
abbrev pub of_trace_hint : List ℕ
of_trace_hint =
    hint (codes "the processor and the tick are some of the trace; record 1 is the one after the header")

-- what decisions begin with, for a text that doesn't begin as one, and what is wrong in a record
abbrev pub decisions_hint : DecisionsError → List ℕ
decisions_hint undecided.BadHeader = hint (codes "decisions begin with proc,tick,value; the trace comes before them")
decisions_hint (undecided.BadFields number) = decision_hint
decisions_hint (undecided.BadNumber number) = decision_hint
decisions_hint (undecided.BadProcessor number) = of_trace_hint
decisions_hint (undecided.BadTick number) = of_trace_hint
decisions_hint e = []

-- likewise of a list of runs, and what a record has
abbrev pub run_list_hint : RunListError → List ℕ
run_list_hint unlisted.BadHeader = hint (codes "a list of runs begins with trace,decisions,correct,start")
run_list_hint (unlisted.BadFields number) =
    hint (codes "a record has four fields, and quotes around one with commas, as \"1,2\"; record 1 is the one after the header")
run_list_hint unlisted.NoRuns =
    hint (codes "after the header a list has a record for each run, such as run.trace,run.decisions,\"1,2\",1")
run_list_hint e = []

-- where the table of a trace comes from
abbrev pub table_hint : TableError → List ℕ
table_hint untabled.TooLarge = []
table_hint e =
    hint (codes "import LOG --table prints the table of a trace, by the options by which import LOG printed the trace")

-- what a field of a run in a list takes
abbrev pub listed_hint : ListedField → List ℕ
listed_hint field.Trace = hint (codes "trace takes the path of a file, in UTF-8")
listed_hint field.Decisions =
    hint (codes "decisions takes the path of a file, in UTF-8, or nothing for those of the replay")
listed_hint field.Correct = hint (codes "correct takes all, none, or numbers from 1 to 64 with one comma between them")
listed_hint field.Start = hint (codes "start takes a tick, or nothing")

-- why a text is no formula: what is at which operand, counted from 1
abbrev pub formula_hint : BadFormula → List ℕ
formula_hint (unread.Operand operand) =
    hint (codes "operand "
    ++ (decimal operand
    ++ codes " of the formula is no number and none of delta, phi, n, t; the signs are +, *, / and parentheses, and max(A, B) is the greatest"))
formula_hint (unread.Divisor operand) =
    hint
    (codes "operand "
    ++ (decimal operand
    ++ codes " of the formula divides: it has to be a number from 1 on, and all divisors together, multiplied, at most 4294967295"))
formula_hint (unread.Sign operand) =
    hint (codes "after operand "
    ++ (decimal operand ++ codes " of the formula a sign is missing, or a parenthesis or comma doesn't fit"))
formula_hint (unread.Depth operand) =
    hint (codes "before operand " ++ (decimal operand ++ codes " of the formula more than 32 parentheses are open"))

-- what a processor had to do in place of a step that is none of a run, and what a run is
abbrev pub due_words : DueStep → List ℕ
due_words (SendTo to) = codes "send to processor " ++ decimal to
due_words (SendFirst to) = codes "send to processor " ++ (decimal to ++ codes " before ending its round")
due_words Receive = codes "receive, with nothing left to send in its round"

abbrev pub due_hint : Option Due → List ℕ
due_hint (Some due) = hint
    (codes "processor "
    ++ (decimal due.proc
    ++ (codes " had to "
    ++ (due_words due.what
    ++ codes "; a run is a trace that run or simulate printed, and judge takes what another system decided as DECISIONS"))))
due_hint None = []

-- how many names there are
abbrev pub count_words : ℕ → List ℕ
count_words count = if count == 1 then codes "1 name" else decimal count ++ codes " names"

-- the ticks of a trace with this last one
abbrev pub ticks_words : ℕ → List ℕ
ticks_words last = if last == 0 then codes "no ticks" else codes "ticks 1 to " ++ decimal last

-- what an option of a picture says, and what it has to fit: a last tick is at most 999 after the first one
abbrev pub picture_hint : PictureOption → List ℕ
picture_hint (option.NameCount given processors) =
    hint (codes "--names has "
    ++ (count_words given ++ (codes ", and the trace has " ++ (decimal processors ++ codes " processors"))))
picture_hint (option.BadName place) = hint
    (codes "name " ++ (decimal place ++ codes " of --names has to be 1 to 64 bytes of text with no control character"))
picture_hint (option.SameName place) =
    hint (codes "name " ++ (decimal place ++ codes " of --names is the same as an earlier one"))
picture_hint (option.NoLane place) =
    hint (codes "lane " ++ (decimal place ++ codes " of --lanes is neither a name, of --names or --table, nor a number from 1 to 64"))
picture_hint (option.From from last) =
    hint (codes "--from is " ++ (decimal from ++ (codes ", and the trace has " ++ ticks_words last)))
picture_hint (option.To to from) = hint
    (codes "--to is "
    ++ (decimal to ++ (codes ", and has to be from "
    ++ (decimal from ++ (codes " to " ++ decimal (min (from + 999) (2 ^ 64 - 1)))))))
