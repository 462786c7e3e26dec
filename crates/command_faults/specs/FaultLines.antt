-- The lines in which faults are reported (docs/FORMATS.md), without their line feeds.
use Rattle.std.specs.Prelude.{ℕ, ◌-◌, List, [], ◌∷◌, ◌++◌, length, ◌==◌, if◌then◌else◌}
use Rattle.std.specs.Prelude.{slice_index, codes, decimal, string_bytes}
use Rattle.trace_text.specs.RefusalTexts.{text_error_text}
use Rattle.front.specs.RefusalTexts.{report_error_text}
use Rattle.event_log.specs.RefusalTexts.{log_error_text}
use Rattle.judged_runs.specs.RefusalTexts.{decisions_error_text, run_list_error_text}
use Rattle.step_tables.specs.RefusalTexts.{table_error_text}
use Rattle.command_faults.specs.declared.faults.Fault.{Fault}
use Rattle.command_faults.specs.declared.faults.Fault.TheVariants as fault
use Rattle.command_faults.specs.declared.faults.PictureOption.{PictureOption}
use Rattle.command_faults.specs.declared.faults.PictureOption.TheVariants as option
use Rattle.command_faults.specs.declared.faults.ListedField.{ListedField}
use Rattle.command_faults.specs.declared.faults.ListedField.TheVariants as field
use Rattle.command_faults.specs.Hints.{certificate_hint, decisions_hint, due_hint, file_hint, formula_hint}
use Rattle.command_faults.specs.Hints.{listed_hint, output_hint, picture_hint, run_list_hint, swapped_hint, table_hint}
use Rattle.command_faults.specs.Hints.{trace_hint}
use Rattle.command_faults.specs.LogFaultLines.{help_line, import_hint, import_option_words, length_hint, log_lead}
use Rattle.command_faults.specs.OutsideLines.{member_line, report_option_words, set_option_words, tick_line}

-- an option of a picture, as the command line has it
abbrev pub option_words : PictureOption → List ℕ
option_words (option.NameCount given processors) = codes "--names"
option_words (option.BadName place) = codes "--names"
option_words (option.SameName place) = codes "--names"
option_words (option.NoLane place) = codes "--lanes"
option_words (option.From from last) = codes "--from"
option_words (option.To to from) = codes "--to"

-- a field of a run in a list, as the list's header has it
abbrev pub listed_field_words : ListedField → List ℕ
listed_field_words field.Trace = codes "trace"
listed_field_words field.Decisions = codes "decisions"
listed_field_words field.Correct = codes "correct"
listed_field_words field.Start = codes "start"

-- the line of a fault, with one more if something is known; that of a refused command line is in its reader's words
abbrev pub fault_line : Fault → List ℕ
fault_line (fault.Command words) = string_bytes words
fault_line (fault.Set option o) = codes "synchrony: no such processor in "
    ++ (set_option_words option ++ member_line option o)
fault_line (fault.Trace reason) = codes "synchrony: trace: " ++ (text_error_text reason ++ trace_hint reason)
fault_line fault.Swapped = codes "synchrony: trace: bad header" ++ swapped_hint
fault_line (fault.Certificate reason) = codes "synchrony: certificate: "
    ++ (report_error_text reason ++ certificate_hint reason)
fault_line (fault.Decisions reason) = codes "synchrony: decisions: "
    ++ (decisions_error_text reason ++ decisions_hint reason)
fault_line (fault.Runs reason) = codes "synchrony: runs: " ++ (run_list_error_text reason ++ run_list_hint reason)
fault_line (fault.Table reason) = codes "synchrony: table: " ++ (table_error_text reason ++ table_hint reason)
fault_line (fault.Listed field) = codes "synchrony: bad " ++ (listed_field_words field ++ listed_hint field)
fault_line (fault.Within why) = codes "synchrony: bad --within" ++ formula_hint why
fault_line fault.Memory = codes "synchrony: out of memory"
fault_line fault.Read = codes "synchrony: cannot read"
fault_line (fault.Unread file trouble) = codes "synchrony: cannot read" ++ file_hint (string_bytes file) trouble
fault_line (fault.Write written) = codes "synchrony: cannot write"
fault_line (fault.Unwritten trouble) = codes "synchrony: cannot write" ++ output_hint trouble
fault_line (fault.NotARun number due) = codes "synchrony: not a run: step " ++ (decimal number ++ due_hint due)
fault_line fault.Threads = codes "synchrony: worker not started or held"
fault_line (fault.Picture option) = codes "synchrony: bad " ++ (option_words option ++ picture_hint option)
fault_line (fault.Report option o) = codes "synchrony: bad " ++ (report_option_words option ++ tick_line option o)
fault_line (fault.Log reason) = codes "synchrony: " ++ (log_lead reason ++ (log_error_text reason ++ help_line reason))
fault_line (fault.Import option) = codes "synchrony: bad " ++ (import_option_words option ++ import_hint option)
fault_line (fault.Length option given) = codes "synchrony: bad "
    ++ (import_option_words option ++ length_hint option (string_bytes given))

-- the text, with a line feed added unless it ends with one
abbrev pub ended_line : List ℕ → List ℕ
ended_line text = if slice_index text (length text - 1) == 10 then text else text ++ 10 ∷ []
