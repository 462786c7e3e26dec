-- The second line of a fault about a processor or a tick that a trace or a run hasn't, with the line feed before it.
use Rattle.std.specs.Prelude.{ℕ, List, ◌++◌, codes, decimal}
use Rattle.command_faults.specs.declared.faults.MemberOutside.{MemberOutside}
use Rattle.command_faults.specs.declared.faults.ReportOption.{ReportOption}
use Rattle.command_faults.specs.declared.faults.ReportOption.TheVariants as report_option
use Rattle.command_faults.specs.declared.faults.SetOption.{SetOption}
use Rattle.command_faults.specs.declared.faults.SetOption.TheVariants as set_option
use Rattle.command_faults.specs.declared.faults.TickOutside.{TickOutside}
use Rattle.command_faults.specs.Hints.{hint, ticks_words}

-- an option that names processors, as the command line has it
abbrev pub set_option_words : SetOption → List ℕ
set_option_words set_option.Correct = codes "--correct"
set_option_words set_option.Follow = codes "--follow"
set_option_words set_option.From = codes "--from"
set_option_words set_option.To = codes "--to"
set_option_words set_option.Lanes = codes "--lanes"

-- whose processors they are
abbrev pub whose_words : SetOption → List ℕ
whose_words set_option.Correct = codes "the trace"
whose_words set_option.Follow = codes "the run"
whose_words set_option.From = codes "the trace"
whose_words set_option.To = codes "the trace"
whose_words set_option.Lanes = codes "the trace"

-- which processor is named, and which there are
abbrev pub member_line : SetOption → MemberOutside → List ℕ
member_line option o = hint (set_option_words option ++ (codes " names processor " ++ (decimal o.member
    ++ (codes ", and " ++ (whose_words option ++ (codes " has processors 1 to " ++ decimal o.count))))))

-- an option of a part of a report, as the command line has it
abbrev pub report_option_words : ReportOption → List ℕ
report_option_words report_option.Until = codes "--until"
report_option_words report_option.At = codes "--at"
report_option_words report_option.Start = codes "--start"

-- whose ticks they are
abbrev pub ticked_words : ReportOption → List ℕ
ticked_words report_option.Until = codes "the trace"
ticked_words report_option.At = codes "the report"
ticked_words report_option.Start = codes "the trace"

-- which tick is asked for, and which there are
abbrev pub tick_line : ReportOption → TickOutside → List ℕ
tick_line option o = hint (report_option_words option
    ++ (codes " is "
    ++ (decimal o.tick ++ (codes ", and " ++ (ticked_words option ++ (codes " has " ++ ticks_words o.last))))))
