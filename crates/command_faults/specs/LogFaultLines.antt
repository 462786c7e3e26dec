-- What the line of a refused log has besides the words of the refusal, and that of an option by which no log is
-- read.
use Rattle.std.specs.Prelude.{ℕ, List, [], ◌∷◌, ◌++◌, codes, Option, Some, None}
use Rattle.timed_events.specs.declared.events.Hint.{Hint}
use Rattle.timed_events.specs.declared.events.Hint.TheVariants.{ShorterTick, Spread}
use Rattle.event_log.specs.CycleLines.{lines_text}
use Rattle.event_log.specs.RefusalTexts.{printed}
use Rattle.command_faults.specs.declared.faults.ImportOption.{ImportOption}
use Rattle.command_faults.specs.declared.faults.ImportOption.TheVariants as import_option
use Rattle.command_faults.specs.Hints.{hint}
use Rattle.event_log.specs.declared.refusals.LogError.{LogError}
use Rattle.event_log.specs.declared.refusals.LogError.TheVariants.{BadNode, BadTime, FromUnfit, TickUnfit, UntilUnfit}
use Rattle.event_log.specs.declared.refusals.LogError.TheVariants.{IdleUnfit, TooManyTicks, TooManySteps, NotLater}
use Rattle.event_log.specs.declared.refusals.LogError.TheVariants.{SecondEvent, Cycle, NoOffsets, NoColumn}
use Rattle.event_log.specs.declared.refusals.LogError.TheVariants.{BadFields, BadEvent, BadMessage}
use Rattle.event_log.specs.declared.refusals.LogError.TheVariants.{TooLarge, TooManyEvents, TooManyNodes, TooFewNodes}
use Rattle.event_log.specs.declared.refusals.LogError.TheVariants.{NoEvents, SentBefore, NeverSent}

-- what comes before the reason of a refused log: nothing if it begins with an option that doesn't fit
abbrev pub log_lead : LogError → List ℕ
log_lead TickUnfit = []
log_lead UntilUnfit = []
log_lead IdleUnfit = []
log_lead FromUnfit = []
log_lead why = codes "log: "

-- a line of what helps, with the line feed before it
abbrev pub hint_line : Option Hint → List ℕ
hint_line None = []
hint_line (Some ShorterTick) = 10 ∷ codes "synchrony: a shorter --tick sets them apart, and --spread moves one of them"
hint_line (Some Spread) = 10 ∷ codes "synchrony: --spread sets them apart"

-- how a log that is too long is read
abbrev pub window_line : List ℕ
window_line = 10
    ∷ codes "synchrony: --from and --until read a window of a log of any length; a window has at most 67108864 bytes and 1000000 events"

-- what a duration needs
abbrev pub unit_line : List ℕ
unit_line = 10
    ∷ codes "synchrony: a duration fits only times of a known unit; --unit s, ms, us or ns says what whole numbers are"

-- the same for a refused log; nothing if nothing helps
abbrev pub help_line : LogError → List ℕ
help_line TooLarge = window_line
help_line TooManyEvents = window_line
help_line NoEvents = 10
    ∷ codes "synchrony: the log has a header alone, or no record in the window of --from and --until, or --drop-lost leaves all out"
help_line (TooManyNodes number) =
    10 ∷ codes "synchrony: a trace has at most 64 processors, one for each node"
help_line TooFewNodes =
    10 ∷ codes "synchrony: a trace has at least 2 processors; --nodes also names nodes without events"
help_line (SentBefore number message) =
    10 ∷ codes "synchrony: messages to one node have different names: number them"
help_line (NeverSent number message) = 10
    ∷ codes "synchrony: no record sends it to any node; if the log begins in the middle of a run, --from with its first time leaves such messages out"
help_line TickUnfit = unit_line
help_line IdleUnfit = unit_line
help_line UntilUnfit = 10
    ∷ codes "synchrony: --until is a time like those of the log, and not before any of its events; a duration fits decimal seconds, and whole numbers with --unit"
help_line TooManyTicks = 10 ∷ codes "synchrony: a greater --tick makes fewer; --ticks lists those that fit"
help_line FromUnfit = 10 ∷ codes "synchrony: --from is a time like those of the log, and not after --until"
help_line TooManySteps = 10 ∷ codes "synchrony: a greater --tick or a shorter --idle makes fewer"
help_line (NotLater number message hint) = hint_line hint
help_line (SecondEvent number node tick hint) = hint_line hint
help_line (Cycle number lines) = lines_text lines
    ++ 10
    ∷ codes "synchrony: no clocks make this right: the records of a node are out of order, or a message is named wrongly"
help_line (NoOffsets lines) = lines_text lines
help_line (NoColumn column) = 10
    ∷ codes "synchrony: the first record names the columns, in any order, with commas and no spaces between them: time,node,event,to,message"
help_line (BadFields number) = 10 ∷ codes "synchrony: each record has as many fields as the first"
help_line (BadEvent number) = 10 ∷ codes "synchrony: an event is send or receive"
help_line (BadMessage number) = 10
    ∷ codes "synchrony: the name of a message is text with no space or control character, and not empty; a receive has one space between names"
help_line (BadTime number) = 10
    ∷ codes "synchrony: a time is a whole number, decimal seconds like 1700000000.123456, or a time stamp like 2026-11-22T10:00:00.250Z; all are of the kind of record 2's, and with --unit whole numbers"
help_line (BadNode number None) =
    10
    ∷ codes "synchrony: a send names a node in node and in to, a receive in node; a name is text with no control character or semicolon, and not empty"
help_line (BadNode number (Some name)) =
    10 ∷ (codes "synchrony: \"" ++ (printed name ++ codes "\" is not among --nodes, where spaces count"))
help_line why = []

-- an option of a log, as the command line has it
abbrev pub import_option_words : ImportOption → List ℕ
import_option_words import_option.Nodes = codes "--nodes"
import_option_words import_option.Unit = codes "--unit"
import_option_words import_option.Tick = codes "--tick"
import_option_words import_option.Until = codes "--until"
import_option_words import_option.From = codes "--from"
import_option_words import_option.Idle = codes "--idle"

-- what an option takes that is a length of time
abbrev pub length_line : ImportOption → List ℕ
length_line option = hint (import_option_words option ++ codes " takes a number or a duration above 0")

-- what an option takes that is a time
abbrev pub time_line : ImportOption → List ℕ
time_line option = hint (import_option_words option
    ++ codes " takes a time as the log has it, such as 1250, 1700000000.25 or 2026-11-22T10:00:00.250Z, or a duration such as 1m 30s")

-- what an option takes by which a log is read
abbrev pub import_hint : ImportOption → List ℕ
import_hint import_option.Nodes =
    hint (codes "--nodes takes 2 to 64 different names with one comma between them; a name is text with no control character or semicolon, and not empty")
import_hint import_option.Unit = hint (codes "--unit takes s, ms, us or ns")
import_hint import_option.Tick = length_line import_option.Tick
import_hint import_option.Idle = length_line import_option.Idle
import_hint import_option.Until = time_line import_option.Until
import_hint import_option.From = time_line import_option.From

-- what an option has that gives no length of time, and what it takes
abbrev pub length_hint : ImportOption → List ℕ → List ℕ
length_hint option given = hint (import_option_words option
    ++ (codes " is \""
    ++ (given
    ++ codes "\", and takes a number above 0 in the unit of the times (ns for decimal seconds and time stamps), or a duration above 0 such as 250us, 5ms, 1m 30s or 2h, unless the times are whole numbers without --unit")))
