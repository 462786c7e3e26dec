-- What is reported about a refused log.
use Rattle.std.specs.Prelude.{ℕ, List, ◌++◌, codes, decimal, unwrap_or}
use Rattle.event_log.specs.declared.refusals.LogError.{LogError}
use Rattle.event_log.specs.declared.refusals.LogError.TheVariants.{TooLarge, NoColumn, TwoColumns, FromUnfit}
use Rattle.event_log.specs.declared.refusals.LogError.TheVariants.{TooManyEvents, BadFields, BadTime, BadEvent, BadNode}
use Rattle.event_log.specs.declared.refusals.LogError.TheVariants.{BadMessage, NoEvents, TooManyNodes, SentBefore}
use Rattle.event_log.specs.declared.refusals.LogError.TheVariants.{TooFewNodes, TickUnfit, UntilUnfit, IdleUnfit}
use Rattle.event_log.specs.declared.refusals.LogError.TheVariants.{TooManyTicks, NeverSent, WrongReceiver}
use Rattle.event_log.specs.declared.refusals.LogError.TheVariants.{ReceivedBefore, NotLater, SecondEvent, Cycle}
use Rattle.event_log.specs.declared.refusals.LogError.TheVariants.{NoOffsets, TooLate, TooManySteps, Memory}
use Rattle.event_log.specs.declared.refusal_texts.Words.{Words}
use Rattle.event_log.specs.declared.refusal_texts.Words.TheVariants as words
use Rattle.event_log.specs.Columns.{name_of}
use Rattle.trace_text.specs.Names.{text_of}

-- a name as it is printed; each name of a log is text
unfoldable pub printed : List ℕ → List ℕ
printed name = unwrap_or (text_of name) (codes "?")

-- a refusal of the record of this number
abbrev pub in_record : ℕ → List ℕ → List ℕ
in_record number words = codes "record " ++ (decimal number ++ (codes ": " ++ words))

-- a refusal of a message of this record
abbrev pub of_message : ℕ → List ℕ → List ℕ → List ℕ
of_message number name words = codes "record " ++ (decimal number ++ (codes ": message " ++ (printed name ++ words)))

-- a second event of a node in a tick
abbrev pub in_second : ℕ → List ℕ → ℕ → List ℕ
in_second number node tick = codes "record "
    ++ (decimal number ++ (codes ": a second event of " ++ (printed node ++ (codes " in tick " ++ decimal tick))))

-- the line of the words of a refusal
abbrev pub words_text : Words → List ℕ
words_text (words.Log text) = text.now
words_text (words.Column text column) = text.now ++ name_of column
words_text (words.Record number text) = in_record number text.now
words_text (words.Message number message text) = of_message number message.now text.now
words_text (words.Receiver number message node) = of_message number message.now (codes " is for " ++ printed node.now)
words_text (words.SecondEvent number node tick) = in_second number node.now tick

-- the line of each refusal
abbrev pub log_error_text : LogError → List ℕ
log_error_text TooLarge = codes "text too large"
log_error_text (NoColumn column) = codes "no column " ++ name_of column
log_error_text (TwoColumns column) = codes "two columns " ++ name_of column
log_error_text FromUnfit = codes "--from does not fit the times"
log_error_text TooManyEvents = codes "too many events"
log_error_text (BadFields number) = in_record number (codes "bad fields")
log_error_text (BadTime number) = in_record number (codes "bad time")
log_error_text (BadEvent number) = in_record number (codes "bad event")
log_error_text (BadNode number name) = in_record number (codes "bad node")
log_error_text (BadMessage number) = in_record number (codes "bad message")
log_error_text NoEvents = codes "no events"
log_error_text (TooManyNodes number) = in_record number (codes "too many nodes")
log_error_text (SentBefore number message) = of_message number message (codes " was sent before")
log_error_text TooFewNodes = codes "too few nodes"
log_error_text TickUnfit = codes "--tick does not fit the times"
log_error_text UntilUnfit = codes "--until does not fit the times"
log_error_text IdleUnfit = codes "--idle does not fit the times"
log_error_text TooManyTicks = codes "too many ticks"
log_error_text (NeverSent number message) = of_message number message (codes " was never sent")
log_error_text (WrongReceiver number message node) = of_message number message (codes " is for " ++ printed node)
log_error_text (ReceivedBefore number message) = of_message number message (codes " was received before")
log_error_text (NotLater number message hint) =
    of_message number message (codes " is received no later than it was sent")
log_error_text (SecondEvent number node tick hint) = in_second number node tick
log_error_text (Cycle number hops) = in_record number (codes "behind a cycle of messages")
log_error_text (NoOffsets lines) = codes "no offsets of clocks bring the messages into order"
log_error_text TooLate = codes "times are too late to align the clocks"
log_error_text TooManySteps = codes "too many steps"
log_error_text Memory = codes "out of memory"
