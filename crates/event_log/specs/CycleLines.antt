-- The lines that report a cycle of messages or of clocks, for which a log makes no trace.
use Rattle.std.specs.Prelude.{ℕ, List, [], ◌∷◌, ◌++◌, codes, decimal, ◌==◌, if◌then◌else◌}
use Rattle.std.specs.Fmt.{signed_decimal}
use Rattle.std.specs.List.{flat_map}
use Rattle.event_log.specs.declared.cycle_lines.CycleLine.{CycleLine}
use Rattle.event_log.specs.declared.cycle_lines.CycleLine.TheVariants.{Hop, Clock, More, Together}
use Rattle.event_log.specs.RefusalTexts.{printed}

-- how many hops aren't listed, with the line feed before it; nothing if there are none
abbrev pub more_text : ℕ → List ℕ
more_text more = if more == 0 then [] else 10 ∷ (codes "synchrony: and " ++ (decimal more ++ codes " more"))

-- what is printed for a line, with the line feed before it
abbrev pub line_text : CycleLine → List ℕ
line_text (Hop number node message sender sent after) =
    10
    ∷ (codes "synchrony: record "
    ++ (decimal number
    ++ (codes ": "
    ++ (printed node
    ++ (codes " receives "
    ++ (printed message
    ++ (codes ", which "
    ++ (printed sender ++ (codes " sends in record "
    ++ (decimal sent ++ (codes ", after record " ++ decimal after)))))))))))
line_text (Clock number message sender receiver took sent) =
    10
    ∷ (codes "synchrony: record "
    ++ (decimal number
    ++ (codes ": "
    ++ (printed message
    ++ (codes " from "
    ++ (printed sender
    ++ (codes " to "
    ++ (printed receiver
    ++ (codes " takes "
    ++ (signed_decimal took ++ (codes " (record " ++ (decimal sent ++ codes ")"))))))))))))
line_text (More more) = more_text more
line_text (Together total) = 10
    ∷ (codes "synchrony: together "
    ++ (signed_decimal total
    ++ codes ": clocks drift or step, or events are logged late; --spread alone places them by cause"))

-- the same for all lines
abbrev pub lines_text : List CycleLine → List ℕ
lines_text lines = flat_map line_text lines
