-- What pictures and pages call nodes, messages and steps (own).
use Rattle.std.specs.Prelude.{ℕ, ◌++◌, List, [], codes, decimal, if◌then◌else◌, length, nat_lt}
use Rattle.std.specs.Option.{option_map_or}
use Rattle.step_tables.specs.Records.{message_at, source_at}
use Rattle.step_tables.specs.Told.{Said}
use Rattle.run_words.specs.Labels.{name_of}
use Rattle.run_words.specs.LongNames.{long_text}
use Rattle.run_words.specs.ShortNames.{short_text}

-- what processor p is called: its name, which XML and HTML can't mistake for their own, or its number
abbrev pub node_text : List (List ℕ) → ℕ → List ℕ
node_text names p = if nat_lt 0 (length (name_of names p)) then long_text 64
    (name_of names p) else codes "processor " ++ decimal p

-- what processor p is called where there is little room
abbrev pub label_text : List (List ℕ) → ℕ → List ℕ
label_text names p = if nat_lt 0 (length (name_of names p)) then short_text (name_of names p) else decimal p

-- what message s is called: its name, or its number
abbrev pub message_text : List Said → ℕ → List ℕ
message_text said s = if nat_lt 0 (length (message_at said s)) then long_text 48 (message_at said s) else decimal s

-- a record of the log
abbrev pub source_text : ℕ → List ℕ
source_text number = codes ", record " ++ decimal number

-- step k, with its record in the log, if it has one
abbrev pub step_text : List Said → ℕ → List ℕ
step_text said k = codes "step " ++ (decimal k ++ option_map_or source_text (source_at said k) [])
