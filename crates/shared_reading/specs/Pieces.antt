-- A trace text of which some pieces are read without what comes before them.
use Rattle.std.specs.Prelude.{ℕ, ◌≡◌, ◌≤◌, ◌-◌, ◌++◌, List, length, take, drop}
use Rattle.std.specs.Prelude.{Result, Ok, Err, Bool, false, true, MatchBool, ⊤}
use Rattle.csv.specs.Reading.{strip_bom}
use Rattle.step_trace.specs.declared.traces.TheConstants.{MAX_STEPS}
use Rattle.step_trace.specs.Traces.{Recorded}
use Rattle.trace_text.specs.declared.versions.Version.{Version}
use Rattle.trace_text.specs.declared.reading.Stage.{Stage}
use Rattle.trace_text.specs.declared.reading.Stage.TheVariants.{Recording}
use Rattle.trace_text.specs.declared.refusals.TextError.{TextError}
use Rattle.trace_text.specs.Records.{after_records, records_of_text}
use Rattle.trace_text.specs.TextRefusals.{next_stage, is_memory}
use Rattle.shared_reading.specs.Seams.{has_quote, ends_line}
use Rattle.shared_reading.specs.declared.lines.Line.{Line}
use Rattle.shared_reading.specs.Lines.{after_lines}
use Rattle.shared_reading.specs.declared.pieces.Found.{Found}
use Rattle.shared_reading.specs.declared.pieces.Found.TheVariants.{Steps, Unusual, NoMemory}

-- the bytes of a text between two places
abbrev pub part : List ℕ → ℕ → ℕ → List ℕ
part text from end = take (end - from) (drop from text)

-- where the records of a text lead from a stage
abbrev pub read_on : Stage → List ℕ → Result Stage TextError
read_on s text = after_records next_stage s (records_of_text text)

-- these steps, read alone, lead each trace where the bytes lead it, and the bytes may be cut off
pub record IsReadAlone (v : Version) (bytes : List ℕ) (lines : List Line) : Type 0 where
  pub quoteless : has_quote bytes ≡ false
  pub line : ends_line bytes ≡ true
  pub leads : (t : Recorded) → length t.steps ≤ MAX_STEPS → read_on (Recording v t) bytes ≡ after_lines v t lines

-- what was found in these bytes, if it is steps
abbrev pub IsFound : Version → List ℕ → Found → Type 0
IsFound v bytes (Steps read) = IsReadAlone v bytes read.lines
IsFound v bytes Unusual = ⊤
IsFound v bytes NoMemory = ⊤

-- for any bytes behind these, no byte order mark begins with them
abbrev pub IsUnmarked : List ℕ → Type 0
IsUnmarked bytes = (more : List ℕ) → strip_bom (bytes ++ more) ≡ bytes ++ more

-- these bytes may be cut off, and lead there
pub record LeadsAlone (s : Stage) (bytes : List ℕ) (r : Result Stage TextError) : Type 0 where
  pub quoteless : has_quote bytes ≡ false
  pub line : ends_line bytes ≡ true
  pub leads : read_on s bytes ≡ r

-- a stage that takes what was found in a piece leads where the bytes lead, or is unchanged, or one of its steps is
-- refused
abbrev pub TakesFound : Version → Found → Stage → Stage → Result Bool TextError → Type 0
TakesFound v found old new (Ok took) =
    MatchBool took ((bytes : List ℕ) → IsFound v bytes found → LeadsAlone old bytes (Ok new)) (new ≡ old)
TakesFound v found old new (Err e) =
    MatchBool (is_memory e) ⊤ ((bytes : List ℕ) → IsFound v bytes found → LeadsAlone old bytes (Err e))

-- a text was read from one place to another, or is refused
abbrev pub GoesOn : Stage → Stage → List ℕ → ℕ → Result ℕ TextError → Type 0
GoesOn old new text from (Ok at) = (at ≤ length text) × (read_on old (drop from text) ≡ read_on new (drop at text))
GoesOn old new text from (Err e) = MatchBool (is_memory e) ⊤ (read_on old (drop from text) ≡ Err e)
