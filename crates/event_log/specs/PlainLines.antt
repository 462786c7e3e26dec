-- Lines that are records without quotes.
use Rattle.std.specs.Prelude.{ℕ, ◌≡◌, ◌<◌, ◌≤◌, ◌++◌, List, ◌∷◌, length, drop}
use Rattle.std.specs.Prelude.{Bool, Result, Ok, Err, MatchBool, ⊤, if◌then◌else◌}
use Rattle.trace_text.specs.Records.{after_records, record_line, records_of_text}
use Rattle.trace_text.specs.RecordWriting.{ArePlain, IsPlain}
use Rattle.event_log.specs.declared.plain_lines.PlainField.{PlainField}
use Rattle.event_log.specs.declared.reading.Reading.{Reading}
use Rattle.event_log.specs.declared.refusals.LogError.{LogError}
use Rattle.event_log.specs.Naming.{is_memory}
use Rattle.event_log.specs.Reading.{next_reading}

-- a line feed behind the last field of a line, a comma behind the others
abbrev pub byte_behind : Bool → ℕ
byte_behind is_last = if is_last then 10 else 44

-- a field that needs no quotes is at a place of a text, and its end is behind the byte that ends it
pub record IsPlainField (text : List ℕ) (at : ℕ) (f : PlainField) : Type 0 where
  pub end : f.end ≤ length text
  pub some : at < f.end
  pub is : drop at text ≡ f.bytes.now ++ byte_behind f.is_last ∷ drop f.end text
  pub plain : IsPlain f.bytes.now

-- the line of these fields, none of which needs quotes, is at a place of a text, and this is its end
pub record EndsLine (text : List ℕ) (at : ℕ) (fields : List (List ℕ)) (end : ℕ) : Type 0 where
  pub within : end ≤ length text
  pub some : at < end
  pub is : drop at text ≡ record_line fields ++ drop end text
  pub plain : ArePlain fields

-- the first record from a place on has these fields, and the others are those from its end on
pub record IsPlainLine (text : List ℕ) (at : ℕ) (fields : List (List ℕ)) (end : ℕ) : Type 0 where
  pub within : end ≤ length text
  pub some : at < end
  pub records : records_of_text (drop at text) ≡ fields ∷ records_of_text (drop end text)

-- the records up to a place were taken in, and the others lead where all lead; or one of them is refused
abbrev pub LeadsTo : Reading → Reading → List ℕ → Result ℕ LogError → Type 0
LeadsTo old new text (Ok at) =
    (at ≤ length text)
    × (after_records next_reading old (records_of_text text) ≡ after_records next_reading new
    (records_of_text (drop at text)))
LeadsTo old new text (Err e) =
    MatchBool (is_memory e) ⊤ (after_records next_reading old (records_of_text text) ≡ Err e)

-- the same of the records from a place on, with what was read up to the place that is given
abbrev pub LeadsOn : Reading → List ℕ → ℕ → Result (Reading × ℕ) LogError → Type 0
LeadsOn old text from (Ok (new, at)) =
    (at ≤ length text)
    × (after_records next_reading old (records_of_text (drop from text)) ≡ after_records next_reading new
    (records_of_text (drop at text)))
LeadsOn old text from (Err e) =
    MatchBool (is_memory e) ⊤ (after_records next_reading old (records_of_text (drop from text)) ≡ Err e)
