-- Tables with the numbers of the log: no record of one is refused.
use Rattle.std.proofs.Common.{◌≡◌, ℕ, List, [], ◌∷◌, ◌++◌, Err, refl}
use Rattle.std.specs.Prelude.{MatchBool, ⊤}
use Rattle.csv.specs.Writing.{row_text}
use Rattle.trace_text.specs.Records.{after_records}
use Rattle.trace_text.specs.RecordWriting.{our_writer}
use Rattle.event_log.specs.declared.refusals.LogError.{LogError}
use Rattle.event_log.specs.declared.refusals.LogError.TheVariants.{Memory}
use Rattle.event_log.specs.Naming.{is_memory}
use Rattle.log_windows.specs.NumberedRows.{NumberedRows, next_numbered, numbered_row}

pub never-refused : (rows : NumberedRows) (rs : List (List (List ℕ))) (why : LogError) → after_records next_numbered rows rs ≡ Err why → ⊥
never-refused rows [] why h = absurd (cc h)
never-refused rows (fields ∷ rs) why h = never-refused
    (record rows { text = rows.text ++ row_text our_writer (numbered_row rows.places fields) }) rs why h

-- a refusal that can't be another is out of memory
pub only-memory : (why : LogError) (P : Type 0) → (P → ⊥) → MatchBool (is_memory why) ⊤ P → why ≡ Memory
only-memory Memory P no_other h = refl
only-memory why P no_other h = absurd (no_other h)
