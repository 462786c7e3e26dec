-- A log whose receives have only messages that it sends.
use Rattle.std.specs.Prelude.{ℕ, List, [], ◌∷◌, Option, Some, None, Result, Ok}
use Rattle.trace_text.specs.Records.{◌>>=◌, after_records, records_of_text}
use Rattle.event_log.specs.declared.columns.Columns.{Columns}
use Rattle.event_log.specs.declared.refusals.LogError.{LogError}
use Rattle.event_log.specs.Columns.{columns_of}
use Rattle.log_windows.specs.declared.kept_names.Keeping.{Keeping}
use Rattle.log_windows.specs.KeptTexts.{Kept, kept_event, with_kept}

-- the header, and then an event in each record
abbrev pub kept_by : Option Columns → Keeping → List (List ℕ) → Result Keeping LogError
kept_by None k fields = columns_of fields >>= λ columns.
    Ok (record k { columns = Some columns; kept = with_kept fields 0 k.kept })
kept_by (Some columns) k fields = Ok (record k { kept = kept_event columns k.sent fields k.kept })

-- what one more record makes of what is kept
abbrev pub next_kept : Keeping → List (List ℕ) → Result Keeping LogError
next_kept k fields = kept_by k.columns k fields

-- nothing is kept yet, after a line feed
abbrev pub nothing_kept : List (List ℕ) → Keeping
nothing_kept sent = record { columns = None; sent = sent; kept = record { text = 10 ∷ []; unsent = 0 } }

-- the log, by the keys of the messages that are sent
abbrev pub names_kept : List (List ℕ) → List ℕ → Result Kept LogError
names_kept sent text = after_records next_kept (nothing_kept sent) (records_of_text text) >>= λ k. Ok k.kept
