-- The records of a text that is read from a device part by part.
use Rattle.std.specs.Prelude.{ℕ, ◌≡◌, ◌<◌, ◌⊎◌, ◌++◌, ◌∷◌, List, length, Option, IfSome, Result, Ok, Err, MatchBool, ⊤}
use Rattle.std.specs.Io.KnownBytes.{Consumes}
use Rattle.csv.specs.Reading.{default_config, records}
use Rattle.trace_text.specs.declared.byte_loops.TheConstants.{MAX_TEXT_BYTES}
use Rattle.trace_text.specs.Faults.{one_more}
use Rattle.trace_text.specs.Records.{after_records, records_of_text}
use Rattle.event_log.specs.declared.refusals.LogError.{LogError}
use Rattle.event_log.specs.declared.refusals.LogError.TheVariants.{Memory, TooLarge}
use Rattle.event_log.specs.Naming.{is_memory}
use Rattle.log_windows.specs.declared.devices.WindowError.{WindowError}
use Rattle.log_windows.specs.declared.devices.WindowError.TheVariants as unread
use Rattle.log_windows.specs.Places.{EndsNone}

-- the records of a text, which is all that the device had, if that is known, lead there
pub record IsWholeRead {S : Type 0} (next : S → List (List ℕ) → Result S LogError) (start end : S)
    (known : Option (List ℕ)) : Type 0 where
  pub text : List ℕ
  pub is : IfSome known (λ bytes. text ≡ bytes)
  pub leads : after_records next start (records_of_text text) ≡ Ok end

-- Behind a front of the text come more bytes than a record may have, in which no line feed ends a record. For any bytes
-- after them, the records of all lead where those after the front lead from some state: the front isn't refused.
pub record HasLongRecord {S : Type 0} (next : S → List (List ℕ) → Result S LogError) (start : S)
    (text : List ℕ) : Type 0 where
  pub front : List ℕ
  pub long : List ℕ
  pub behind : List ℕ
  pub whole : text ≡ front ++ (long ++ behind)
  pub state : S
  pub leads : (more : List ℕ) → after_records next start (records_of_text (front ++ (long ++ more)))
      ≡ after_records next state (records default_config (long ++ more))
  pub size : MAX_TEXT_BYTES < length long
  pub endless : EndsNone long 0

-- the first record that is refused is refused for this reason; or the text is too large for a record that is too long
abbrev pub HasRefusal : {S : Type 0} → (S → List (List ℕ) → Result S LogError) → S → List ℕ → LogError → Type 0
HasRefusal next start text why = (after_records next start (records_of_text text) ≡ Err why)
    ⊎ ((why ≡ TooLarge) × HasLongRecord next start text)

-- the same; a failed read and out of memory may come anywhere
abbrev pub IsRowRefusal : {S : Type 0} → (S → List (List ℕ) → Result S LogError) → S → WindowError → List ℕ → Type 0
IsRowRefusal next start unread.Read text = ⊤
IsRowRefusal next start (unread.Log why) text = MatchBool (is_memory why) ⊤ (HasRefusal next start text why)

-- the count of faults after reading: one more if it answers Read
abbrev pub faults_after_rows : {A : Type 0} → Result A WindowError → ℕ → ℕ
faults_after_rows (Err unread.Read) n = one_more n
faults_after_rows _ n = n

-- what a device brought was put behind these bytes
pub record Grew (old new : Option (List ℕ)) (before after : List ℕ) : Type 0 where
  pub bytes : List ℕ
  pub read : Consumes old new bytes
  pub is : after ≡ before ++ bytes

-- a failed read, or out of memory
abbrev pub IsUnfilled : WindowError → Type 0
IsUnfilled unread.Read = ⊤
IsUnfilled (unread.Log why) = why ≡ Memory

-- Of the bytes that the device had at first some were dropped, and the others that were read are
-- behind a line feed. For any bytes after them, the records of all lead where those after the
-- dropped bytes lead from here.
pub record IsReadTo {S : Type 0} (next : S → List (List ℕ) → Result S LogError) (start : S)
    (known left : Option (List ℕ)) (rest : List ℕ) (state : S) : Type 0 where
  pub gone : List ℕ
  pub bytes : List ℕ
  pub rest_is : rest ≡ 10 ∷ bytes
  pub read : Consumes known left (gone ++ bytes)
  pub leads : (more : List ℕ) → after_records next start (records_of_text (gone ++ (bytes ++ more)))
      ≡ after_records next state (records default_config (bytes ++ more))

-- reading goes on, or is refused
abbrev pub GoesOnTo : {S A : Type 0} → (S → List (List ℕ) → Result S LogError) → S → Option (List ℕ) → Option (List ℕ)
    → List ℕ → S → Result A WindowError → Type 0
GoesOnTo next start known left rest state (Ok x) = IsReadTo next start known left rest state
GoesOnTo next start known left rest state (Err e) = IfSome known (IsRowRefusal next start e)

-- The front of the bytes was taken in, and the others are behind a line feed. No line feed of theirs ends a record.
pub record IsTaken {S : Type 0} (next : S → List (List ℕ) → Result S LogError) (old new : S)
    (bytes rest : List ℕ) : Type 0 where
  pub front : List ℕ
  pub others : List ℕ
  pub whole : bytes ≡ front ++ others
  pub rest_is : rest ≡ 10 ∷ others
  pub leads : (more : List ℕ) → after_records next old (records default_config (bytes ++ more)) ≡ after_records next new
      (records default_config (others ++ more))
  pub endless : EndsNone others 0

-- the same; or a record of theirs is refused, whatever comes behind
abbrev pub IsFrontTaken : {S A : Type 0} → (S → List (List ℕ) → Result S LogError) → S → S → List ℕ → List ℕ
    → Result A LogError → Type 0
IsFrontTaken next old new bytes rest (Ok x) = IsTaken next old new bytes rest
IsFrontTaken next old new bytes rest (Err why) = MatchBool (is_memory why) ⊤
    ((more : List ℕ) → after_records next old (records default_config (bytes ++ more)) ≡ Err why)
