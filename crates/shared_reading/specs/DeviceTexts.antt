-- A trace text that is read from a device part by part.
use Rattle.std.specs.Prelude.{ℕ, ◌≡◌, ◌≤◌, ◌<◌, ◌+◌, ◌++◌, List, length, drop}
use Rattle.std.specs.Prelude.{Result, Ok, Err, Option, IfSome, MatchBool, ⊤}
use Rattle.std.specs.Io.KnownBytes.{Consumes, IsAtEnd}
use Rattle.step_trace.specs.Traces.{Recorded}
use Rattle.trace_text.specs.declared.byte_loops.TheConstants.{MAX_TEXT_BYTES}
use Rattle.trace_text.specs.declared.reading.Stage.{Stage}
use Rattle.trace_text.specs.declared.reading.Stage.TheVariants.{Opening}
use Rattle.trace_text.specs.declared.refusals.TextError.{TextError}
use Rattle.trace_text.specs.declared.refusals.TextError.TheVariants as why
use Rattle.trace_text.specs.ByteLoops.{bytes_read}
use Rattle.trace_text.specs.Records.{records_of_text}
use Rattle.trace_text.specs.TextRefusals.{Gives, is_memory, trace_of_records, trace_of_text}
use Rattle.trace_text.specs.TraceTexts.{IsTextTrace, StandsFor}
use Rattle.shared_reading.specs.Pieces.{read_on}
use Rattle.shared_reading.specs.declared.progress.Progress.{Progress}

-- the trace is that of a text within the limit, which is all that the reader had, if that is known
pub record IsTraceRead (known : Option (List ℕ)) (t : Recorded) : Type 0 where
  pub text : List ℕ
  pub is : IfSome known (λ bytes. text ≡ bytes)
  pub trace : IsTextTrace t
  pub stands : StandsFor text t
  pub size : length text ≤ MAX_TEXT_BYTES

-- the refusal is the first of the table; a failed read and out of memory may come anywhere
abbrev pub IsRefusalOf : TextError → List ℕ → Type 0
IsRefusalOf why.Read text = ⊤
IsRefusalOf why.Memory text = ⊤
IsRefusalOf e text = trace_of_text text ≡ Err e

-- the records of a text within the limit, which is all that the reader had, give this
pub record IsGiven (known : Option (List ℕ)) (r : Result Recorded TextError) : Type 0 where
  pub text : List ℕ
  pub is : IfSome known (λ bytes. text ≡ bytes)
  pub size : length text ≤ MAX_TEXT_BYTES
  pub gives : Gives r (trace_of_records (records_of_text text))

-- no more bytes were read than a text may have, if it is known how many
abbrev pub IsWithin : Option (List ℕ) → Option (List ℕ) → Type 0
IsWithin known left = IfSome (bytes_read known left) (λ n. n ≤ MAX_TEXT_BYTES)

-- a refusal: of the reader, out of memory before more bytes were read than the limit, of more, or of the records
abbrev pub IsRefused : Option (List ℕ) → Option (List ℕ) → TextError → Type 0
IsRefused known left why.Read = ⊤
IsRefused known left why.Memory = IsWithin known left
IsRefused known left why.TooLarge = IfSome known (λ bytes. MAX_TEXT_BYTES < length bytes)
IsRefused known left e = IsGiven known (Err e)

-- Of the bytes that the reader had at first some were dropped, then come those before the rest, and the rest, and the
-- others are left. For any bytes after the rest, the records of all lead where those after the first lead from the
-- stage.
pub record IsReadTo (known left : Option (List ℕ)) (before : List ℕ) (p : Progress) : Type 0 where
  pub gone : List ℕ
  pub count : p.total ≡ length (gone ++ (before ++ p.rest.items))
  pub read : Consumes known left (gone ++ (before ++ p.rest.items))
  pub leads : (more : List ℕ) → read_on Opening (gone ++ (before ++ (p.rest.items ++ more))) ≡ read_on p.stage
      (before ++ (p.rest.items ++ more))

-- the front of the rest was taken: for any bytes behind, the records lead where those behind the front lead
abbrev pub IsTaken : Stage → Stage → List ℕ → Result ℕ TextError → Type 0
IsTaken old new rest (Ok cut) = (cut ≤ length rest)
    × ((more : List ℕ) → read_on old (rest ++ more) ≡ read_on new (drop cut rest ++ more))
IsTaken old new rest (Err e) = MatchBool (is_memory e) ⊤ ((more : List ℕ) → read_on old (rest ++ more) ≡ Err e)

-- reading goes on, or is refused
abbrev pub GoesOnTo : {A : Type 0} → Option (List ℕ) → Option (List ℕ) → List ℕ → Progress → Result A TextError → Type 0
GoesOnTo known left before p (Ok x) = IsReadTo known left before p
GoesOnTo known left before p (Err e) = IsRefused known left e

-- a reader brought more bytes than there may be
pub record IsTooMuch (total : ℕ) (old new : Option (List ℕ)) : Type 0 where
  pub bytes : List ℕ
  pub read : Consumes old new bytes
  pub size : MAX_TEXT_BYTES < total + length bytes

-- a refusal for the reader
abbrev pub IsUnread : ℕ → Option (List ℕ) → Option (List ℕ) → TextError → Type 0
IsUnread total old new why.Read = ⊤
IsUnread total old new why.TooLarge = IsTooMuch total old new
IsUnread total old new e = ⊥

-- a reader was read to its end, and brought no more bytes than there may be
pub record IsReadOut (total : ℕ) (old new : Option (List ℕ)) : Type 0 where
  pub bytes : List ℕ
  pub read : Consumes old new bytes
  pub end : IsAtEnd new
  pub size : total + length bytes ≤ MAX_TEXT_BYTES
