-- The text of a table of a trace: a header, and a record for each step; and its first refusal, record by record.
use Rattle.std.specs.Prelude.{ℕ, ◌≡◌, ◌<◌, ◌+◌, List, [], ◌++◌, length, Option, Some, None, Result, Ok}
use Rattle.std.specs.Prelude.{Err, Bool, true, false, ◌==◌, ◌&&◌, if◌then◌else◌, nat_le, nat_lt, codes}
use Rattle.std.proofs.Math.ListN.{replicate}
use Rattle.std.specs.Str.{bytes_eq}
use Rattle.std.proofs.Common.{refl, arith, length-append}
use Rattle.step_trace.specs.Traces.{Recorded, step_at}
use Rattle.step_trace.specs.declared.steps.Step.{Step}
use Rattle.trace_text.specs.declared.byte_loops.TheConstants.{MAX_TEXT_BYTES}
use Rattle.trace_text.specs.declared.record_limits.TheConstants.{MAX_FIELDS}
use Rattle.trace_text.specs.RecordLimits.{RefusesLong}
use Rattle.trace_text.specs.Records.{GivesUnless, after_records, field_of, records_of_text}
use Rattle.trace_text.specs.Records as texts
use Rattle.step_tables.specs.declared.refusals.TableError.{TableError}
use Rattle.step_tables.specs.declared.refusals.TableError.TheVariants.{TooLarge, BadHeader, Unfit, Missing, Memory}
use Rattle.step_tables.specs.Records.{after_record, with_record}
use Rattle.step_tables.specs.Told.{SoFar, Told}

-- whether the record has the names of the columns
abbrev pub is_header : List (List ℕ) → Bool
is_header fields =
    (length fields == 9)
    && (bytes_eq (field_of fields 0) (codes "step") &&
    (bytes_eq (field_of fields 1) (codes "tick") && (bytes_eq (field_of fields 2) (codes "begins")
    && (bytes_eq (field_of fields 3) (codes "record") &&
    (bytes_eq (field_of fields 4) (codes "time") && (bytes_eq (field_of fields 5) (codes "node")
    && (bytes_eq (field_of fields 6) (codes "event") &&
    (bytes_eq (field_of fields 7) (codes "to") && bytes_eq (field_of fields 8) (codes "message")))))))))

-- what is known before any record of a step
abbrev pub nothing : Recorded → Told
nothing trace = record { nodes = replicate trace.config.n []; rows = [] }

-- what is known after one more record; before the header nothing is
abbrev pub told_after : Recorded → Option Told → List (List ℕ) → Result (Option Told) TableError
told_after trace None fields = if is_header fields then Ok (Some (nothing trace)) else Err BadHeader
told_after trace (Some told) fields = texts.◌>>=◌ (after_record trace told fields) (λ more. Ok (Some more))

abbrev pub next_told : SoFar → List (List ℕ) → Result SoFar TableError
next_told s fields = texts.◌>>=◌ (told_after s.trace s.told fields)
    (λ more. Ok (record { trace = s.trace; told = more }))

-- there has to be a header, and a record for each step
abbrev pub at_end : ℕ → Option Told → Result Told TableError
at_end steps None = Err BadHeader
at_end steps (Some told) = if nat_lt (length told.rows) steps then Err (Missing (length told.rows + 2)) else Ok told

abbrev pub told_at_end : SoFar → Result Told TableError
told_at_end s = at_end (length s.trace.steps) s.told

-- what these records say about a trace, or the first refusal
abbrev pub told_of_records : Recorded → List (List (List ℕ)) → Result Told TableError
told_of_records trace records =
    texts.◌>>=◌ (after_records next_told (record { trace = trace; told = None }) records) told_at_end

-- what a text says about a trace, or the first refusal
abbrev pub told_of_text : Recorded → List ℕ → Result Told TableError
told_of_text trace text = if nat_le (length text) MAX_TEXT_BYTES then told_of_records trace
    (records_of_text text) else Err TooLarge

abbrev pub is_memory : TableError → Bool
is_memory Memory = true
is_memory e = false

-- the answer, seen by view, is what the table gives, or out of memory
abbrev pub Gives : {X Y : Type 0} → (X → Y) → Result X TableError → Result Y TableError → Type 0
Gives view result table = GivesUnless is_memory view result table

-- something may have to be kept for a record once the header is past, and for the header, since it makes room for names
abbrev pub record_keeps : SoFar → List (List ℕ) → Bool
record_keeps s fields = true

-- a record of too many fields hasn't nine
not_nine : (front more : List (List ℕ)) → MAX_FIELDS < length front → (length (front ++ more) == 9) ≡ false
not_nine front more long =
    let larger : 9 < length (front ++ more) = omega (arith, long, length-append front more) in
    apart (length (front ++ more)) larger where
      apart : (n : ℕ) → 9 < n → (n == 9) ≡ false
      apart n h = grind arith

-- and is refused as soon as it has them
long_record : (at : ℕ) (trace : Recorded) (told : Told) (step : Option Step) (front more : List (List ℕ))
    → MAX_FIELDS < length front → with_record at trace told step (front ++ more) ≡ Err (Unfit at)
long_record at trace told None front more long = refl
long_record at trace told (Some step) front more long = let other = not_nine front more long in rw other refl

long_after : (trace : Recorded) (told : Option Told) (front : List (List ℕ)) → MAX_FIELDS < length front
    → (e : TableError) × ((more : List (List ℕ)) → told_after trace told (front ++ more) ≡ Err e)
long_after trace None front long = (BadHeader, λ more. (let other = not_nine front more long in rw other refl))
long_after trace (Some told) front long = (
  Unfit (length told.rows + 2),
  λ more.
      (rw (long_record (length told.rows + 2) trace told (step_at trace.steps (length told.rows + 1)) front
      more long) refl),
)

pub refuses_long : RefusesLong next_told
refuses_long s front long = let h = long_after s.trace s.told front long in (h.0, λ more. (rw (h.1 more) refl))
