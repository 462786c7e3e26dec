-- The first refusal of a trace text, record by record.
use Rattle.std.specs.Prelude.{ℕ, ◌≡◌, ◌+◌, ◌*◌, ◌≤◌, List, [], ◌∷◌, length, drop, Option, Some, None, Result, Ok, Err}
use Rattle.std.specs.Prelude.{Bool, true, false, ◌&&◌, ◌||◌, ◌==◌, nat_le, if◌then◌else◌, codes, decimal, option_map}
use Rattle.std.specs.Prelude.{MatchBool, ⊤, is_none, is_some, is_ok}
use Rattle.std.specs.Str.{bytes_eq}
use Rattle.std.specs.List.{slice_split}
use Rattle.std.specs.Option.{option_and_then, ok_or}
use Rattle.step_trace.specs.declared.steps.Act.{Act}
use Rattle.step_trace.specs.declared.steps.Act.TheVariants.{Send, Receive}
use Rattle.step_trace.specs.declared.steps.Step.{Step}
use Rattle.step_trace.specs.declared.traces.PushError.{PushError}
use Rattle.step_trace.specs.declared.configurations.TheConstants.{MIN_PROCESSORS, MAX_PROCESSORS}
use Rattle.step_trace.specs.Configurations.{config_refusal}
use Rattle.step_trace.specs.Traces.{Recorded}
use Rattle.step_trace.specs.Ticks.{with_step, with_last}
use Rattle.step_trace.specs.TickRefusals.{may_end_in, refusal_in}
use Rattle.trace_text.specs.declared.byte_loops.TheConstants.{MAX_TEXT_BYTES}
use Rattle.trace_text.specs.declared.step_records.Operation.{Operation}
use Rattle.trace_text.specs.declared.step_records.Operation.TheVariants as op
use Rattle.trace_text.specs.declared.versions.Version.{Version}
use Rattle.trace_text.specs.declared.versions.Version.TheVariants.{One, Two}
use Rattle.trace_text.specs.declared.reading.Stage.{Stage}
use Rattle.trace_text.specs.declared.reading.Stage.TheVariants.{Opening, Sized, Recording, Ended}
use Rattle.trace_text.specs.declared.refusals.TextError.{TextError}
use Rattle.trace_text.specs.declared.refusals.TextError.TheVariants.{TooLarge, BadHeader, BadVersion, BadSize, BadInit}
use Rattle.trace_text.specs.declared.refusals.TextError.TheVariants.{BadFields, WrongNumber, BadOp, BadNumber, BadStep}
use Rattle.trace_text.specs.declared.refusals.TextError.TheVariants.{NoEnd, WrongEnd, AfterEnd, Memory}
use Rattle.trace_text.specs.Records.{◌>>=◌, GivesUnless, ReachesUnless, after_records}
use Rattle.trace_text.specs.Records.{field_of, number_of, records_of_text}

-- the numbers whose texts these are, if each is one
abbrev pub numbers_of : List (List ℕ) → Option (List ℕ)
numbers_of [] = Some []
numbers_of (f ∷ fs) = option_and_then (λ n. option_map (λ ns. n ∷ ns) (numbers_of fs)) (number_of f)

-- the parts of a field that have one space between them
abbrev pub parts_of : List ℕ → List (List ℕ)
parts_of field = slice_split (λ c. c == 32) field

-- whether there is a first text, and it is a number
abbrev pub begins_with_number : List (List ℕ) → Bool
begins_with_number [] = false
begins_with_number (f ∷ fs) = is_some (number_of f)

-- numbers with one space between them, possibly none
abbrev pub ids_of : List ℕ → Option (List ℕ)
ids_of [] = Some []
ids_of (b ∷ bs) = numbers_of (parts_of (b ∷ bs))

-- the version that a field names
abbrev pub version_named : List ℕ → Option Version
version_named field =
    if bytes_eq field (codes "1") then Some One
    else if bytes_eq field (codes "2") then Some Two
    else None

abbrev pub operation_of : List ℕ → Option Operation
operation_of field =
    if bytes_eq field (codes "S") then Some op.Send
    else if bytes_eq field (codes "R") then Some op.Receive
    else if bytes_eq field (codes "E") then Some op.EndRound
    else None

-- what an operation and its argument say, if the argument is what the operation asks for
abbrev pub act_of : Operation → List ℕ → Option Act
act_of op.Send arg = option_map (λ to. Send to) (number_of arg)
act_of op.Receive arg = option_map (λ ids. Receive false ids) (ids_of arg)
act_of op.EndRound arg = option_map (λ ids. Receive true ids) (ids_of arg)

-- N and t are numbers within their limits
abbrev pub is_size : ℕ → ℕ → Bool
is_size n t = nat_le MIN_PROCESSORS n && nat_le n MAX_PROCESSORS && nat_le (2 * t + 1) n

abbrev pub sized : Version → ℕ → ℕ → Result Stage TextError
sized v n t = if is_size n t then Ok (Sized v n t) else Err BadSize

abbrev pub size_stage : Version → List (List ℕ) → Result Stage TextError
size_stage v fields = ok_or (number_of (field_of fields 2)) BadSize >>= λ n.
    ok_or (number_of (field_of fields 3)) BadSize >>= λ t. sized v n t

-- the header: four fields, the name, the version, and the size
abbrev pub header_stage : List (List ℕ) → Result Stage TextError
header_stage fields =
    if (length fields == 4) && bytes_eq (field_of fields 0) (codes "dls-trace") then
    (ok_or (version_named (field_of fields 1)) BadVersion >>= λ v. size_stage v fields)
    else Err BadHeader

-- as many initial values as processors (N and t are within their limits by then)
abbrev pub started : Version → ℕ → ℕ → List ℕ → Result Stage TextError
started v n t values =
    if is_none (config_refusal n t (length values)) then Ok
    (Recording v (record { config = record { n = n; t = t; init = values }; steps = []; ticks = []; last = 0 }))
    else Err BadInit

abbrev pub values_stage : Version → ℕ → ℕ → List (List ℕ) → Result Stage TextError
values_stage v n t fields = ok_or (numbers_of fields) BadInit >>= λ values. started v n t values

-- the initial values: `init` and the numbers
abbrev pub init_stage : Version → ℕ → ℕ → List (List ℕ) → Result Stage TextError
init_stage v n t fields = if bytes_eq (field_of fields 0) (codes "init") then values_stage v n t
    (drop 1 fields) else Err BadInit

-- how many fields a step has
abbrev pub step_fields : Version → ℕ
step_fields One = 4
step_fields Two = 5

-- the place of a step's processor; the operation and the argument follow
abbrev pub proc_place : Version → ℕ
proc_place One = 1
proc_place Two = 2

-- the tick of a step: its number in version 1, the second field in version 2
abbrev pub step_tick : Version → ℕ → List (List ℕ) → Option ℕ
step_tick One at fields = Some at
step_tick Two at fields = number_of (field_of fields 1)

-- the operation of a step, then its tick, its processor and its argument
abbrev pub step_of : Version → ℕ → List (List ℕ) → Result (ℕ × Step) TextError
step_of v at fields =
    ok_or (operation_of (field_of fields (proc_place v + 1))) (BadOp at) >>= λ o.
    ok_or (step_tick v at fields) (BadNumber at)
    >>= λ tick. ok_or (number_of (field_of fields (proc_place v))) (BadNumber at)
    >>= λ p. ok_or (act_of o (field_of fields (proc_place v + 2))) (BadNumber at) >>= λ a.
    Ok (tick, record { proc = p; act = a })

-- one more step in this tick, if the trace doesn't refuse it
abbrev pub pushed : Version → Recorded → ℕ → Step → Option PushError → Result Stage TextError
pushed v t tick x None = Ok (Recording v (with_step t tick x))
pushed v t tick x (Some why) = Err (BadStep (length t.steps + 1) why)

abbrev pub push_stage : Version → Recorded → List (List ℕ) → Result Stage TextError
push_stage v t fields = step_of v (length t.steps + 1) fields >>= λ x. pushed v t x.0 x.1 (refusal_in t x.0 x.1)

-- a step: its fields, its number, and what the trace takes
abbrev pub step_stage : Version → Recorded → List (List ℕ) → Result Stage TextError
step_stage v t fields =
    if length fields == step_fields v then
    (if bytes_eq (field_of fields 0) (decimal (length t.steps + 1)) then push_stage v t fields else Err
    (WrongNumber (length t.steps + 1)))
    else Err (BadFields (length t.steps + 1))

-- the end of a trace: in version 1 the text of the number of steps, in version 2 a tick in which the trace may end
abbrev pub ended : Version → Recorded → List ℕ → Result Stage TextError
ended One t field = if bytes_eq field (decimal (length t.steps)) then Ok (Ended t) else Err WrongEnd
ended Two t field = ok_or (number_of field) WrongEnd >>= λ last.
    if may_end_in t last then Ok (Ended (with_last t last)) else Err WrongEnd

-- the end: two fields
abbrev pub end_stage : Version → Recorded → List (List ℕ) → Result Stage TextError
end_stage v t fields = if length fields == 2 then ended v t (field_of fields 1) else Err
    (BadFields (length t.steps + 1))

-- what one more record makes of a stage
abbrev pub next_stage : Stage → List (List ℕ) → Result Stage TextError
next_stage Opening fields = header_stage fields
next_stage (Sized v n t) fields = init_stage v n t fields
next_stage (Recording v t) fields = if bytes_eq (field_of fields 0)
    (codes "end") then end_stage v t fields else step_stage v t fields
next_stage (Ended t) fields = Err AfterEnd

-- the answer for a stage at the end of the text
abbrev pub trace_at_end : Stage → Result Recorded TextError
trace_at_end Opening = Err BadHeader
trace_at_end (Sized v n t) = Err BadInit
trace_at_end (Recording v t) = Err NoEnd
trace_at_end (Ended t) = Ok t

-- the trace of these records, or the first refusal
abbrev pub trace_of_records : List (List (List ℕ)) → Result Recorded TextError
trace_of_records records = after_records next_stage Opening records >>= λ s. trace_at_end s

-- the trace of a text, or the first refusal
abbrev pub trace_of_text : List ℕ → Result Recorded TextError
trace_of_text text = if nat_le (length text) MAX_TEXT_BYTES then trace_of_records
    (records_of_text text) else Err TooLarge

abbrev pub is_memory : TextError → Bool
is_memory Memory = true
is_memory e = false

-- the answer is what the table gives, or out of memory
abbrev pub Gives : {A : Type 0} → Result A TextError → Result A TextError → Type 0
Gives result table = GivesUnless is_memory (λ x. x) result table

-- the same of an answer that is paired with the stage that was reached
abbrev pub LeadsTo : Result ⊤ TextError → Stage → Result Stage TextError → Type 0
LeadsTo result stage table = ReachesUnless is_memory result stage table

-- whether ids have to be kept for what an operation and its argument say
abbrev pub act_keeps : Operation → List ℕ → Bool
act_keeps op.Send arg = false
act_keeps op.Receive arg = begins_with_number (parts_of arg)
act_keeps op.EndRound arg = begins_with_number (parts_of arg)

-- the same of the fields of a step, once its operation, its tick and its processor are read
abbrev pub fields_keep : Option Operation → Option ℕ → List ℕ → List ℕ → Bool
fields_keep None tick proc arg = false
fields_keep (Some o) tick proc arg = is_some tick && is_some (number_of proc) && act_keeps o arg

-- the same of a step's record
abbrev pub step_keeps : Version → ℕ → List (List ℕ) → Bool
step_keeps v at fields =
    fields_keep (operation_of (field_of fields (proc_place v + 1))) (step_tick v at fields)
    (field_of fields (proc_place v)) (field_of fields (proc_place v + 2))

-- whether a record has a step's fields and the step's number
abbrev pub is_numbered : Version → ℕ → List (List ℕ) → Bool
is_numbered v at fields = (length fields == step_fields v) && bytes_eq (field_of fields 0) (decimal at)

-- whether something has to be kept for a step's record: its ids, or the step, if the trace takes it
abbrev pub step_record_keeps : Version → Recorded → List (List ℕ) → Bool
step_record_keeps v t fields = is_ok (step_stage v t fields) ||
    (is_numbered v (length t.steps + 1) fields && step_keeps v (length t.steps + 1) fields)

-- whether initial values have to be kept for a record
abbrev pub init_keeps : List (List ℕ) → Bool
init_keeps fields = bytes_eq (field_of fields 0) (codes "init") && begins_with_number (drop 1 fields)

-- whether something has to be kept for a record: initial values, or what a step needs
abbrev pub record_keeps : Stage → List (List ℕ) → Bool
record_keeps Opening fields = false
record_keeps (Sized v n t) fields = init_keeps fields
record_keeps (Recording v t) fields = if bytes_eq (field_of fields 0)
    (codes "end") then false else step_record_keeps v t fields
record_keeps (Ended t) fields = false

-- the refusal is the first of the table, or out of memory in a text that isn't too large
abbrev pub IsFirstRefusal : List ℕ → TextError → Type 0
IsFirstRefusal text e = MatchBool (is_memory e) (length text ≤ MAX_TEXT_BYTES) (trace_of_text text ≡ Err e)
