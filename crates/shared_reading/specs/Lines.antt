-- Steps that were read without their trace, and a trace that takes them.
use Rattle.std.specs.Prelude.{ℕ, ◌≡◌, ◌≤◌, ◌+◌, ◌^◌, List, [], ◌∷◌, ◌++◌, length, drop, MatchBool, Option, Some}
use Rattle.std.specs.Prelude.{None, Result, Ok, Err, Bool, true, ◌==◌, nat_lt, if◌then◌else◌, codes, ⊤}
use Rattle.std.specs.Str.{bytes_eq}
use Rattle.std.specs.Option.{ok_or}
use Rattle.step_trace.specs.declared.steps.Step.{Step}
use Rattle.step_trace.specs.declared.traces.PushError.{PushError}
use Rattle.step_trace.specs.declared.traces.PushError.TheVariants as push
use Rattle.step_trace.specs.Traces.{Recorded}
use Rattle.step_trace.specs.Ticks.{with_step}
use Rattle.step_trace.specs.TickRefusals.{refusal_in}
use Rattle.trace_text.specs.declared.versions.Version.{Version}
use Rattle.trace_text.specs.declared.reading.Stage.{Stage}
use Rattle.trace_text.specs.declared.reading.Stage.TheVariants.{Recording}
use Rattle.trace_text.specs.declared.refusals.TextError.{TextError}
use Rattle.trace_text.specs.declared.refusals.TextError.TheVariants.{BadFields, WrongNumber, BadStep, Memory}
use Rattle.trace_text.specs.Records.{◌>>=◌, after_records, field_of, number_of, records_of_text}
use Rattle.trace_text.specs.TextRefusals.{is_memory, step_fields, pushed}
use Rattle.trace_text.specs.JudgedIds.{judged_step_of}
use Rattle.shared_reading.specs.declared.lines.Line.{Line}

-- the steps of a version's text that were read so far
pub record Read : Type 0 where
  pub version : Version
  pub lines : List Line

-- these steps with their ticks, as lines that are numbered from n on
abbrev pub numbered : ℕ → List Step → List ℕ → List Line
numbered n [] ticks = []
numbered n (x ∷ xs) [] = []
numbered n (x ∷ xs) (tick ∷ ticks) = record { no = n; tick = tick; step = x } ∷ numbered (n + 1) xs ticks

-- a step with its number and its tick, if that has at most 32 bits
abbrev pub narrow_line : ℕ → ℕ × Step → Result Line TextError
narrow_line n x = if nat_lt x.0 (2 ^ 32) then Ok (record { no = n; tick = x.0; step = x.1 }) else Err (WrongNumber 0)

-- the step that a record encodes, with its number and its tick, and with the ids by which it is judged; any refusal
-- means: read it with the trace
abbrev pub line_of : Version → List (List ℕ) → Result Line TextError
line_of v fields =
    if bytes_eq (field_of fields 0) (codes "end") then Err (BadFields 0)
    else if length fields == step_fields v then
    (ok_or (number_of (field_of fields 0)) (WrongNumber 0) >>= λ n. judged_step_of v n fields >>= λ x. narrow_line n x)
    else Err (BadFields 0)

abbrev pub with_line : Read → Line → Read
with_line r l = record { version = r.version; lines = r.lines ++ l ∷ [] }

-- whether a step of this number may come after these: the first may have any
unfoldable pub is_next : List Line → ℕ → Bool
is_next [] n = true
is_next (l ∷ ls) n = n == l.no + length (l ∷ ls)

-- one more step, if it has the next number
abbrev pub with_next : Read → Line → Result Read TextError
with_next r l = if is_next r.lines l.no then Ok (with_line r l) else Err (WrongNumber 0)

-- what one more record makes of what was read
abbrev pub next_read : Read → List (List ℕ) → Result Read TextError
next_read r fields = line_of r.version fields >>= λ l. with_next r l

-- where a step leads that the trace took, or the refusal of the step of this number
abbrev pub accepted : {A : Type 0} → Option PushError → ℕ → Result A TextError → Result A TextError
accepted None at r = r
accepted (Some why) at r = Err (BadStep at why)

-- where one step leads the trace, or its refusal
abbrev pub line_stage : Version → Recorded → Line → Result Stage TextError
line_stage v t l =
    if l.no == length t.steps + 1 then pushed v t l.tick l.step (refusal_in t l.tick l.step)
    else Err (WrongNumber (length t.steps + 1))

-- where these steps lead, taken one after the other; the first that is refused decides
unfoldable pub after_lines : Version → Recorded → List Line → Result Stage TextError
after_lines v t [] = Ok (Recording v t)
after_lines v t (l ∷ ls) =
    if l.no == length t.steps + 1 then accepted (refusal_in t l.tick l.step) (length t.steps + 1)
    (after_lines v (with_step t l.tick l.step) ls)
    else Err (WrongNumber (length t.steps + 1))

-- these records encode these steps
unfoldable pub TellLines : Version → List (List (List ℕ)) → List Line → Type 0
TellLines v [] [] = ⊤
TellLines v [] (l ∷ ls) = ⊥
TellLines v (r ∷ rs) [] = ⊥
TellLines v (r ∷ rs) (l ∷ ls) = (line_of v r ≡ Ok l) × TellLines v rs ls

-- the refusal of a text for the step of this number, which a trace refuses for this reason
abbrev pub refused_for : PushError → ℕ → TextError
refused_for push.Memory at = Memory
refused_for why at = BadStep at why

-- the records at the front of a text were read, and the others lead where all lead; or one of them is refused
abbrev pub FrontIsRead : Read → Read → List ℕ → Result ℕ TextError → Type 0
FrontIsRead old new text (Ok at) =
    (at ≤ length text)
    × (after_records next_read old (records_of_text text) ≡ after_records next_read new
    (records_of_text (drop at text)))
FrontIsRead old new text (Err e) =
    MatchBool (is_memory e) ⊤ (after_records next_read old (records_of_text text) ≡ Err e)
