-- The ids by which a Receive is judged: all if they rise, else those up to the first that doesn't. Those after it
-- change no answer.
use Rattle.std.specs.Prelude.{ℕ, ◌≡◌, ◌+◌, List, [], ◌∷◌, length, Option, Result, Ok, Err, Bool}
use Rattle.std.specs.Prelude.{true, false, ◌==◌, nat_lt, if◌then◌else◌, decimal, option_map}
use Rattle.std.specs.Str.{bytes_eq}
use Rattle.std.specs.Option.{ok_or}
use Rattle.step_trace.specs.declared.steps.Act.{Act}
use Rattle.step_trace.specs.declared.steps.Act.TheVariants.{Send, Receive}
use Rattle.step_trace.specs.declared.steps.Step.{Step}
use Rattle.step_trace.specs.Traces.{Recorded}
use Rattle.step_trace.specs.PushRefusals.{is_rising}
use Rattle.step_trace.specs.TickRefusals.{refusal_in}
use Rattle.trace_text.specs.declared.step_records.Operation.{Operation}
use Rattle.trace_text.specs.declared.step_records.Operation.TheVariants as op
use Rattle.trace_text.specs.declared.versions.Version.{Version}
use Rattle.trace_text.specs.declared.reading.Stage.{Stage}
use Rattle.trace_text.specs.declared.refusals.TextError.{TextError}
use Rattle.trace_text.specs.declared.refusals.TextError.TheVariants.{BadFields, BadOp, BadNumber, WrongNumber}
use Rattle.trace_text.specs.Records.{◌>>=◌, field_of, number_of}
use Rattle.trace_text.specs.TextRefusals.{ids_of, operation_of, proc_place, pushed, step_fields, step_tick}

-- the ids after x that are judged
abbrev pub judged_after : ℕ → List ℕ → List ℕ
judged_after x [] = []
judged_after x (y ∷ ys) = y ∷ (if nat_lt x y then judged_after y ys else [])

abbrev pub judged : List ℕ → List ℕ
judged [] = []
judged (x ∷ xs) = x ∷ judged_after x xs

-- whether an id is above the last one
abbrev pub is_above_last : List ℕ → ℕ → Bool
is_above_last [] id = true
is_above_last (x ∷ []) id = nat_lt x id
is_above_last (x ∷ y ∷ ys) id = is_above_last (y ∷ ys) id

-- the ids so far are kept as judged, with whether they rise
pub record AreKept (all kept : List ℕ) (rises : Bool) : Type 0 where
  pub ids : kept ≡ judged all
  pub rising : rises ≡ is_rising all

-- the act that an operation and its argument say, with the ids by which it is judged
abbrev pub judged_act_of : Operation → List ℕ → Option Act
judged_act_of op.Send arg = option_map (λ to. Send to) (number_of arg)
judged_act_of op.Receive arg = option_map (λ ids. Receive false (judged ids)) (ids_of arg)
judged_act_of op.EndRound arg = option_map (λ ids. Receive true (judged ids)) (ids_of arg)

-- the same of the tick and the step that these fields say: the tick, if it is a number, the operation, the processor
-- and the argument
abbrev pub judged_of : ℕ → Option ℕ → List ℕ → List ℕ → List ℕ → Result (ℕ × Step) TextError
judged_of at tick operation proc arg =
    ok_or (operation_of operation) (BadOp at) >>= λ o. ok_or tick (BadNumber at) >>= λ tick.
    ok_or (number_of proc) (BadNumber at)
    >>= λ p. ok_or (judged_act_of o arg) (BadNumber at) >>= λ a. Ok (tick, record { proc = p; act = a })

-- the same of a record
abbrev pub judged_step_of : Version → ℕ → List (List ℕ) → Result (ℕ × Step) TextError
judged_step_of v at fields =
    judged_of at (step_tick v at fields) (field_of fields (proc_place v + 1)) (field_of fields (proc_place v))
    (field_of fields (proc_place v + 2))

-- the same of the stage that a step's record leads to
abbrev pub judged_step_stage : Version → Recorded → List (List ℕ) → Result Stage TextError
judged_step_stage v t fields =
    if length fields == step_fields v then
    (if bytes_eq (field_of fields 0) (decimal (length t.steps + 1)) then
    (judged_step_of v (length t.steps + 1) fields >>= λ x. pushed v t x.0 x.1 (refusal_in t x.0 x.1))
    else Err (WrongNumber (length t.steps + 1)))
    else Err (BadFields (length t.steps + 1))
