-- The reasons that records give: never the size of the text, a fault of the reader or out of memory.
use Rattle.std.proofs.Common.{ℕ, ◌≡◌, ◌≢◌, ◌+◌, ◌==◌, ◌&&◌, List, [], ◌∷◌, length, drop, codes, decimal, Option, Some, None, Result, Ok, Err, Bool, true, false, cond, refl}
use Rattle.std.specs.Prelude.{MatchBool, ⊤, is_none}
use Rattle.std.specs.Str.{bytes_eq}
use Rattle.std.specs.Option.{ok_or}
use Rattle.step_trace.specs.declared.traces.PushError.{PushError}
use Rattle.step_trace.specs.declared.steps.Step.{Step}
use Rattle.step_trace.specs.Configurations.{config_refusal}
use Rattle.step_trace.specs.Traces.{Recorded}
use Rattle.step_trace.specs.Ticks.{with_last}
use Rattle.step_trace.specs.TickRefusals.{may_end_in, refusal_in}
use Rattle.trace_text.specs.declared.versions.Version.{Version}
use Rattle.trace_text.specs.declared.versions.Version.TheVariants.{One, Two}
use Rattle.trace_text.specs.declared.reading.Stage.{Stage}
use Rattle.trace_text.specs.declared.reading.Stage.TheVariants.{Opening, Sized, Recording, Ended}
use Rattle.trace_text.specs.declared.refusals.TextError.{TextError}
use Rattle.trace_text.specs.declared.refusals.TextError.TheVariants.{TooLarge, Read, BadHeader, BadVersion, BadSize}
use Rattle.trace_text.specs.declared.refusals.TextError.TheVariants.{BadInit, BadFields, WrongNumber, BadOp, BadNumber}
use Rattle.trace_text.specs.declared.refusals.TextError.TheVariants.{BadStep, NoEnd, WrongEnd, AfterEnd, Memory}
use Rattle.trace_text.specs.Records.{field_of, number_of, after_records, ◌>>=◌}
use Rattle.trace_text.specs.TextRefusals.{numbers_of, version_named, operation_of, act_of, step_fields, proc_place}
use Rattle.trace_text.specs.TextRefusals.{step_tick, ended, is_size, size_stage, started, header_stage, init_stage}
use Rattle.trace_text.specs.TextRefusals.{step_of, pushed, step_stage, end_stage, next_stage, trace_at_end}
use Rattle.trace_text.specs.TextRefusals.{trace_of_records, is_memory}

-- whether records may give the reason
abbrev pub is_of_records : TextError → Bool
is_of_records TooLarge = false
is_of_records Read = false
is_of_records Memory = false
is_of_records e = true

abbrev Reason : {A : Type 0} → Result A TextError → Type 0
Reason (Ok x) = ⊤
Reason (Err e) = is_of_records e ≡ true

-- the reason, if there is one, is one that records may give
record IsOfRecords {A : Type 0} (r : Result A TextError) : Type 0 where
  reason : Reason r

good : {A : Type 0} (x : A) → IsOfRecords (Ok x)
good x = record { reason = tt }

bad : {A : Type 0} (e : TextError) → is_of_records e ≡ true → IsOfRecords {A = A} (Err e)
bad e h = record { reason = h }

either : {A : Type 0} (b : Bool) {x y : Result A TextError} → IsOfRecords x → IsOfRecords y → IsOfRecords (cond b x y)
either true h k = h
either false h k = k

then : {A B : Type 0} (r : Result A TextError) (f : A → Result B TextError)
    → IsOfRecords r → ((x : A) → IsOfRecords (f x)) → IsOfRecords (r >>= f)
then (Ok x) f h k = k x
then (Err e) f h k = record { reason = h.reason }

part : {A B : Type 0} (o : Option A) (e : TextError) (f : A → Result B TextError)
    → is_of_records e ≡ true → ((x : A) → IsOfRecords (f x)) → IsOfRecords (ok_or o e >>= f)
part None e f h k = record { reason = h }
part (Some x) e f h k = k x

of_size : (v : Version) (fields : List (List ℕ)) → IsOfRecords (size_stage v fields)
of_size v fields = part (number_of (field_of fields 2)) BadSize _ refl
    (λ n. part (number_of (field_of fields 3)) BadSize _ refl (λ t. either (is_size n t) (good (Sized v n t)) (bad BadSize refl)))

of_header : (fields : List (List ℕ)) → IsOfRecords (header_stage fields)
of_header fields =
    either ((length fields == 4) && bytes_eq (field_of fields 0) (codes "dls-trace"))
    (part (version_named (field_of fields 1)) BadVersion _ refl (λ v. of_size v fields))
    (bad BadHeader refl)

of_values : (v : Version) (n t : ℕ) (values : List ℕ) → IsOfRecords (started v n t values)
of_values v n t values = either (is_none (config_refusal n t (length values))) (good _) (bad BadInit refl)

of_init : (v : Version) (n t : ℕ) (fields : List (List ℕ)) → IsOfRecords (init_stage v n t fields)
of_init v n t fields = either (bytes_eq (field_of fields 0) (codes "init"))
    (part (numbers_of (drop 1 fields)) BadInit _ refl (of_values v n t)) (bad BadInit refl)

of_fields : (v : Version) (at : ℕ) (fields : List (List ℕ)) → IsOfRecords (step_of v at fields)
of_fields v at fields =
    part (operation_of (field_of fields (proc_place v + 1))) (BadOp at) _ refl (λ o. part (step_tick v at fields) (BadNumber at) _ refl
    (λ tick. part (number_of (field_of fields (proc_place v))) (BadNumber at) _ refl
    (λ p. part (act_of o (field_of fields (proc_place v + 2))) (BadNumber at) _ refl (λ a. good _))))

of_push : (v : Version) (t : Recorded) (tick : ℕ) (x : Step) (o : Option PushError) → IsOfRecords (pushed v t tick x o)
of_push v t tick x None = good _
of_push v t tick x (Some e) = bad (BadStep _ e) refl

of_step : (v : Version) (t : Recorded) (fields : List (List ℕ)) → IsOfRecords (step_stage v t fields)
of_step v t fields = either (length fields == step_fields v) (either (bytes_eq (field_of fields 0) (decimal (length t.steps + 1))) (then
    (step_of v (length t.steps + 1) fields) _ (of_fields v (length t.steps + 1) fields) (λ x. of_push v t x.0 x.1 (refusal_in t x.0 x.1)))
    (bad (WrongNumber (length t.steps + 1)) refl)) (bad (BadFields (length t.steps + 1)) refl)

of_last : (v : Version) (t : Recorded) (field : List ℕ) → IsOfRecords (ended v t field)
of_last One t field = either (bytes_eq field (decimal (length t.steps))) (good (Ended t)) (bad WrongEnd refl)
of_last Two t field = part (number_of field) WrongEnd _ refl
    (λ last. either (may_end_in t last) (good (Ended (with_last t last))) (bad WrongEnd refl))

of_end : (v : Version) (t : Recorded) (fields : List (List ℕ)) → IsOfRecords (end_stage v t fields)
of_end v t fields =
    either (length fields == 2) (of_last v t (field_of fields 1))
    (bad (BadFields (length t.steps + 1)) refl)

of_next : (s : Stage) (fields : List (List ℕ)) → IsOfRecords (next_stage s fields)
of_next Opening fields = of_header fields
of_next (Sized v n t) fields = of_init v n t fields
of_next (Recording v t) fields = either (bytes_eq (field_of fields 0) (codes "end")) (of_end v t fields) (of_step v t fields)
of_next (Ended t) fields = bad AfterEnd refl

of_all : (s : Stage) (records : List (List (List ℕ))) → IsOfRecords (after_records next_stage s records)
of_all s [] = good s
of_all s (fields ∷ records) = then (next_stage s fields) _ (of_next s fields) (λ next. of_all next records)

at_end : (s : Stage) → IsOfRecords (trace_at_end s)
at_end Opening = bad BadHeader refl
at_end (Sized v n t) = bad BadInit refl
at_end (Recording v t) = bad NoEnd refl
at_end (Ended t) = good t

of_whole : (records : List (List (List ℕ))) → IsOfRecords (trace_of_records records)
of_whole records = then (after_records next_stage Opening records) _ (of_all Opening records) at_end

-- a reason that records don't give isn't the reason
never-of : {A : Type 0} (table : Result A TextError) (e f : TextError)
    → IsOfRecords table → is_of_records f ≡ false → is_memory f ≡ false → MatchBool (is_memory e) ⊤ (table ≡ Err e) → e ≢ f
never-of {A = A} table e f of other unless h same =
    let g : MatchBool (is_memory f) ⊤ (table ≡ Err f) = rw same at h in
    let given : table ≡ Err f = rw unless at g in
    let reason : is_of_records f ≡ true = (rw given at of).reason in
    cc (reason, other)

-- nor is it the answer
pub never-answered : (records : List (List (List ℕ))) (e f : TextError)
    → is_of_records f ≡ false → is_memory f ≡ false → MatchBool (is_memory e) ⊤ (trace_of_records records ≡ Err e) → e ≢ f
never-answered records e f other unless h = never-of (trace_of_records records) e f (of_whole records) other unless h

-- nor do records lead to it
pub never-reached : (s : Stage) (records : List (List (List ℕ))) (e f : TextError) → is_of_records f ≡ false
    → is_memory f ≡ false → MatchBool (is_memory e) ⊤ (after_records next_stage s records ≡ Err e) → e ≢ f
never-reached s records e f other unless h = never-of (after_records next_stage s records) e f (of_all s records) other unless h
