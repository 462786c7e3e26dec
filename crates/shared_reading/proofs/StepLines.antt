-- A line that encodes a step in canonical form is read by csv's reader as its fields.
use Rattle.std.proofs.Common.{◌≡◌, ◌≤◌, ◌<◌, ◌+◌, ◌∙◌, ℕ, List, [], ◌∷◌, ◌++◌, length, drop, Option, Some, None}
use Rattle.std.proofs.Common.{Result, Ok, Err, Bool, true, false, cond, refl, sym, ap, subst, arith, codes}
use Rattle.std.specs.Prelude.{IfOk}
use Rattle.std.specs.Option.{ok_or}
use Rattle.std.specs.Str.{bytes_eq}
use Rattle.csv.specs.Reading.{default_config, records, strip_bom}
use Rattle.csv.specs.Records.{field_at}
use Rattle.step_trace.specs.declared.steps.Act.{Act}
use Rattle.step_trace.specs.declared.steps.Act.TheVariants.{Send, Receive}
use Rattle.step_trace.specs.declared.steps.Step.{Step}
use Rattle.trace_text.specs.declared.versions.Version.{Version}
use Rattle.trace_text.specs.declared.versions.Version.TheVariants.{One, Two}
use Rattle.trace_text.specs.declared.refusals.TextError.{TextError}
use Rattle.trace_text.specs.Records.{◌>>=◌, number_of, record_line}
use Rattle.trace_text.specs.RecordWriting.{ArePlain}
use Rattle.trace_text.specs.declared.refusals.TextError.TheVariants.{BadFields, WrongNumber}
use Rattle.trace_text.specs.TextRefusals.{ids_of}
use Rattle.trace_text.specs.JudgedIds.{judged_of}
use Rattle.trace_text.proofs.NumberLists.{ids_of-one}
use Rattle.trace_text.proofs.Numbers.{number_of-some}
use Rattle.trace_text.proofs.TraceRecords.{not_end}
use Rattle.trace_text.proofs.PlainSteps.{plain-number, plain-step}
use Rattle.shared_reading.specs.declared.lines.Line.{Line}
use Rattle.shared_reading.specs.declared.step_fields.StepFields.{StepFields}
use Rattle.shared_reading.specs.Lines.{line_of, narrow_line}
use Rattle.shared_reading.specs.StepFields.{AreNumbersOf, record_of, told_tick}
use Rattle.shared_reading.specs.StepLines.{IsStepLine, act_with}
use Rattle.shared_reading.proofs.LinesTold.{tells}
use Rattle.shared_reading.proofs.PlainLines.{records-line}

-- a number is no end
not-end : (f : List ℕ) (n : ℕ) → number_of f ≡ Some n → bytes_eq f (codes "end") ≡ false
not-end f n h = let k = number_of-some f n h in subst (λ g. bytes_eq g (codes "end") ≡ false) (sym k.0) (not_end n k.1)

all-told : (end count : Bool) (number : Option ℕ) (n : ℕ) (step : ℕ → Result (ℕ × Step) TextError) (x : ℕ × Step)
    → end ≡ false → count ≡ true → number ≡ Some n → step n ≡ Ok x → cond end (Err (BadFields 0))
    (cond count (ok_or number (WrongNumber 0) >>= λ m. step m >>= λ y. narrow_line m y) (Err (BadFields 0))) ≡ narrow_line n x
all-told end count number n step x e c m h = rw (e, c, m, h) refl

-- the step that fields encode, if its tick is this one
abbrev step_told : StepFields → ℕ → Option ℕ → Result (ℕ × Step) TextError
step_told f n tick = judged_of n tick f.operation.bytes.now f.proc.field.bytes.now f.arg.field.bytes.now

-- the step that fields encode is that of their record
line-told : (v : Version) (f : StepFields) (n : ℕ) (x : ℕ × Step) → number_of f.no.field.bytes.now ≡ Some n
    → step_told f n (told_tick v n f.tick.field.bytes.now) ≡ Ok x → line_of v (record_of v f) ≡ narrow_line n x
unfolding field_at
line-told One f n x number step = all-told (bytes_eq f.no.field.bytes.now (codes "end")) true
    (number_of f.no.field.bytes.now) n (λ m. step_told f m (Some m)) x (not-end f.no.field.bytes.now n number) refl number step
line-told Two f n x number step = all-told (bytes_eq f.no.field.bytes.now (codes "end")) true (number_of f.no.field.bytes.now) n
    (λ m. step_told f m (number_of f.tick.field.bytes.now)) x (not-end f.no.field.bytes.now n number) refl number step

same-line : (r s t : Result Line TextError) → r ≡ t → s ≡ t → IfOk r (λ line. s ≡ Ok line)
same-line (Ok line) s t h k = k ∙ sym h
same-line (Err e) s t h k = tt

-- the answer is that step, if there is one
pub line-answered : (v : Version) (f : StepFields) (x : ℕ × Step) (r : Result Line TextError) → AreNumbersOf v f → step_told f f.no.number
    (Some f.tick.number) ≡ Ok x → r ≡ narrow_line f.no.number x → IfOk r (λ line. line_of v (record_of v f) ≡ Ok line)
line-answered v f x r are step h =
    let told : step_told f f.no.number (told_tick v f.no.number f.tick.field.bytes.now) ≡ Ok x = rw are.tick step in
    same-line r (line_of v (record_of v f)) (narrow_line f.no.number x) h (line-told v f f.no.number x are.no told)

-- the step of an operation with a number
pub step-done : (at tick : ℕ) (operation proc arg : List ℕ) (p n : ℕ) (act : Act) → number_of proc ≡ Some p → number_of arg ≡ Some n
    → act_with operation n ≡ Some act → judged_of at (Some tick) operation proc arg ≡ Ok (tick, record { proc = p; act = act })
step-done at tick operation proc arg p n act is_proc is_arg h =
    go (bytes_eq operation (codes "S")) (bytes_eq operation (codes "R")) (bytes_eq operation (codes "E")) refl refl refl h where
      ids : ids_of arg ≡ Some (n ∷ [])
      ids = ids_of-one arg n is_arg

      go : (a b c : Bool) → bytes_eq operation (codes "S") ≡ a → bytes_eq operation (codes "R") ≡ b → bytes_eq operation (codes "E") ≡ c
          → cond a (Some (Send n)) (cond b (Some (Receive false (n ∷ []))) (cond c (Some (Receive true (n ∷ []))) None)) ≡ Some act
          → judged_of at (Some tick) operation proc arg ≡ Ok (tick, record { proc = p; act = act })
      go true b c s r e h = let same : Send n ≡ act = cc h in rw (s, is_proc, is_arg, same) refl
      go false true c s r e h = let same : Receive false (n ∷ []) ≡ act = cc h in rw (s, r, is_proc, ids, same) refl
      go false false true s r e h = let same : Receive true (n ∷ []) ≡ act = cc h in rw (s, r, e, is_proc, ids, same) refl
      go false false false s r e h = cc h

-- fields that encode a step need no quotes
plain-record : (v : Version) (f : StepFields) (l : Line) → line_of v (record_of v f) ≡ Ok l → ArePlain (record_of v f)
unfolding field_at
plain-record One f l h =
    let k = tells One (record_of One f) l h in
    let s = plain-step l.no (Some l.no) f.operation.bytes.now f.proc.field.bytes.now f.arg.field.bytes.now (l.tick, l.step) k.step in
    (plain-number f.no.field.bytes.now l.no k.number, (s.plain_proc, (s.plain_operation, (s.plain_arg, tt))))
plain-record Two f l h =
    let k = tells Two (record_of Two f) l h in
    let s = plain-step l.no (number_of f.tick.field.bytes.now) f.operation.bytes.now f.proc.field.bytes.now f.arg.field.bytes.now
    (l.tick, l.step) k.step in (
      plain-number f.no.field.bytes.now l.no k.number,
      (plain-number f.tick.field.bytes.now s.value s.is, (s.plain_proc, (s.plain_operation, (s.plain_arg, tt)))),
    )

two-fields : (v : Version) (f : StepFields) → 2 ≤ length (record_of v f)
two-fields One f = omega arith
two-fields Two f = omega arith

-- the line at a place encodes a step, and no byte order mark may be there or behind it
pub step-told : (v : Version) (text : List ℕ) (at : ℕ) (f : StepFields) (line : Line) → at < f.arg.field.end → f.arg.field.end ≤ length text
    → drop at text ≡ record_line (record_of v f) ++ drop f.arg.field.end text
    → strip_bom (drop at text) ≡ drop at text → strip_bom (drop f.arg.field.end text) ≡ drop f.arg.field.end text
    → line_of v (record_of v f) ≡ Ok line → IsStepLine v text at (record { line = line; end = f.arg.field.end })
step-told v text at f line some end is begin behind told = record {
  end = end;
  some = some;
  fields = record_of v f;
  records = ap (λ (xs : List ℕ). records default_config xs) (begin ∙ is)
      ∙ records-line (record_of v f) (drop f.arg.field.end text) (two-fields v f) (plain-record v f line told)
      ∙ ap (λ (xs : List ℕ). record_of v f ∷ records default_config xs) (sym behind);
  told = told;
}
