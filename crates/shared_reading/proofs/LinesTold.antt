-- The steps that records encode lead a trace where the records lead it.
use Rattle.std.proofs.Common.{◌≡◌, ◌<◌, ◌≤◌, ◌+◌, ◌∙◌, ℕ, List, [], ◌∷◌, ◌++◌, length, Option, Some, None, Result, Ok}
use Rattle.std.proofs.Common.{Err, Bool, true, false, cond, refl, sym, ap, subst, arith, codes, decimal, append_assoc}
use Rattle.std.proofs.Common.{length-append, ◌==◌}
use Rattle.std.specs.Prelude.{nat_lt, ◌^◌}
use Rattle.std.specs.Str.{bytes_eq}
use Rattle.std.proofs.lemmas.List.{append-nil}
use Rattle.std.proofs.lemmas.Bool.{eqb-true}
use Rattle.std.proofs.lemmas.Bool.Decides.{nat_tests}
use Rattle.step_trace.specs.declared.steps.Step.{Step}
use Rattle.step_trace.specs.declared.traces.PushError.{PushError}
use Rattle.step_trace.specs.declared.traces.PushError.TheVariants.{Full}
use Rattle.step_trace.specs.declared.traces.TheConstants.{MAX_STEPS}
use Rattle.step_trace.specs.Traces.{Recorded}
use Rattle.step_trace.specs.Ticks.{with_step}
use Rattle.step_trace.specs.TickRefusals.{refusal_in}
use Rattle.trace_text.specs.declared.versions.Version.{Version}
use Rattle.trace_text.specs.declared.reading.Stage.{Stage}
use Rattle.trace_text.specs.declared.reading.Stage.TheVariants.{Recording}
use Rattle.trace_text.specs.declared.refusals.TextError.{TextError}
use Rattle.trace_text.specs.declared.refusals.TextError.TheVariants.{WrongNumber}
use Rattle.trace_text.specs.Records.{◌>>=◌, after_records, field_of, number_of}
use Rattle.trace_text.specs.TextRefusals.{step_fields, end_stage, next_stage, pushed}
use Rattle.trace_text.specs.JudgedIds.{judged_step_of}
use Rattle.trace_text.proofs.JudgedIds.{step-judged}
use Rattle.trace_text.proofs.Numbers.{bytes_eq-decimal}
use Rattle.trace_text.proofs.StageInversions.{passed, read_part, read_result}
use Rattle.shared_reading.specs.declared.lines.Line.{Line}
use Rattle.shared_reading.specs.Lines.{Read, narrow_line, line_of, next_read, with_line, with_next, is_next, accepted, after_lines, line_stage, TellLines}

-- a test that was failed
passed_over : {A : Type 0} (b : Bool) (r : Result A TextError) (e : TextError) (x : A) → cond b (Err e) r ≡ Ok x → (b ≡ false) × (r ≡ Ok x)
passed_over true r e x h = cc h
passed_over false r e x h = (refl, h)

narrow : (n : ℕ) (x : ℕ × Step) (l : Line) → narrow_line n x ≡ Ok l
    → ◌≡◌ {A = Result Line TextError} (Ok (record { no = n; tick = x.0; step = x.1 })) (Ok l)
narrow n x l h = (passed (nat_lt x.0 (2 ^ 32)) _ (WrongNumber 0) l h).1

-- what a record that encodes a step says
pub record Tells (v : Version) (fields : List (List ℕ)) (l : Line) : Type 0 where
  pub not_end : bytes_eq (field_of fields 0) (codes "end") ≡ false
  pub count : (length fields == step_fields v) ≡ true
  pub number : number_of (field_of fields 0) ≡ Some l.no
  pub step : judged_step_of v l.no fields ≡ Ok (l.tick, l.step)

-- a step that is the one of these parts
parts : (v : Version) (fields : List (List ℕ)) (n : ℕ) (x : ℕ × Step) (l : Line) → number_of (field_of fields 0) ≡ Some n
    → judged_step_of v n fields ≡ Ok x → ◌≡◌ {A = Result Line TextError} (Ok (record { no = n; tick = x.0; step = x.1 })) (Ok l)
    → (number_of (field_of fields 0) ≡ Some l.no) × (judged_step_of v l.no fields ≡ Ok (l.tick, l.step))
parts v fields n x l number step h =
    let same : ◌≡◌ {A = Line} (record { no = n; tick = x.0; step = x.1 }) l = cc h in
    subst (λ (k : Line). (number_of (field_of fields 0) ≡ Some k.no) × (judged_step_of v k.no fields ≡ Ok (k.tick, k.step))) same
    (number, step)

pub tells : (v : Version) (fields : List (List ℕ)) (l : Line) → line_of v fields ≡ Ok l → Tells v fields l
tells v fields l h =
    let a = passed_over (bytes_eq (field_of fields 0) (codes "end")) _ _ l h in
    let b = passed (length fields == step_fields v) _ _ l a.1 in
    let n = read_part (number_of (field_of fields 0)) (WrongNumber 0) _ l b.1 in
    let s = read_result (judged_step_of v n.0 fields) _ l n.2 in
    let p = parts v fields n.0 s.0 l n.1 s.1 (narrow n.0 s.0 l s.2) in
    record { not_end = a.0; count = b.0; number = p.0; step = p.1 }

-- a record that encodes a step leads a trace where the step leads it, also to the same refusal
pub told-next : (v : Version) (t : Recorded) (fields : List (List ℕ)) (l : Line) → line_of v fields ≡ Ok l → length t.steps ≤ MAX_STEPS
    → next_stage (Recording v t) fields ≡ line_stage v t l
told-next v t fields l h short =
    let k = tells v fields l h in
    let same = bytes_eq-decimal (field_of fields 0) (length t.steps + 1) l.no (omega (arith, short)) k.number in
    go (l.no == length t.steps + 1) refl same k.not_end k.count k.step
  where
    go : (b : Bool) → (l.no == length t.steps + 1) ≡ b → (l.no == length t.steps + 1)
        ≡ bytes_eq (field_of fields 0) (decimal (length t.steps + 1)) → bytes_eq (field_of fields 0) (codes "end") ≡ false
        → (length fields == step_fields v) ≡ true → judged_step_of v l.no fields ≡ Ok (l.tick, l.step) → next_stage (Recording v t) fields
        ≡ cond (l.no == length t.steps + 1) (pushed v t l.tick l.step (refusal_in t l.tick l.step)) (Err (WrongNumber (length t.steps + 1)))
    go true e same n c s =
        let test : bytes_eq (field_of fields 0) (decimal (length t.steps + 1)) ≡ true = sym same ∙ e in
        let at : judged_step_of v (length t.steps + 1) fields
        ≡ Ok (l.tick, l.step) = subst (λ m. judged_step_of v m fields ≡ Ok (l.tick, l.step)) (eqb-true l.no (length t.steps + 1) e) s in
        ap (λ (s : Result Stage TextError). cond (bytes_eq (field_of fields 0) (codes "end")) (end_stage v t fields) s)
        (sym (step-judged v t fields)) ∙ rw (n, c, test, at, e) refl
    go false e same n c s =
        let test : bytes_eq (field_of fields 0) (decimal (length t.steps + 1)) ≡ false = sym same ∙ e in
        rw (n, c, test, e) refl

-- a trace that takes one more step has room for it
first_test : (b : Bool) (o : Option PushError) → cond b o (Some Full) ≡ None → b ≡ true
first_test true o h = refl
first_test false o h = cc h

room : (t : Recorded) (tick : ℕ) (x : Step) → refusal_in t tick x ≡ None → length t.steps < MAX_STEPS
room t tick x h = let b = first_test (nat_lt (length t.steps) MAX_STEPS) _ h in grind (arith, nat_tests)

-- The records lead the trace where the steps that they encode lead it, also to the same refusal.
pub told-all : (v : Version) (rs : List (List (List ℕ))) (ls : List Line) (t : Recorded) → TellLines v rs ls → length t.steps ≤ MAX_STEPS
    → after_records next_stage (Recording v t) rs ≡ after_lines v t ls
unfolding TellLines after_lines
told-all v [] [] t h short = refl
told-all v [] (l ∷ ls) t h short = absurd h
told-all v (r ∷ rs) [] t h short = absurd h
told-all v (r ∷ rs) (l ∷ ls) t h short = rw (told-next v t r l h.0 short)
    (go (λ s. told-all v rs ls (with_step t l.tick l.step) h.1 s) (l.no == length t.steps + 1) (refusal_in t l.tick l.step) refl) where
      go : (length (with_step t l.tick l.step).steps ≤ MAX_STEPS → after_records next_stage (Recording v (with_step t l.tick l.step)) rs
          ≡ after_lines v (with_step t l.tick l.step) ls) → (b : Bool) (o : Option PushError) → refusal_in t l.tick l.step ≡ o
          → cond b (pushed v t l.tick l.step o) (Err (WrongNumber (length t.steps + 1))) >>= (λ s. after_records next_stage s rs)
          ≡ cond b (accepted o (length t.steps + 1) (after_lines v (with_step t l.tick l.step) ls)) (Err (WrongNumber (length t.steps + 1)))
      go more false o e = refl
      go more true (Some why) e = refl
      go more true None e = let less = room t l.tick l.step e in
          let sum = length-append t.steps (l.step ∷ []) in more (omega (arith, less, sum))

-- what was read of records are the steps that they encode
read-from : (r s : Read) (rs : List (List (List ℕ))) → after_records next_read r rs ≡ Ok s
    → (new : List Line) × (s ≡ record { version = r.version; lines = r.lines ++ new }) × TellLines r.version rs new
unfolding TellLines
read-from r s [] h = ([], (let same : r ≡ s = cc h in rw (← same, append-nil r.lines) refl), tt)
read-from r s (x ∷ rs) h =
    let part = read_result (line_of r.version x >>= λ l. with_next r l) _ s h in
    let line = read_result (line_of r.version x) _ part.0 part.1 in
    let next = passed (is_next r.lines line.0.no) (Ok (with_line r line.0)) (WrongNumber 0) part.0 line.2 in
    let same : with_line r line.0 ≡ part.0 = cc (next.1) in
    let more = read-from (with_line r line.0) s rs (rw same part.2) in
    let whole : s ≡ record { version = r.version; lines = r.lines ++ (line.0 ∷ more.0) } =
    rw (← append_assoc r.lines (line.0 ∷ []) more.0) more.1 in
    (line.0 ∷ more.0, whole, (line.1, more.2))

-- The steps that were read of the records lead a trace where the records lead it.
pub read-all : (v : Version) (s : Read) (rs : List (List (List ℕ))) (t : Recorded)
    → after_records next_read (record { version = v; lines = [] }) rs ≡ Ok s → length t.steps ≤ MAX_STEPS
    → after_records next_stage (Recording v t) rs ≡ after_lines v t s.lines
read-all v s rs t h short =
    let all = read-from (record { version = v; lines = [] }) s rs h in
    rw all.1 (told-all v rs all.0 t all.2 short)
