-- A Receive is judged by its ids as far as they rise.
use Rattle.std.proofs.Common.{ℕ, ◌≡◌, ◌-◌, ◌+◌, List, [], ◌∷◌, ◌++◌, length, Bool, true, false, cond, Option, Some, None, Result, Ok, Err, decimal, refl, sym, ap, ◌∙◌, ◌==◌, arith}
use Rattle.std.specs.Prelude.{nat_lt, ◌&&◌, slice_get, option_map}
use Rattle.std.specs.Option.{ok_or}
use Rattle.std.specs.Str.{bytes_eq}
use Rattle.step_trace.specs.declared.steps.Act.{Act}
use Rattle.step_trace.specs.declared.steps.Act.TheVariants.{Receive}
use Rattle.step_trace.specs.declared.steps.Step.{Step}
use Rattle.step_trace.specs.declared.traces.TheConstants.{MAX_STEPS}
use Rattle.step_trace.specs.declared.traces.PushError.TheVariants.{Full, BadTick, BadProc, ProcOrder, IdsNotRising}
use Rattle.step_trace.specs.Configurations.{is_proc}
use Rattle.step_trace.specs.Traces.{Recorded}
use Rattle.step_trace.specs.PushRefusals.{is_rising, is_rising_from}
use Rattle.step_trace.specs.TickRefusals.{comes_after_last, may_end_in, refusal_in}
use Rattle.trace_text.specs.declared.step_records.Operation.{Operation}
use Rattle.trace_text.specs.declared.step_records.Operation.TheVariants as op
use Rattle.trace_text.specs.declared.versions.Version.{Version}
use Rattle.trace_text.specs.declared.reading.Stage.{Stage}
use Rattle.trace_text.specs.declared.refusals.TextError.{TextError}
use Rattle.trace_text.specs.declared.refusals.TextError.TheVariants.{BadOp, BadNumber}
use Rattle.trace_text.specs.Records.{◌>>=◌, field_of, number_of}
use Rattle.trace_text.specs.TextRefusals.{act_of, ids_of, operation_of, proc_place, pushed, step_fields, step_stage, step_tick}
use Rattle.trace_text.specs.JudgedIds.{AreKept, judged, judged_after, judged_act_of, judged_step_stage, is_above_last}

and_true : (p : Bool) → (p && true) ≡ p
and_true true = refl
and_true false = refl

and_assoc : (p q r : Bool) → (p && (q && r)) ≡ ((p && q) && r)
and_assoc true q r = refl
and_assoc false q r = refl

rising-more-from : (x : ℕ) (ys : List ℕ) (z : ℕ) → is_rising_from x (ys ++ z ∷ []) ≡ (is_rising_from x ys && is_above_last (x ∷ ys) z)
rising-more-from x [] z = and_true (nat_lt x z)
rising-more-from x (y ∷ ys) z = ap (λ b. nat_lt x y && b) (rising-more-from y ys z)
    ∙ and_assoc (nat_lt x y) (is_rising_from y ys) (is_above_last (y ∷ ys) z)

-- one more id
rising-more : (xs : List ℕ) (z : ℕ) → is_rising (xs ++ z ∷ []) ≡ (is_rising xs && is_above_last xs z)
rising-more [] z = refl
rising-more (x ∷ xs) z = rising-more-from x xs z

judged-on : (t : Bool) (y z : ℕ) (ys : List ℕ) → (t && is_rising_from y ys) ≡ true → (is_rising_from y ys ≡ true
    → judged_after y (ys ++ z ∷ []) ≡ ys ++ z ∷ []) → (y ∷ cond t (judged_after y (ys ++ z ∷ [])) []) ≡ y ∷ (ys ++ z ∷ [])
judged-on true y z ys e more = ap (λ l. y ∷ l) (more e)
judged-on false y z ys e more = cc e

-- an id after those that rise is judged
judged-last-from : (x : ℕ) (ys : List ℕ) (z : ℕ) → is_rising_from x ys ≡ true → judged_after x (ys ++ z ∷ []) ≡ ys ++ z ∷ []
judged-last-from x [] z e = elim (nat_lt x z) as (λ b. z ∷ cond b [] [] ≡ z ∷ []) [ true ↦ refl | false ↦ refl ]
judged-last-from x (y ∷ ys) z e = judged-on (nat_lt x y) y z ys e (λ f. judged-last-from y ys z f)

judged-last : (xs : List ℕ) (z : ℕ) → is_rising xs ≡ true → judged (xs ++ z ∷ []) ≡ xs ++ z ∷ []
judged-last [] z e = refl
judged-last (x ∷ xs) z e = ap (λ l. x ∷ l) (judged-last-from x xs z e)

judged-all-on : (t : Bool) (y : ℕ) (ys : List ℕ) → (t && is_rising_from y ys) ≡ true
    → (is_rising_from y ys ≡ true → judged_after y ys ≡ ys) → (y ∷ cond t (judged_after y ys) []) ≡ y ∷ ys
judged-all-on true y ys e more = ap (λ l. y ∷ l) (more e)
judged-all-on false y ys e more = cc e

judged-all-from : (x : ℕ) (ys : List ℕ) → is_rising_from x ys ≡ true → judged_after x ys ≡ ys
judged-all-from x [] e = refl
judged-all-from x (y ∷ ys) e = judged-all-on (nat_lt x y) y ys e (judged-all-from y ys)

-- ids that rise are all judged
pub judged-all : (xs : List ℕ) → is_rising xs ≡ true → judged xs ≡ xs
judged-all [] e = refl
judged-all (x ∷ xs) e = ap (λ l. x ∷ l) (judged-all-from x xs e)

judged-past-on : (t : Bool) (y z : ℕ) (ys : List ℕ) → (t && is_rising_from y ys) ≡ false → (is_rising_from y ys ≡ false → judged_after y
    (ys ++ z ∷ []) ≡ judged_after y ys) → (y ∷ cond t (judged_after y (ys ++ z ∷ [])) []) ≡ y ∷ cond t (judged_after y ys) []
judged-past-on true y z ys e more = ap (λ l. y ∷ l) (more e)
judged-past-on false y z ys e more = refl

judged-past-from : (x : ℕ) (ys : List ℕ) (z : ℕ) → is_rising_from x ys ≡ false → judged_after x (ys ++ z ∷ []) ≡ judged_after x ys
judged-past-from x [] z e = cc e
judged-past-from x (y ∷ ys) z e = judged-past-on (nat_lt x y) y z ys e (λ f. judged-past-from y ys z f)

judged-past : (xs : List ℕ) (z : ℕ) → is_rising xs ≡ false → judged (xs ++ z ∷ []) ≡ judged xs
judged-past [] z e = cc e
judged-past (x ∷ xs) z e = ap (λ l. x ∷ l) (judged-past-from x xs z e)

pub kept-none : AreKept [] [] true
kept-none = record { ids = refl; rising = refl }

pub kept-more : (all kept : List ℕ) (id : ℕ) (rises : Bool)
    → AreKept all kept true → rises ≡ is_above_last kept id → AreKept (all ++ id ∷ []) (kept ++ id ∷ []) rises
kept-more all kept id rises h e =
    let whole : judged all ≡ all = judged-all all (sym h.rising) in
    let same : kept ≡ all = h.ids ∙ whole in
    record {
      ids = rw (same) (sym (judged-last all id (sym h.rising)));
      rising = e ∙ rw (rising-more all id, ← h.rising, same) refl;
    }

pub kept-past : (all kept : List ℕ) (id : ℕ) → AreKept all kept false → AreKept (all ++ id ∷ []) kept false
kept-past all kept id h = record {
  ids = h.ids ∙ sym (judged-past all id (sym h.rising));
  rising = rw (rising-more all id, ← h.rising) refl;
}

last-of : (x : ℕ) (ys : List ℕ) (last id : ℕ) → slice_get (x ∷ ys) (length ys) ≡ Some last → is_above_last (x ∷ ys) id ≡ nat_lt last id
last-of x [] last id e = let same : x ≡ last = cc e in ap (λ n. nat_lt n id) same
last-of x (y ∷ ys) last id e = last-of y ys last id e

-- whether an id is above the last, by the last
pub above-last : (xs : List ℕ) (last id : ℕ) → slice_get xs (length xs - 1) ≡ Some last → is_above_last xs id ≡ nat_lt last id
above-last [] last id e = cc e
above-last (x ∷ ys) last id e =
    let at : length (x ∷ ys) - 1 ≡ length ys = omega arith in
    last-of x ys last id (rw at at e)

above-none-of : (x : ℕ) (ys : List ℕ) (id : ℕ) → slice_get (x ∷ ys) (length ys) ≡ None → ⊥
above-none-of x [] id e = cc e
above-none-of x (y ∷ ys) id e = above-none-of y ys id e

pub above-none : (xs : List ℕ) (id : ℕ) → slice_get xs (length xs - 1) ≡ None → is_above_last xs id ≡ true
above-none [] id e = refl
above-none (x ∷ ys) id e =
    let at : length (x ∷ ys) - 1 ≡ length ys = omega arith in
    absurd (above-none-of x ys id (rw at at e))

rising-judged-on : (t : Bool) (y : ℕ) (ys : List ℕ) → is_rising_from y (judged_after y ys) ≡ is_rising_from y ys
    → (t && is_rising_from y (cond t (judged_after y ys) [])) ≡ (t && is_rising_from y ys)
rising-judged-on true y ys h = h
rising-judged-on false y ys h = refl

rising-judged-from : (x : ℕ) (ys : List ℕ) → is_rising_from x (judged_after x ys) ≡ is_rising_from x ys
rising-judged-from x [] = refl
rising-judged-from x (y ∷ ys) = rising-judged-on (nat_lt x y) y ys (rising-judged-from y ys)

-- ids rise if those rise by which they are judged
rising-judged : (xs : List ℕ) → is_rising (judged xs) ≡ is_rising xs
rising-judged [] = refl
rising-judged (x ∷ xs) = rising-judged-from x xs

pushed-refused : (v : Version) (t : Recorded) (tick : ℕ) (x y : Step) (a b c d : Bool)
    → pushed v t tick x (cond a (cond b (cond c (cond d (Some IdsNotRising) (Some ProcOrder)) (Some BadProc)) (Some BadTick)) (Some Full))
    ≡ pushed v t tick y (cond a (cond b (cond c (cond d (Some IdsNotRising) (Some ProcOrder)) (Some BadProc)) (Some BadTick)) (Some Full))
pushed-refused v t tick x y true true true true = refl
pushed-refused v t tick x y true true true false = refl
pushed-refused v t tick x y true true false d = refl
pushed-refused v t tick x y true false c d = refl
pushed-refused v t tick x y false b c d = refl

-- a Receive is pushed or refused as its judged ids say
pushed-judged : (v : Version) (t : Recorded) (tick p : ℕ) (ends : Bool) (ids : List ℕ) → pushed v t tick
    (record { proc = p; act = Receive ends (judged ids) }) (refusal_in t tick (record { proc = p; act = Receive ends (judged ids) }))
    ≡ pushed v t tick (record { proc = p; act = Receive ends ids }) (refusal_in t tick (record { proc = p; act = Receive ends ids }))
pushed-judged v t tick p ends ids = go (is_rising ids) refl where
  go : (r : Bool) → is_rising ids ≡ r → pushed v t tick
      (record { proc = p; act = Receive ends (judged ids) }) (refusal_in t tick (record { proc = p; act = Receive ends (judged ids) }))
      ≡ pushed v t tick (record { proc = p; act = Receive ends ids }) (refusal_in t tick (record { proc = p; act = Receive ends ids }))
  go true e = ap (λ l. pushed v t tick (record { proc = p; act = Receive ends l })
      (refusal_in t tick (record { proc = p; act = Receive ends l }))) (judged-all ids e)
  go false e =
      let f : is_rising (judged ids) ≡ false = rising-judged ids ∙ e in
      rw (e, f)
      (pushed-refused v t tick (record { proc = p; act = Receive ends (judged ids) }) (record { proc = p; act = Receive ends ids })
      (nat_lt (length t.steps) MAX_STEPS) (nat_lt 0 tick && may_end_in t tick)
      (is_proc t.config p) (comes_after_last t.steps t.ticks tick p))

-- what a tick and a step lead to
abbrev push : Version → Recorded → ℕ × Step → Result Stage TextError
push v t x = pushed v t x.0 x.1 (refusal_in t x.0 x.1)

receive-judged : (v : Version) (t : Recorded) (tick p : ℕ) (ends : Bool) (e : TextError) (ids : Option (List ℕ))
    → ok_or (option_map (λ l. Receive ends (judged l)) ids) e >>= (λ a. push v t (tick, record { proc = p; act = a }))
    ≡ ok_or (option_map (λ l. Receive ends l) ids) e >>= (λ a. push v t (tick, record { proc = p; act = a }))
receive-judged v t tick p ends e None = refl
receive-judged v t tick p ends e (Some ids) = pushed-judged v t tick p ends ids

-- the steps of a record, by the options of what its fields say
abbrev step_by : ℕ → (Operation → List ℕ → Option Act) → Option Operation → Option ℕ → Option ℕ → List ℕ → Result (ℕ × Step) TextError
step_by at act o tick p arg = ok_or o (BadOp at) >>= λ o. ok_or tick (BadNumber at)
    >>= λ tick. ok_or p (BadNumber at) >>= λ p. ok_or (act o arg) (BadNumber at) >>= λ a. Ok (tick, record { proc = p; act = a })

into : {A B C : Type 0} (r : Result A TextError) (f : A → B) (g : B → Result C TextError) → (r >>= λ a. Ok (f a)) >>= g ≡ r >>= λ a. g (f a)
into (Ok a) f g = refl
into (Err e) f g = refl

step-by-judged : (v : Version) (t : Recorded) (at : ℕ) (o : Option Operation) (tick p : Option ℕ) (arg : List ℕ)
    → step_by at judged_act_of o tick p arg >>= push v t ≡ step_by at act_of o tick p arg >>= push v t
step-by-judged v t at None tick p arg = refl
step-by-judged v t at (Some o) None p arg = refl
step-by-judged v t at (Some o) (Some tick) None arg = refl
step-by-judged v t at (Some op.Send) (Some tick) (Some p) arg = refl
step-by-judged v t at (Some op.Receive) (Some tick) (Some p) arg =
    into (ok_or (judged_act_of op.Receive arg) (BadNumber at)) (λ a. (tick, record { proc = p; act = a })) (push v t)
    ∙ receive-judged v t tick p false (BadNumber at) (ids_of arg)
    ∙ sym (into (ok_or (act_of op.Receive arg) (BadNumber at)) (λ a. (tick, record { proc = p; act = a })) (push v t))
step-by-judged v t at (Some op.EndRound) (Some tick) (Some p) arg =
    into (ok_or (judged_act_of op.EndRound arg) (BadNumber at)) (λ a. (tick, record { proc = p; act = a })) (push v t)
    ∙ receive-judged v t tick p true (BadNumber at) (ids_of arg)
    ∙ sym (into (ok_or (act_of op.EndRound arg) (BadNumber at)) (λ a. (tick, record { proc = p; act = a })) (push v t))

under : {A : Type 0} (b c : Bool) (x y z w : A) → x ≡ y → cond b (cond c x z) w ≡ cond b (cond c y z) w
under b c x y z w e = ap (λ r. cond b (cond c r z) w) e

-- a step's record leads where its judged ids lead
pub step-judged : (v : Version) (t : Recorded) (fields : List (List ℕ)) → judged_step_stage v t fields ≡ step_stage v t fields
step-judged v t fields =
    under (length fields == step_fields v) (bytes_eq (field_of fields 0) (decimal (length t.steps + 1))) _ _ _ _
    (step-by-judged v t (length t.steps + 1) (operation_of (field_of fields (proc_place v + 1)))
    (step_tick v (length t.steps + 1) fields) (number_of (field_of fields (proc_place v)))
    (field_of fields (proc_place v + 2)))
