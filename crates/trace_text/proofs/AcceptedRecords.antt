-- Records that are accepted are the records of the trace that they give.
use Rattle.std.proofs.Common.{ℕ, zero, suc, ◌≡◌, ◌≤◌, ◌+◌, ◌*◌, ◌==◌, ◌∙◌, List, [], ◌∷◌, ◌++◌, length, drop, Option}
use Rattle.std.proofs.Common.{Some, None, Ok, Bool, true, false, ◌&&◌, ◌||◌, cond, refl, sym, ap, subst, arith, codes}
use Rattle.std.proofs.Common.{decimal, append_assoc}
use Rattle.std.specs.Prelude.{nat_lt, nat_le, is_none}
use Rattle.std.specs.Str.{bytes_eq}
use Rattle.std.specs.Option.{option_map}
use Rattle.std.proofs.lemmas.Bool.{and_parts, eqb-true, or_parts}
use Rattle.std.proofs.lemmas.Bool.Decides.{nat_tests}
use Rattle.std.proofs.lemmas.List.{append-nil}
use Rattle.step_trace.specs.declared.steps.Act.{Act}
use Rattle.step_trace.specs.declared.steps.Act.TheVariants.{Send, Receive}
use Rattle.step_trace.specs.declared.steps.Step.{Step}
use Rattle.step_trace.specs.Configurations.{Setup, IsSetup, config_refusal}
use Rattle.step_trace.specs.declared.configurations.TheConstants.{MIN_PROCESSORS, MAX_PROCESSORS}
use Rattle.step_trace.specs.declared.configurations.ConfigError.TheVariants.{BadSize, BadFaults, BadInit}
use Rattle.step_trace.specs.declared.traces.PushError.{PushError}
use Rattle.step_trace.specs.Traces.{Recorded, step_at, IsWellFormed}
use Rattle.step_trace.specs.Ticks.{tick_at, tick_of, IsTimed, IsTrace, IsOnePerTick, with_step, with_last}
use Rattle.step_trace.specs.TickRefusals.{may_end_in, refusal_in}
use Rattle.step_trace.proofs.TickPositions.{tick_at-push_old, tick_at-push_last}
use Rattle.step_trace.proofs.FittingTicks.{IsTrace-push}
use Rattle.step_trace.proofs.TickReasons.{FitsIn-from_none, IsOnePerTick-push}
use Rattle.trace_text.specs.declared.step_records.Operation.{Operation}
use Rattle.trace_text.specs.declared.step_records.Operation.TheVariants as op
use Rattle.trace_text.specs.declared.versions.Version.{Version}
use Rattle.trace_text.specs.declared.versions.Version.TheVariants.{One, Two}
use Rattle.trace_text.specs.declared.reading.Stage.{Stage}
use Rattle.trace_text.specs.declared.reading.Stage.TheVariants.{Opening, Sized, Recording, Ended}
use Rattle.trace_text.specs.declared.refusals.TextError.TheVariants as why
use Rattle.trace_text.specs.TraceTexts.{version_field, HasTextsOf, header_record, init_record, op_text, arg_text, step_record, step_records, end_record, trace_records, IsTextTrace}
use Rattle.trace_text.specs.Records.{field_of, number_of, after_records}
use Rattle.trace_text.specs.TextRefusals.{numbers_of, ids_of, version_named, step_fields, proc_place, step_tick, ended}
use Rattle.trace_text.specs.TextRefusals.{operation_of, act_of, is_size, header_stage, init_stage, step_of, pushed}
use Rattle.trace_text.specs.TextRefusals.{step_stage, end_stage, next_stage, trace_at_end, trace_of_records}
use Rattle.trace_text.proofs.Numbers.{number_of-some, same-from_bytes_eq}
use Rattle.trace_text.proofs.NumberLists.{numbers_of-some, ids_of-some}
use Rattle.trace_text.proofs.StageInversions.{passed, read_part, read_result, four_are, five_are, two_are, append_one, first_field}

-- these are the records of a trace, in one of the versions
abbrev pub AreRecordsOf : List (List (List ℕ)) → Recorded → Type 0
AreRecordsOf records t = (v : Version) × HasTextsOf v t × (records ≡ trace_records v t)

-- the records that lead to a stage
abbrev pub LeadsTo : List (List (List ℕ)) → Stage → Type 0
LeadsTo records Opening = records ≡ []
LeadsTo records (Sized v n t) = records ≡ header_record v n t ∷ []
LeadsTo records (Recording v t) = IsTextTrace t × HasTextsOf v t
    × (records ≡ header_record v t.config.n t.config.t ∷ init_record t.config.init ∷ step_records v t.ticks 1 t.steps)
LeadsTo records (Ended t) = IsTextTrace t × AreRecordsOf records t

-- a version is named by its field
from_version : (field : List ℕ) (v : Version) → version_named field ≡ Some v → field ≡ version_field v
from_version field v h = go (bytes_eq field (codes "1")) (bytes_eq field (codes "2")) refl refl h where
  go : (a b : Bool) → bytes_eq field (codes "1") ≡ a
      → bytes_eq field (codes "2") ≡ b → cond a (Some One) (cond b (Some Two) None) ≡ Some v → field ≡ version_field v
  go true b d e k = let same : One ≡ v = cc k in rw (← same) (same-from_bytes_eq field (codes "1") d)
  go false true d e k = let same : Two ≡ v = cc k in rw (← same) (same-from_bytes_eq field (codes "2") e)
  go false false d e k = cc k

-- the header
from_header : (fields : List (List ℕ)) (s : Stage) → header_stage fields ≡ Ok s → LeadsTo (fields ∷ []) s
from_header fields s h =
    let first = passed ((length fields == 4) && bytes_eq (field_of fields 0) (codes "dls-trace")) _ _ s h in
    let two = and_parts (length fields == 4) _ first.0 in
    let version = read_part (version_named (field_of fields 1)) why.BadVersion _ s first.1 in
    let n = read_part (number_of (field_of fields 2)) why.BadSize _ s version.2 in
    let t = read_part (number_of (field_of fields 3)) why.BadSize _ s n.2 in
    let size = passed (is_size n.0 t.0) _ _ s t.2 in
    let stage : Sized version.0 n.0 t.0 ≡ s = cc (size.1) in
    let whole = four_are fields (codes "dls-trace") (version_field version.0) (decimal n.0) (decimal t.0) (eqb-true (length fields) 4 two.0)
    (same-from_bytes_eq _ _ two.1) (from_version _ version.0 version.1) (number_of-some _ n.0 n.1).0 (number_of-some _ t.0 t.1).0 in
    rw (← stage) (ap (λ r. r ∷ []) whole)

none_cond : {E : Type 0} (b : Bool) (e : E) (o : Option E) → cond b (Some e) o ≡ None → (b ≡ false) × (o ≡ None)
none_cond true e o h = cc h
none_cond false e o h = (refl, h)

none_last : {E : Type 0} (b : Bool) (e : E) → cond b None (Some e) ≡ None → b ≡ true
none_last true e h = refl
none_last false e h = cc h

-- a configuration that isn't refused is one
IsSetup-from_none : (n t : ℕ) (values : List ℕ) → config_refusal n t (length values) ≡ None
    → IsSetup (record { n = n; t = t; init = values })
IsSetup-from_none n t values h =
    let size = none_cond (nat_lt n MIN_PROCESSORS || nat_lt MAX_PROCESSORS n) BadSize _ h in
    let faults = none_cond (nat_lt n (2 * t + 1)) BadFaults _ size.1 in
    let count = none_last (length values == n) BadInit faults.1 in
    let ends = or_parts (nat_lt n MIN_PROCESSORS) (nat_lt MAX_PROCESSORS n) size.0 in
    let low = ends.0 in
    let high = ends.1 in
    let few = faults.0 in
    record {
      least = grind (arith, nat_tests);
      most = grind (arith, nat_tests);
      faults = grind (arith, nat_tests);
      values = eqb-true (length values) n count;
    }

none_is : {E : Type 0} (o : Option E) → is_none o ≡ true → o ≡ None
none_is None h = refl
none_is (Some e) h = cc h

nothing : (k : ℕ) (x : Step) → step_at [] k ≡ Some x → ⊥
nothing zero x h = cc h
nothing (suc k) x h = cc h

-- the trace of a configuration without steps
abbrev no_steps : Setup → Recorded
no_steps c = record { config = c; steps = []; ticks = []; last = 0 }

IsWellFormed-none : (c : Setup) → IsWellFormed c []
IsWellFormed-none c = record {
  short = omega arith;
  procs = λ k x h. absurd (nothing k x h);
  dests = λ k x h. absurd (nothing k x h);
  rising = λ k x h. absurd (nothing k x h);
  earlier = λ k s x h t. absurd (nothing k x h);
  once = λ m n s a b. absurd (nothing m a.0 a.1);
}

IsTimed-none : (c : Setup) → IsTimed (no_steps c)
IsTimed-none c = record {
  each = refl;
  end = omega arith;
  inside = λ k x h. absurd (nothing k x h);
  order = λ j k a b l h g. absurd (nothing j a h);
  later = λ k s t. absurd (nothing k t.0 t.1);
}

IsOnePerTick-none : (c : Setup) → IsOnePerTick (no_steps c)
IsOnePerTick-none c = record { end = refl; each = λ k l. first k l } where
  first : (k : ℕ) → k ≤ 0 → tick_of (no_steps c) k ≡ k
  first zero l = refl
  first (suc k) l = absurd (omega (arith, l))

HasTextsOf-none : (v : Version) (c : Setup) → HasTextsOf v (no_steps c)
HasTextsOf-none One c = IsOnePerTick-none c
HasTextsOf-none Two c = tt

-- the initial values
from_init : (records : List (List (List ℕ))) (v : Version) (n t : ℕ) (fields : List (List ℕ)) (s : Stage)
    → LeadsTo records (Sized v n t) → init_stage v n t fields ≡ Ok s → LeadsTo (records ++ fields ∷ []) s
from_init records v n t fields s before h =
    let first = passed (bytes_eq (field_of fields 0) (codes "init")) _ _ s h in
    let values = read_part (numbers_of (drop 1 fields)) why.BadInit _ s first.1 in
    let start = passed (is_none (config_refusal n t (length values.0))) _ _ s values.2 in
    let config : Setup = record { n = n; t = t; init = values.0 } in
    let stage : Recording v (no_steps config) ≡ s = cc (start.1) in
    let numbers = numbers_of-some (drop 1 fields) values.0 values.1 in
    let name = same-from_bytes_eq (field_of fields 0) (codes "init") first.0 in
    let whole : fields ≡ init_record values.0 = first_field fields 105 (codes "nit") name ∙ ap (λ r. codes "init" ∷ r) numbers.0 in
    rw (← stage) (
      record {
        setup = IsSetup-from_none n t values.0 (none_is _ start.0);
        values = numbers.1;
        well_formed = record { steps = IsWellFormed-none config; time = IsTimed-none config };
      },
      HasTextsOf-none v config,
      append_one records (header_record v n t ∷ []) fields (init_record values.0) before whole,
    )

-- the operation of a field is named by it
operation_text : Operation → List ℕ
operation_text op.Send = codes "S"
operation_text op.Receive = codes "R"
operation_text op.EndRound = codes "E"

from_operation : (field : List ℕ) (o : Operation) → operation_of field ≡ Some o → field ≡ operation_text o
unfolding operation_text
from_operation field o h = go (bytes_eq field (codes "S")) (bytes_eq field (codes "R")) (bytes_eq field (codes "E")) refl refl refl h where
  go : (s r e : Bool) → bytes_eq field (codes "S") ≡ s → bytes_eq field (codes "R") ≡ r → bytes_eq field (codes "E") ≡ e
      → cond s (Some op.Send) (cond r (Some op.Receive) (cond e (Some op.EndRound) None)) ≡ Some o → field ≡ operation_text o
  go true r e a b d k = let same : op.Send ≡ o = cc k in rw (← same) (same-from_bytes_eq field (codes "S") a)
  go false true e a b d k = let same : op.Receive ≡ o = cc k in rw (← same) (same-from_bytes_eq field (codes "R") b)
  go false false true a b d k = let same : op.EndRound ≡ o = cc k in rw (← same) (same-from_bytes_eq field (codes "E") d)
  go false false false a b d k = cc k

mapped : {A B : Type 0} (f : A → B) (o : Option A) (y : B) → option_map f o ≡ Some y → (x : A) × (o ≡ Some x) × (f x ≡ y)
mapped f None y h = cc h
mapped f (Some x) y h = (x, refl, cc h)

-- an argument that an operation takes is that of the act
from_act : (o : Operation) (arg : List ℕ) (a : Act) → act_of o arg ≡ Some a → (operation_text o ≡ op_text a) × (arg ≡ arg_text a)
unfolding operation_text
from_act op.Send arg a h =
    let part = mapped (λ to. Send to) (number_of arg) a h in
    rw (← part.2) (refl, (number_of-some arg part.0 part.1).0)
from_act op.Receive arg a h =
    let part = mapped (λ ids. Receive false ids) (ids_of arg) a h in
    rw (← part.2) (refl, ids_of-some arg part.0 part.1)
from_act op.EndRound arg a h =
    let part = mapped (λ ids. Receive true ids) (ids_of arg) a h in
    rw (← part.2) (refl, ids_of-some arg part.0 part.1)

-- the tick of a step's record: in version 1 its number, in version 2 the second field
IsTickOf : Version → ℕ → ℕ → List (List ℕ) → Type 0
IsTickOf One at tick fields = tick ≡ at
IsTickOf Two at tick fields = field_of fields 1 ≡ decimal tick

from_tick : (v : Version) (at tick : ℕ) (fields : List (List ℕ)) → step_tick v at fields ≡ Some tick → IsTickOf v at tick fields
unfolding IsTickOf
from_tick One at tick fields h = cc h
from_tick Two at tick fields h = (number_of-some (field_of fields 1) tick h).0

-- the fields of a step after its number
record IsRead (v : Version) (at moment : ℕ) (x : Step) (fields : List (List ℕ)) : Type 0 where
  tick : IsTickOf v at moment fields
  proc : field_of fields (proc_place v) ≡ decimal x.proc
  op : field_of fields (proc_place v + 1) ≡ op_text x.act
  arg : field_of fields (proc_place v + 2) ≡ arg_text x.act

from_fields : (v : Version) (at : ℕ) (fields : List (List ℕ)) (y : ℕ × Step) → step_of v at fields ≡ Ok y → IsRead v at y.0 y.1 fields
from_fields v at fields y h =
    let o = read_part (operation_of (field_of fields (proc_place v + 1))) (why.BadOp at) _ y h in
    let t = read_part (step_tick v at fields) (why.BadNumber at) _ y o.2 in
    let p = read_part (number_of (field_of fields (proc_place v))) (why.BadNumber at) _ y t.2 in
    let a = read_part (act_of o.0 (field_of fields (proc_place v + 2))) (why.BadNumber at) _ y p.2 in
    let step : ◌≡◌ {A = ℕ × Step} (t.0, record { proc = p.0; act = a.0 }) y = cc (a.2) in
    let act = from_act o.0 (field_of fields (proc_place v + 2)) a.0 a.1 in
    rw (← step) (record {
      tick = from_tick v at t.0 fields t.1;
      proc = (number_of-some (field_of fields (proc_place v)) p.0 p.1).0;
      op = from_operation (field_of fields (proc_place v + 1)) o.0 o.1 ∙ act.0;
      arg = act.1;
    })

-- the whole record of a step
whole_record : (v : Version) (at tick : ℕ) (x : Step) (fields : List (List ℕ)) → (length fields == step_fields v) ≡ true
    → field_of fields 0 ≡ decimal at → IsRead v at tick x fields → fields ≡ step_record v at tick x
unfolding IsTickOf
whole_record One at tick x fields count first h = four_are fields
    (decimal at) (decimal x.proc) (op_text x.act) (arg_text x.act) (eqb-true (length fields) 4 count) first h.proc h.op h.arg
whole_record Two at tick x fields count first h = five_are fields (decimal at)
    (decimal tick) (decimal x.proc) (op_text x.act) (arg_text x.act) (eqb-true (length fields) 5 count) first h.tick h.proc h.op h.arg

-- a step that the trace takes
from_push : (v : Version) (t : Recorded) (tick : ℕ) (x : Step) (s : Stage) (r : Option PushError)
    → refusal_in t tick x ≡ r → pushed v t tick x r ≡ Ok s → (refusal_in t tick x ≡ None) × (Recording v (with_step t tick x) ≡ s)
from_push v t tick x s None e h = (e, cc h)
from_push v t tick x s (Some f) e h = cc h

-- the records of the steps with one step more
pub step_records-more : (v : Version) (ticks : List ℕ) (at : ℕ) (xs : List Step) (x : Step) → step_records v ticks at (xs ++ x ∷ [])
    ≡ step_records v ticks at xs ++ step_record v (at + length xs) (tick_at ticks (at + length xs)) x ∷ []
step_records-more v ticks at [] x = let e : at + 0 ≡ at = omega arith in rw e refl
step_records-more v ticks at (y ∷ xs) x =
    let e : at + 1 + length xs ≡ at + suc (length xs) = omega arith in
    ap (λ r. step_record v at (tick_at ticks at) y ∷ r) (rw e at (step_records-more v ticks (at + 1) xs x))

-- they don't change if a tick is added after those of the steps
step_records-later : (v : Version) (ticks : List ℕ) (tick at : ℕ) (xs : List Step)
    → at + length xs ≤ length ticks + 1 → step_records v (ticks ++ tick ∷ []) at xs ≡ step_records v ticks at xs
step_records-later v ticks tick at [] room = refl
step_records-later v ticks tick at (x ∷ xs) room =
    rw (tick_at-push_old ticks tick at (omega (arith, room)), step_records-later v ticks tick (at + 1) xs (omega (arith, room))) refl

-- the records of the steps of a trace with one step more
pushed-records : (v : Version) (t : Recorded) (tick : ℕ) (x : Step) → length t.ticks ≡ length t.steps → step_records v
    (t.ticks ++ tick ∷ []) 1 (t.steps ++ x ∷ []) ≡ step_records v t.ticks 1 t.steps ++ step_record v (length t.steps + 1) tick x ∷ []
pushed-records v t tick x long =
    let e : 1 + length t.steps ≡ length t.steps + 1 = omega arith in
    let place : suc (length t.ticks) ≡ length t.steps + 1 = omega (arith, long) in
    let last : tick_at (t.ticks ++ tick ∷ []) (length t.steps + 1)
    ≡ tick = subst (λ n. tick_at (t.ticks ++ tick ∷ []) n ≡ tick) place (tick_at-push_last t.ticks tick) in
    rw (step_records-more v (t.ticks ++ tick ∷ []) 1 t.steps x, e, last, step_records-later v t.ticks tick 1 t.steps (omega (arith, long)))
    refl

HasTextsOf-push : (v : Version) (t : Recorded) (tick : ℕ) (x : Step) (fields : List (List ℕ)) → IsTrace t
    → HasTextsOf v t → IsTickOf v (length t.steps + 1) tick fields → HasTextsOf v (with_step t tick x)
unfolding IsTickOf
HasTextsOf-push One t tick x fields w one e =
    let same : t.last + 1 ≡ tick = let end = one.end in omega (arith, end, e) in
    subst (λ n. IsOnePerTick (with_step t n x)) same (IsOnePerTick-push t x w one)
HasTextsOf-push Two t tick x fields w has e = tt

-- a step
from_step : (records : List (List (List ℕ))) (v : Version) (t : Recorded) (fields : List (List ℕ)) (s : Stage)
    → LeadsTo records (Recording v t) → step_stage v t fields ≡ Ok s → LeadsTo (records ++ fields ∷ []) s
from_step records v t fields s before h =
    let count = passed (length fields == step_fields v) _ _ s h in
    let number = passed (bytes_eq (field_of fields 0) (decimal (length t.steps + 1))) _ _ s count.1 in
    let step = read_result (step_of v (length t.steps + 1) fields) _ s number.1 in
    let tick = step.0.0 in
    let x = step.0.1 in
    let push = from_push v t tick x s (refusal_in t tick x) refl step.2 in
    let parts = from_fields v (length t.steps + 1) fields step.0 step.1 in
    let first = same-from_bytes_eq (field_of fields 0) (decimal (length t.steps + 1)) number.0 in
    let whole = whole_record v (length t.steps + 1) tick x fields count.0 first parts in
    let trace = before.0 in
    rw (← push.1) (
      record {
        setup = trace.setup;
        values = trace.values;
        well_formed = IsTrace-push t tick x trace.well_formed (FitsIn-from_none t tick x trace.well_formed push.0);
      },
      HasTextsOf-push v t tick x fields trace.well_formed before.1 parts.tick,
      append_one records _ fields (step_record v (length t.steps + 1) tick x) before.2 whole ∙ ap (λ r. header_record
          v t.config.n t.config.t ∷ init_record t.config.init ∷ r) (sym (pushed-records v t tick x trace.well_formed.time.each)),
    )

-- a trace may end later
IsTrace-with_last : (t : Recorded) (last : ℕ) → IsTrace t → may_end_in t last ≡ true → IsTrace (with_last t last)
IsTrace-with_last t last w h =
    let parts = and_parts (nat_le t.last last) (nat_le last 1000000) h in
    let forward : t.last ≤ last = let p = parts.0 in grind (arith, nat_tests) in
    let high : last ≤ 1000000 = let p = parts.1 in grind (arith, nat_tests) in
    record {
      steps = w.steps;
      time = record {
        each = w.time.each;
        end = high;
        inside = λ k x at. let i = w.time.inside k x at in (i.0, let up = i.1 in omega (arith, up, forward));
        order = w.time.order;
        later = w.time.later;
      };
    }

-- the end
from_end : (records : List (List (List ℕ))) (v : Version) (t : Recorded) (fields : List (List ℕ)) (s : Stage)
    → LeadsTo records (Recording v t) → field_of fields 0 ≡ codes "end" → end_stage v t fields ≡ Ok s
    → LeadsTo (records ++ fields ∷ []) s
from_end records v t fields s before name h =
    let two = passed (length fields == 2) _ _ s h in go v two.0 before two.1 where
      whole : (n : ℕ) → (length fields == 2) ≡ true → field_of fields 1 ≡ decimal n → fields ≡ end_record n
      whole n two field = two_are fields (codes "end") (decimal n) (eqb-true (length fields) 2 two) name field

      go : (v : Version) → (length fields == 2) ≡ true
          → LeadsTo records (Recording v t) → ended v t (field_of fields 1) ≡ Ok s → LeadsTo (records ++ fields ∷ []) s
      go One two before k =
          let number = passed (bytes_eq (field_of fields 1) (decimal (length t.steps))) _ _ s k in
          let stage : Ended t ≡ s = cc (number.1) in
          let count = same-from_bytes_eq (field_of fields 1) (decimal (length t.steps)) number.0 in
          rw (← stage) (
            before.0,
            (
              One,
              before.1,
              append_one records _ fields
                  (end_record t.last) before.2 (whole (length t.steps) two count ∙ ap end_record (sym before.1.end)),
            ),
          )
      go Two two before k =
          let last = read_part (number_of (field_of fields 1)) why.WrongEnd _ s k in
          let may = passed (may_end_in t last.0) _ _ s last.2 in
          let stage : Ended (with_last t last.0) ≡ s = cc (may.1) in
          let trace = before.0 in
          rw (← stage) (
            record { setup = trace.setup; values = trace.values; well_formed = IsTrace-with_last t last.0 trace.well_formed may.0 },
            (
              Two,
              tt,
              append_one records _ fields (end_record last.0) before.2
                  (whole last.0 two (number_of-some (field_of fields 1) last.0 last.1).0),
            ),
          )

-- one record more
from_record : (records : List (List (List ℕ))) (a : Stage) (fields : List (List ℕ)) (s : Stage)
    → LeadsTo records a → next_stage a fields ≡ Ok s → LeadsTo (records ++ fields ∷ []) s
from_record records Opening fields s before h = rw before (from_header fields s h)
from_record records (Sized v n t) fields s before h = from_init records v n t fields s before h
from_record records (Recording v t) fields s before h = go (bytes_eq (field_of fields 0) (codes "end")) refl h where
  go : (b : Bool) → bytes_eq (field_of fields 0) (codes "end") ≡ b
      → cond b (end_stage v t fields) (step_stage v t fields) ≡ Ok s → LeadsTo (records ++ fields ∷ []) s
  go true e k = from_end records v t fields s before (same-from_bytes_eq (field_of fields 0) (codes "end") e) k
  go false e k = from_step records v t fields s before k
from_record records (Ended t) fields s before h = cc h

-- and so all records
from_records : (records : List (List (List ℕ))) (a : Stage) (more : List (List (List ℕ))) (s : Stage)
    → LeadsTo records a → after_records next_stage a more ≡ Ok s → LeadsTo (records ++ more) s
from_records records a [] s before h = let same : a ≡ s = cc h in rw (append-nil records, ← same) before
from_records records a (fields ∷ more) s before h =
    let next = read_result (next_stage a fields) _ s h in
    rw (← append_assoc records (fields ∷ []) more)
    (from_records (records ++ fields ∷ []) next.0 more s (from_record records a fields next.0 before next.1) next.2)

at_end : (records : List (List (List ℕ))) (s : Stage) (t : Recorded)
    → LeadsTo records s → trace_at_end s ≡ Ok t → IsTextTrace t × AreRecordsOf records t
at_end records Opening t before h = cc h
at_end records (Sized v n f) t before h = cc h
at_end records (Recording v u) t before h = cc h
at_end records (Ended u) t before h = let same : u ≡ t = cc h in subst (λ z. IsTextTrace z × AreRecordsOf records z) same before

-- records that give a trace are its records, and it is a trace
pub accepted-records : (records : List (List (List ℕ))) (t : Recorded)
    → trace_of_records records ≡ Ok t → IsTextTrace t × AreRecordsOf records t
accepted-records records t h =
    let s = read_result (after_records next_stage Opening records) _ t h in
    at_end records s.0 t (from_records [] Opening records s.0 refl s.1) s.2
