-- The records of a trace give that trace.
use Rattle.std.proofs.Common.{ℕ, ◌≡◌, ◌+◌, ◌*◌, ◌<◌, ◌≤◌, ◌^◌, ◌∙◌, List, [], ◌∷◌, ◌++◌, length, Option, Some, None, Ok}
use Rattle.std.proofs.Common.{true, false, refl, sym, ap, subst, arith, suc, length-append, codes, decimal}
use Rattle.std.proofs.Common.{append_assoc, eq-eqb}
use Rattle.std.specs.Prelude.{⊤, ◌==◌, All, Contains, IfSome, nat_lt, nat_le}
use Rattle.std.specs.Str.{bytes_eq}
use Rattle.std.specs.Char.{digit_value}
use Rattle.std.specs.Str.Parse.{AllDigits}
use Rattle.std.proofs.lemmas.Bool.Decides.{nat_tests}
use Rattle.std.proofs.lemmas.Fmt.{digits_decimal}
use Rattle.std.proofs.lemmas.List.{append-nil}
use Rattle.std.proofs.lemmas.List.Elements.{All-weaker, All-contains_itself}
use Rattle.csv.specs.Records.{field_at}
use Rattle.step_trace.specs.declared.configurations.TheConstants.{MIN_PROCESSORS, MAX_PROCESSORS}
use Rattle.step_trace.specs.declared.steps.Act.{Act}
use Rattle.step_trace.specs.declared.steps.Act.TheVariants.{Send, Receive}
use Rattle.step_trace.specs.declared.steps.Step.{Step}
use Rattle.step_trace.specs.Configurations.{Setup, IsSetup, IsProc, config_refusal}
use Rattle.step_trace.specs.Steps.{act_dest, act_ids}
use Rattle.step_trace.specs.Traces.{Recorded}
use Rattle.step_trace.specs.Ticks.{tick_at, tick_of, IsTimed, IsTrace, IsOnePerTick, CanAppend, with_step}
use Rattle.step_trace.proofs.StepPositions.{step_at_within}
use Rattle.step_trace.proofs.FittingTicks.{FitsIn-from_append}
use Rattle.step_trace.proofs.TickReasons.{none_from_FitsIn}
use Rattle.step_trace.proofs.TickPositions.{tick_of-limit}
use Rattle.trace_text.specs.declared.versions.Version.{Version}
use Rattle.trace_text.specs.declared.versions.Version.TheVariants.{One, Two}
use Rattle.trace_text.specs.declared.reading.Stage.TheVariants.{Opening, Sized, Recording, Ended}
use Rattle.trace_text.specs.declared.step_records.Operation.{Operation}
use Rattle.trace_text.specs.declared.step_records.Operation.TheVariants as op
use Rattle.trace_text.specs.TraceTexts.{version_field, HasTextsOf, header_record, init_record, op_text, arg_text, step_record, step_records, end_record, trace_records, IsTextTrace}
use Rattle.trace_text.specs.Records.{field_of, after_records, ◌>>=◌}
use Rattle.trace_text.specs.TextRefusals.{version_named, step_fields, operation_of, act_of, step_of, next_stage, trace_of_records}
use Rattle.step_trace.proofs.Digits.{decimal_digits}
use Rattle.trace_text.proofs.Numbers.{number_of-decimal, bytes_eq-same, bytes_eq-other}
use Rattle.trace_text.proofs.NumberLists.{numbers_of-decimals, ids_of-joined}
use Rattle.trace_text.proofs.Prefixes.{so_far, IsTrace-front, CanAppend-next, with_next, place-value}

test_not_lt : (n m : ℕ) → m ≤ n → nat_lt n m ≡ false
test_not_lt n m h = grind (arith, nat_tests)

test_le : (n m : ℕ) → n ≤ m → nat_le n m ≡ true
test_le n m h = grind (arith, nat_tests)

-- a version is read
reads-version : (v : Version) → version_named (version_field v) ≡ Some v
reads-version One = refl
reads-version Two = refl

-- the header is read
reads-header : (v : Version) (c : Setup) → IsSetup c → next_stage Opening (header_record v c.n c.t) ≡ Ok (Sized v c.n c.t)
unfolding field_at
reads-header v c s =
    let least = s.least in
    let most = s.most in
    let faults = s.faults in
    let n : c.n < 2 ^ 64 = omega (arith, most) in
    let t : c.t < 2 ^ 64 = omega (arith, most, faults) in
    rw (
      reads-version v,
      number_of-decimal c.n n,
      number_of-decimal c.t t,
      test_le MIN_PROCESSORS c.n least,
      test_le c.n MAX_PROCESSORS most,
      test_le (2 * c.t + 1) c.n faults,
    ) refl

none_from_IsSetup : (c : Setup) → IsSetup c → config_refusal c.n c.t (length c.init) ≡ None
none_from_IsSetup c s =
    let least = s.least in
    let most = s.most in
    let faults = s.faults in
    rw (
      test_not_lt c.n MIN_PROCESSORS least,
      test_not_lt MAX_PROCESSORS c.n most,
      test_not_lt c.n (2 * c.t + 1) faults,
      eq-eqb (length c.init) c.n s.values,
    ) refl

-- the initial values are read
reads-init : (v : Version) (c : Setup) → IsSetup c
    → All (λ n. n < 2 ^ 64) c.init → next_stage (Sized v c.n c.t) (init_record c.init) ≡ Ok (Recording v (so_far c [] []))
unfolding field_at
reads-init v c s h = rw (numbers_of-decimals c.init h, none_from_IsSetup c s) refl

-- the act of its decimal_digits operation and argument
reads-act : (a : Act) → IfSome (act_dest a) (λ p. p < 2 ^ 64)
    → All (λ n. n < 2 ^ 64) (act_ids a) → (o : Operation) × (operation_of (op_text a) ≡ Some o) × (act_of o (arg_text a) ≡ Some a)
reads-act (Send to) d h = (op.Send, refl, rw (number_of-decimal to d) refl)
reads-act (Receive false ids) d h = (op.Receive, refl, rw (ids_of-joined ids h) refl)
reads-act (Receive true ids) d h = (op.EndRound, refl, rw (ids_of-joined ids h) refl)

-- the tick of a step that a version has a record of: in version 1 its number
IsTickOf : Version → ℕ → ℕ → Type 0
IsTickOf One at tick = tick ≡ at
IsTickOf Two at tick = ⊤

-- a step of its decimal_digits fields
reads-fields : (v : Version) (at tick : ℕ) (x : Step) → IsTickOf v at tick → tick < 2 ^ 64 → x.proc < 2 ^ 64 → IfSome
    (act_dest x.act) (λ p. p < 2 ^ 64) → All (λ n. n < 2 ^ 64) (act_ids x.act) → step_of v at (step_record v at tick x) ≡ Ok (tick, x)
unfolding field_at IsTickOf
reads-fields One at tick x e m p d h = let a = reads-act x.act d h in rw (a.1, number_of-decimal x.proc p, a.2, e) refl
reads-fields Two at tick x e m p d h = let a = reads-act x.act d h in
    rw (a.1, number_of-decimal tick m, number_of-decimal x.proc p, a.2) refl

first-field : (v : Version) (at tick : ℕ) (x : Step) → field_of (step_record v at tick x) 0 ≡ decimal at
unfolding field_at
first-field One at tick x = refl
first-field Two at tick x = refl

all-fields : (v : Version) (at tick : ℕ) (x : Step) → (length (step_record v at tick x) == step_fields v) ≡ true
all-fields One at tick x = refl
all-fields Two at tick x = refl

-- no number is the word that ends a trace
pub not_end : (n : ℕ) → n < 2 ^ 64 → bytes_eq (decimal n) (codes "end") ≡ false
not_end n h = bytes_eq-other (decimal n) (codes "end") (λ e.
    let digits : AllDigits 10 (codes "end") = rw e at (digits_decimal decimal_digits n h) in
    let low : digit_value 101 < 10 = digits.0 in absurd (omega (arith, low)))

dest_small : (c : Setup) (o : Option ℕ) → c.n ≤ MAX_PROCESSORS → IfSome o (IsProc c) → IfSome o (λ p. p < 2 ^ 64)
dest_small c None h d = tt
dest_small c (Some p) h d = let high = d.1 in omega (arith, high, h)

-- a step that may be appended is read
reads-step : (v : Version) (t : Recorded) (tick : ℕ) (x : Step) → IsSetup t.config → IsTrace t → CanAppend t tick x → IsTickOf v (length
    t.steps + 1) tick → next_stage (Recording v t) (step_record v (length t.steps + 1) tick x) ≡ Ok (Recording v (with_step t tick x))
reads-step v t tick x s w a e =
    let f = FitsIn-from_append t tick x w a in
    let most = s.most in
    let room = f.fits.room in
    let high = f.fits.proc.1 in
    let end = f.high in
    let at : length t.steps + 1 < 2 ^ 64 = omega (arith, room) in
    let proc : x.proc < 2 ^ 64 = omega (arith, most, high) in
    let ids = All-weaker (Contains (act_ids x.act)) (λ n. n < 2 ^ 64)
    (λ n d. let within = step_at_within t.steps n _ (f.fits.sent n d).1 in let l = within.1 in
    omega (arith, l, room)) (act_ids x.act) (All-contains_itself (act_ids x.act)) in
    let fields = reads-fields v (length t.steps + 1) tick x e
    (omega (arith, end)) proc (dest_small t.config (act_dest x.act) most f.fits.dest) ids in
    rw (
      first-field v (length t.steps + 1) tick x,
      not_end (length t.steps + 1) at,
      all-fields v
          (length t.steps + 1) tick x,
      bytes_eq-same (decimal (length t.steps + 1))
          (decimal (length t.steps + 1)) refl,
      fields,
      none_from_FitsIn t tick x f,
    ) refl

-- the steps are read
reads-steps : (v : Version) (c : Setup) (done xs : List Step) (before ts : List ℕ) (rest : List (List (List ℕ)))
    → IsSetup c → length before ≡ length done → IsTrace (so_far c (done ++ xs) (before ++ ts))
    → ((k : ℕ) → k ≤ length (done ++ xs) → IsTickOf v k (tick_at (before ++ ts) k))
    → after_records next_stage (Recording v (so_far c done before))
    (step_records v (before ++ ts) (length done + 1) xs ++ rest)
    ≡ after_records next_stage (Recording v (so_far c (done ++ xs) (before ++ ts))) rest
reads-steps v c done [] before [] rest s long w each = rw (append-nil done, append-nil before) refl
reads-steps v c done [] before (t ∷ ts) rest s long w each = absurd (let long_ticks = w.time.each in
    let a = length-append done [] in let b = length-append before (t ∷ ts) in omega (arith, long_ticks, a, b, long))
reads-steps v c done (x ∷ xs) before [] rest s long w each = absurd (let long_ticks = w.time.each in
    let a = length-append done (x ∷ xs) in let b = length-append before [] in omega (arith, long_ticks, a, b, long))
reads-steps v c done (x ∷ xs) before (t ∷ ts) rest s long w each =
    let more = append_assoc done (x ∷ []) xs in
    let later = append_assoc before (t ∷ []) ts in
    let count : length (done ++ x ∷ []) ≡ length done + 1 = length-append done (x ∷ []) in
    let grown : length (before ++ t ∷ []) ≡ length (done ++ x ∷ []) =
    let b = length-append before (t ∷ []) in omega (arith, b, count, long) in
    let whole : IsTrace (so_far c ((done ++ x ∷ []) ++ xs) ((before ++ t ∷ []) ++ ts)) = rw (more, later) w in
    let place : suc (length before) ≡ length done + 1 = omega (arith, long) in
    let tick : tick_at (before ++ t ∷ ts) (length done + 1)
    ≡ t = subst (λ n. tick_at (before ++ t ∷ ts) n ≡ t) place (sym (place-value before t ts)) in
    let numbered : IsTickOf v (length done + 1) t = subst
    (λ n. IsTickOf v (length done + 1) n) tick (each (length done + 1) (let a = length-append done (x ∷ xs) in omega (arith, a))) in
    let next = CanAppend-next c done before x t long (IsTrace-front c (done ++ x ∷ []) xs (before ++ t ∷ []) ts _ grown whole) in
    let step = reads-step v (so_far c done before) t x s (IsTrace-front c done (x ∷ xs) before (t ∷ ts) _ long w) next numbered in
    let at : length (done ++ x ∷ []) + 1 ≡ length done + 1 + 1 = ap (λ n. n + 1) count in
    let tail =
    rw (at, more, later) at (reads-steps v c (done ++ x ∷ []) xs (before ++ t ∷ []) ts rest s grown whole (rw (more, later) each)) in
    rw tick (ap (λ r. r >>= λ next. after_records next_stage next (step_records v (before ++ t ∷ ts) (length done + 1 + 1) xs ++ rest))
    (step ∙ ap (λ z. Ok (Recording v z)) (with_next c done before x t long))) ∙ tail

-- with one step in each tick, a trace ends in the tick of its last step
ends-with_step : (t : Recorded) → IsOnePerTick t → so_far t.config t.steps t.ticks ≡ t
ends-with_step t one = ap (λ n. record { config = t.config; steps = t.steps; ticks = t.ticks; last = n })
    (one.each (length t.steps) (omega arith) ∙ sym one.end)

-- the end is read
reads-end : (v : Version) (t : Recorded) → IsTimed t
    → HasTextsOf v t → next_stage (Recording v (so_far t.config t.steps t.ticks)) (end_record t.last) ≡ Ok (Ended t)
unfolding field_at
reads-end One t time one =
    rw (bytes_eq-same (decimal t.last) (decimal (length t.steps)) (ap decimal one.end)) (ap (λ z. Ok (Ended z)) (ends-with_step t one))
reads-end Two t time has =
    let end = time.end in
    let n : t.last < 2 ^ 64 = omega (arith, end) in
    rw (
      number_of-decimal t.last n,
      test_le (tick_at t.ticks (length t.steps)) t.last (tick_of-limit t time (length t.steps)),
      test_le t.last 1000000 end,
    ) refl

ticks-told : (v : Version) (t : Recorded) → HasTextsOf v t → (k : ℕ) → k ≤ length t.steps → IsTickOf v k (tick_of t k)
unfolding IsTickOf
ticks-told One t one = λ k l. one.each k l
ticks-told Two t has = λ k l. tt

-- a trace as far as its last step
IsTrace-so_far : (t : Recorded) → IsTrace t → IsTrace (so_far t.config t.steps t.ticks)
IsTrace-so_far t w = IsTrace-front t.config t.steps [] t.ticks [] t.last w.time.each (rw (append-nil t.steps, append-nil t.ticks) w)

-- the records of a trace give it
pub reads-trace : (v : Version) (t : Recorded) → IsTextTrace t → HasTextsOf v t → trace_of_records (trace_records v t) ≡ Ok t
reads-trace v t h has =
    let steps = reads-steps v t.config [] t.steps [] t.ticks
    (end_record t.last ∷ []) h.setup refl (IsTrace-so_far t h.well_formed) (ticks-told v t has) in
    rw (reads-header v t.config h.setup, reads-init v t.config h.setup h.values, steps, reads-end v t h.well_formed.time has) refl
