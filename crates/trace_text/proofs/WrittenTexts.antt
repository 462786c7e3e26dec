-- The text of a trace encodes it, and is shorter than a text may be.
use Rattle.std.proofs.Common.{ℕ, suc, ◌≡◌, ◌+◌, ◌*◌, ◌<◌, ◌≤◌, ◌^◌, List, [], ◌∷◌, ◌++◌, length, Option, Some, None, true, false, decimal, refl, arith, length-append}
use Rattle.std.specs.Prelude.{All, Contains, IfSome, slice_get}
use Rattle.std.proofs.lemmas.List.{length-map}
use Rattle.std.proofs.lemmas.List.Elements.{All-weaker, All-contains_itself}
use Rattle.csv.specs.Reading.{strip_bom}
use Rattle.step_trace.specs.declared.steps.Act.{Act}
use Rattle.step_trace.specs.declared.steps.Act.TheVariants.{Send, Receive}
use Rattle.step_trace.specs.declared.steps.Step.{Step}
use Rattle.step_trace.specs.Configurations.{Setup, IsSetup, IsProc}
use Rattle.step_trace.specs.Steps.{act_dest, act_ids}
use Rattle.step_trace.specs.Traces.{Recorded, step_at, IsWellFormed}
use Rattle.step_trace.specs.Ticks.{tick_at}
use Rattle.step_trace.proofs.TickPositions.{tick_of-limit}
use Rattle.trace_text.specs.declared.versions.Version.{Version}
use Rattle.trace_text.specs.declared.versions.Version.TheVariants.{One, Two}
use Rattle.step_trace.proofs.StepPositions.{step_at_within}
use Rattle.trace_text.specs.declared.byte_loops.TheConstants.{MAX_TEXT_BYTES}
use Rattle.trace_text.specs.Records.{record_line, text_of_records}
use Rattle.trace_text.specs.RecordWriting.{IsPlain, ArePlain}
use Rattle.trace_text.specs.TraceTexts.{IsTextTrace, HasTextsOf, StandsFor, version_field, header_record, init_record}
use Rattle.trace_text.specs.TraceTexts.{step_record, step_records, end_record, op_text, arg_text, trace_records}
use Rattle.trace_text.specs.TraceTexts.{version_text}
use Rattle.trace_text.proofs.LineLengths.{bytes_of-decimals, length-ids, length-line, short-decimal}
use Rattle.trace_text.proofs.LinesRead.{AreLines, AreLines-append, lines-read}
use Rattle.trace_text.proofs.PlainFields.{IsPlain-decimal}
use Rattle.trace_text.proofs.TakenIds.{taken_ids, length-taken_ids}
use Rattle.trace_text.proofs.WrittenRecords.{ArePlain-decimals, IsPlain-ids, text_of_records-more}

-- a step of numbers of seven digits at most
record IsShort (x : Step) : Type 0 where
  proc : x.proc < 10 ^ 7
  dest : IfSome (act_dest x.act) (λ p. p < 10 ^ 7)
  ids : All (λ s. s < 10 ^ 7) (act_ids x.act)

AreShort : List Step → Type 0
AreShort [] = Unit {0}
AreShort (x ∷ xs) = IsShort x × AreShort xs

short-dest : (c : Setup) (o : Option ℕ) → IsSetup c → IfSome o (IsProc c) → IfSome o (λ p. p < 10 ^ 7)
short-dest c None setup proc = tt
short-dest c (Some p) setup proc = let most = setup.most in let high = proc.1 in omega (arith, most, high)

short-step : (c : Setup) (steps : List Step) (k : ℕ) (x : Step) → IsSetup c → IsWellFormed c steps → step_at steps k ≡ Some x → IsShort x
short-step c steps k x setup w at =
    let within = (step_at_within steps k x at).1 in
    let short = w.short in
    record {
      proc = let most = setup.most in let high = (w.procs k x at).1 in omega (arith, most, high);
      dest = short-dest c (act_dest x.act) setup (w.dests k x at);
      ids = All-weaker (Contains (act_ids x.act)) (λ s. s < 10 ^ 7) (λ s d. let before = (w.earlier k s x at d).0 in
          omega (arith, before, within, short)) (act_ids x.act) (All-contains_itself (act_ids x.act));
    }

short-steps : (xs : List Step) → ((k : ℕ) (x : Step) → slice_get xs k ≡ Some x → IsShort x) → AreShort xs
unfolding AreShort
short-steps [] h = tt
short-steps (x ∷ xs) h = (h 0 x refl, short-steps xs (λ k y e. h (suc k) y e))

-- the fields of a step call for no quotes
plain-op : (a : Act) → IsPlain (op_text a)
plain-op (Send to) = refl
plain-op (Receive false ids) = refl
plain-op (Receive true ids) = refl

fits-ids : (ns : List ℕ) → All (λ n. n < 10 ^ 7) ns → All (λ n. n < 2 ^ 64) ns
fits-ids ns small = All-weaker (λ n. n < 10 ^ 7) (λ n. n < 2 ^ 64) (λ n l. omega (arith, l)) ns small

plain-arg : (a : Act) → IfSome (act_dest a) (λ p. p < 10 ^ 7) → All (λ s. s < 10 ^ 7) (act_ids a) → IsPlain (arg_text a)
plain-arg (Send to) dest ids = IsPlain-decimal to (omega (arith, dest))
plain-arg (Receive ends ns) dest ids = IsPlain-ids ns (fits-ids ns ids)

-- no tick has more than seven digits
AreShortTicks : List ℕ → Type 0
AreShortTicks ticks = (k : ℕ) → tick_at ticks k < 10 ^ 7

plain-step : (v : Version) (at tick : ℕ) (x : Step) → at < 10 ^ 7 → tick < 10 ^ 7 → IsShort x → ArePlain (step_record v at tick x)
plain-step One at tick x l m short =
    let proc = short.proc in (
      IsPlain-decimal at (omega (arith, l)),
      (IsPlain-decimal x.proc (omega (arith, proc)), (plain-op x.act, (plain-arg x.act short.dest short.ids, tt))),
    )
plain-step Two at tick x l m short =
    let proc = short.proc in (
      IsPlain-decimal at (omega (arith, l)),
      (
        IsPlain-decimal tick (omega (arith, m)),
        (IsPlain-decimal x.proc (omega (arith, proc)), (plain-op x.act, (plain-arg x.act short.dest short.ids, tt))),
      ),
    )

two-fields : (v : Version) (at tick : ℕ) (x : Step) → 2 ≤ length (step_record v at tick x)
two-fields One at tick x = omega arith
two-fields Two at tick x = omega arith

lines-steps : (v : Version) (ticks : List ℕ) (at : ℕ) (xs : List Step)
    → at + length xs ≤ 10 ^ 7 → AreShortTicks ticks → AreShort xs → AreLines (step_records v ticks at xs)
unfolding AreShort AreShortTicks
lines-steps v ticks at [] room low short = tt
lines-steps v ticks at (x ∷ xs) room low short = (
  two-fields v at (tick_at ticks at) x,
  plain-step v at (tick_at ticks at) x (omega (arith, room)) (low at) short.0,
  lines-steps v ticks (at + 1) xs (omega (arith, room)) low short.1,
)

-- all ticks of a trace are short
short-ticks : (t : Recorded) → IsTextTrace t → AreShortTicks t.ticks
unfolding AreShortTicks
short-ticks t h = λ k. let time = h.well_formed.time in
    let limit = tick_of-limit t time k in let end = time.end in omega (arith, limit, end)

plain-version : (v : Version) → IsPlain (version_field v)
plain-version One = refl
plain-version Two = refl

length-version : (v : Version) → length (version_field v) ≤ 1
length-version One = omega arith
length-version Two = omega arith

-- all steps of a trace are short
short-trace : (t : Recorded) → IsTextTrace t → AreShort t.steps
short-trace t h = short-steps t.steps (λ k x e. short-step t.config t.steps (suc k) x h.setup h.well_formed.steps e)

lines-trace : (v : Version) (t : Recorded) → IsTextTrace t → AreLines (trace_records v t)
lines-trace v t h =
    let setup = h.setup in
    let least = setup.least in
    let most = setup.most in
    let faults = setup.faults in
    let values = setup.values in
    let limit = h.well_formed.steps in
    let short = limit.short in
    let time = h.well_formed.time in
    let last = time.end in
    let count = length-map t.config.init decimal in
    let n : t.config.n < 2 ^ 64 = omega (arith, most) in
    let f : t.config.t < 2 ^ 64 = omega (arith, most, faults) in
    let steps = lines-steps v t.ticks 1 t.steps (omega (arith, short)) (short-ticks t h) (short-trace t h) in
    let end : AreLines (end_record t.last ∷ []) = (omega arith, (refl, (IsPlain-decimal t.last (omega (arith, last)), tt)), tt) in (
      omega arith,
      (refl, (plain-version v, (IsPlain-decimal t.config.n n, (IsPlain-decimal t.config.t f, tt)))),
      (
        omega (arith, least, values, count),
        (refl, ArePlain-decimals t.config.init h.values),
        AreLines-append (step_records v t.ticks 1 t.steps) (end_record t.last ∷ []) steps end,
      ),
    )

no-mark : (v : Version) (t : Recorded) → strip_bom (version_text v t) ≡ version_text v t
unfolding strip_bom
no-mark v t = refl

-- the text of a trace encodes it
pub StandsFor-version_text : (v : Version) (t : Recorded) → IsTextTrace t → HasTextsOf v t → StandsFor (version_text v t) t
StandsFor-version_text v t h has = (v, has, lines-read (trace_records v t) (lines-trace v t h) (no-mark v t))

-- a step's line
length-arg : (a : Act) → IfSome (act_dest a) (λ p. p < 10 ^ 7)
    → All (λ s. s < 10 ^ 7) (act_ids a) → length (arg_text a) ≤ 7 + 8 * length (act_ids a)
length-arg (Send to) dest ids = let digits = short-decimal to dest in omega (arith, digits)
length-arg (Receive ends ns) dest ids = let joined = length-ids ns ids in omega (arith, joined)

length-op : (a : Act) → length (op_text a) ≤ 1
length-op (Send to) = omega arith
length-op (Receive false ids) = omega arith
length-op (Receive true ids) = omega arith

length-step : (v : Version) (at tick : ℕ) (x : Step)
    → at < 10 ^ 7 → tick < 10 ^ 7 → IsShort x → length (record_line (step_record v at tick x)) ≤ 35 + 8 * length (act_ids x.act)
length-step One at tick x l m short =
    let number = short-decimal at l in
    let proc = short-decimal x.proc short.proc in
    let op = length-op x.act in
    let arg = length-arg x.act short.dest short.ids in
    let line = length-line (step_record One at tick x) in
    omega (arith, line, number, proc, op, arg)
length-step Two at tick x l m short =
    let number = short-decimal at l in
    let moment = short-decimal tick m in
    let proc = short-decimal x.proc short.proc in
    let op = length-op x.act in
    let arg = length-arg x.act short.dest short.ids in
    let line = length-line (step_record Two at tick x) in
    omega (arith, line, number, moment, proc, op, arg)

length-steps : (v : Version) (ticks : List ℕ) (at : ℕ) (xs : List Step) → at + length xs ≤ 10 ^ 7 → AreShortTicks ticks → AreShort xs
    → length (text_of_records (step_records v ticks at xs)) ≤ 35 * length xs + 8 * length (taken_ids xs)
unfolding AreShort AreShortTicks
length-steps v ticks at [] room low short = omega arith
length-steps v ticks at (x ∷ xs) room low short =
    let line = length-step v at (tick_at ticks at) x (omega (arith, room)) (low at) short.0 in
    let more = length-steps v ticks (at + 1) xs (omega (arith, room)) low short.1 in
    let ids = length-append (act_ids x.act) (taken_ids xs) in
    rw (length-append (record_line (step_record v at (tick_at ticks at) x)) (text_of_records (step_records v ticks (at + 1) xs)))
    (omega (arith, line, more, ids))

-- the text of a trace is shorter than 64 MiB
pub short-version_text : (v : Version) (t : Recorded) → IsTextTrace t → length (version_text v t) < MAX_TEXT_BYTES
short-version_text v t h =
    let setup = h.setup in
    let most = setup.most in
    let faults = setup.faults in
    let values = setup.values in
    let well = h.well_formed.steps in
    let short = well.short in
    let time = h.well_formed.time in
    let high = time.end in
    let count = length-map t.config.init decimal in
    let n = short-decimal t.config.n (omega (arith, most)) in
    let f = short-decimal t.config.t (omega (arith, most, faults)) in
    let name = length-version v in
    let header = length-line (header_record v t.config.n t.config.t) in
    let init = length-line (init_record t.config.init) in
    let numbers = bytes_of-decimals t.config.init h.values in
    let steps = length-steps v t.ticks 1 t.steps (omega (arith, short)) (short-ticks t h) (short-trace t h) in
    let ids = length-taken_ids t.config t.steps well in
    let last = short-decimal t.last (omega (arith, high)) in
    let end = length-line (end_record t.last) in
    let whole = length-append (record_line (header_record v t.config.n t.config.t))
    (record_line (init_record t.config.init) ++ text_of_records (step_records v t.ticks 1 t.steps ++ end_record t.last ∷ [])) in
    let rest = length-append (record_line (init_record t.config.init))
    (text_of_records (step_records v t.ticks 1 t.steps ++ end_record t.last ∷ [])) in
    let parts : length (text_of_records (step_records v t.ticks 1 t.steps ++ end_record t.last ∷ []))
    ≡ length (text_of_records (step_records v t.ticks 1 t.steps)) + length (record_line (end_record t.last)) =
    rw (text_of_records-more (step_records v t.ticks 1 t.steps) (end_record t.last))
    (length-append (text_of_records (step_records v t.ticks 1 t.steps)) (record_line (end_record t.last))) in
    omega (arith, whole, rest, parts, name, header, init, steps, end, numbers, count, n, f, last, ids, short, most, values)
