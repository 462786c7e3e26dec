-- A trace text's record of too many fields is refused as soon as it has them.
use Rattle.std.specs.Prelude.{ℕ, ◌≡◌, ◌<◌, ◌+◌, List, [], ◌∷◌, ◌++◌, length, drop, Option, Some, None, Result}
use Rattle.std.specs.Prelude.{Err, Bool, true, false, ◌||◌, ◌==◌, ◌*◌, ⊤, nat_lt, codes, is_none, option_map}
use Rattle.std.proofs.Common.{◌≤◌, suc, cond, refl, ap, arith, length-append, length-drop}
use Rattle.std.proofs.lemmas.Bool.{ltb-false}
use Rattle.std.specs.Str.{bytes_eq}
use Rattle.std.specs.Option.{option_and_then, ok_or}
use Rattle.step_trace.specs.declared.configurations.TheConstants.{MIN_PROCESSORS, MAX_PROCESSORS}
use Rattle.step_trace.specs.declared.configurations.ConfigError.TheVariants as config
use Rattle.step_trace.specs.Traces.{Recorded}
use Rattle.trace_text.specs.declared.record_limits.TheConstants.{MAX_FIELDS}
use Rattle.trace_text.specs.declared.versions.Version.{Version}
use Rattle.trace_text.specs.declared.versions.Version.TheVariants.{One, Two}
use Rattle.trace_text.specs.declared.reading.Stage.{Stage}
use Rattle.trace_text.specs.declared.reading.Stage.TheVariants.{Opening, Sized, Recording, Ended}
use Rattle.trace_text.specs.declared.refusals.TextError.{TextError}
use Rattle.trace_text.specs.declared.refusals.TextError.TheVariants.{BadHeader, BadInit, BadFields, AfterEnd}
use Rattle.trace_text.specs.Records.{◌>>=◌, field_of, number_of}
use Rattle.trace_text.specs.RecordLimits.{RefusesLong}
use Rattle.trace_text.specs.TextRefusals.{header_stage, init_stage, step_stage, end_stage, next_stage}
use Rattle.trace_text.specs.TextRefusals.{numbers_of, step_fields, started, values_stage}

pub apart : (a b : ℕ) → a < b → (b == a) ≡ false
apart a b h = grind arith

bad_header : (fields : List (List ℕ)) → MAX_FIELDS < length fields → header_stage fields ≡ Err BadHeader
bad_header fields long = let other : (length fields == 4) ≡ false =
    apart 4 (length fields) (omega (arith, long)) in rw other refl

or_right : (b c : Bool) → (b || c) ≡ false → c ≡ false
or_right true c e = cc e
or_right false c e = e

refused : (size faults same : Bool) → (size ≡ false → same ≡ false)
    → is_none (cond size (Some config.BadSize)
    (cond faults (Some config.BadFaults) (cond same None (Some config.BadInit)))) ≡ false
refused true faults same h = refl
refused false true same h = refl
refused false false same h = rw (h refl) refl

-- there are no more initial values than processors
bad_started : (v : Version) (n t : ℕ) (values : List ℕ) → MAX_FIELDS < length values + 1
    → started v n t values ≡ Err BadInit
bad_started v n t values long =
    let many : (nat_lt n MIN_PROCESSORS || nat_lt MAX_PROCESSORS n) ≡ false → (length values == n) ≡ false =
    λ e. (let within : n ≤ MAX_PROCESSORS = ltb-false MAX_PROCESSORS n (or_right (nat_lt n MIN_PROCESSORS) _ e) in
    apart n (length values) (omega (arith, within, long))) in
    rw (refused (nat_lt n MIN_PROCESSORS || nat_lt MAX_PROCESSORS n) (nat_lt n (2 * t + 1)) (length values == n) many)
    refl

-- so many numbers, if they are numbers
HasLength : Option (List ℕ) → ℕ → Type 0
HasLength None k = ⊤
HasLength (Some values) k = length values ≡ k

has_more : (o : Option ℕ) (m : Option (List ℕ)) (k : ℕ) → HasLength m k
    → HasLength (option_and_then (λ n. option_map (λ ns. n ∷ ns) m) o) (suc k)
unfolding HasLength
has_more None m k h = tt
has_more (Some n) None k h = tt
has_more (Some n) (Some values) k h = ap suc h

has_length : (fields : List (List ℕ)) → HasLength (numbers_of fields) (length fields)
unfolding HasLength
has_length [] = refl
has_length (f ∷ fs) = has_more (number_of f) (numbers_of fs) (length fs) (has_length fs)

bad_values : (v : Version) (n t : ℕ) (o : Option (List ℕ)) (k : ℕ) → HasLength o k → MAX_FIELDS < k + 1
    → ok_or o BadInit >>= (λ values. started v n t values) ≡ Err BadInit
unfolding HasLength
bad_values v n t None k h long = refl
bad_values v n t (Some values) k h long = bad_started v n t values (rw h long)

either : (b : Bool) (x : Result Stage TextError) → x ≡ Err BadInit → cond b x (Err BadInit) ≡ Err BadInit
either true x h = h
either false x h = refl

bad_init : (v : Version) (n t : ℕ) (fields : List (List ℕ)) → MAX_FIELDS < length fields
    → init_stage v n t fields ≡ Err BadInit
bad_init v n t fields long =
    either (bytes_eq (field_of fields 0) (codes "init")) (values_stage v n t (drop 1 fields))
    (bad_values v n t (numbers_of (drop 1 fields)) (length (drop 1 fields)) (has_length (drop 1 fields))
    (omega (arith, long, length-drop 1 fields)))

both : (b : Bool) (x y : Result Stage TextError) (e : TextError) → x ≡ Err e → y ≡ Err e → cond b x y ≡ Err e
both true x y e h k = h
both false x y e h k = k

bad_end : (v : Version) (t : Recorded) (fields : List (List ℕ)) → MAX_FIELDS < length fields
    → end_stage v t fields ≡ Err (BadFields (length t.steps + 1))
bad_end v t fields long = let other : (length fields == 2) ≡ false =
    apart 2 (length fields) (omega (arith, long)) in rw other refl

pub few_fields : (v : Version) → step_fields v ≤ 5
few_fields One = omega arith
few_fields Two = omega arith

bad_step : (v : Version) (t : Recorded) (fields : List (List ℕ)) → MAX_FIELDS < length fields
    → step_stage v t fields ≡ Err (BadFields (length t.steps + 1))
bad_step v t fields long = let other : (length fields == step_fields v) ≡ false =
    apart (step_fields v) (length fields) (omega (arith, long, few_fields v)) in rw other refl

bad_record : (v : Version) (t : Recorded) (fields : List (List ℕ)) → MAX_FIELDS < length fields
    → next_stage (Recording v t) fields ≡ Err (BadFields (length t.steps + 1))
bad_record v t fields long = both (bytes_eq (field_of fields 0) (codes "end")) (end_stage v t fields)
    (step_stage v t fields) _ (bad_end v t fields long) (bad_step v t fields long)

pub longer : (front more : List (List ℕ)) → MAX_FIELDS < length front → MAX_FIELDS < length (front ++ more)
longer front more long = omega (arith, long, length-append front more)

pub refuses_long : RefusesLong next_stage
refuses_long Opening front long = (BadHeader, λ more. bad_header (front ++ more) (longer front more long))
refuses_long (Sized v n t) front long = (BadInit, λ more. bad_init v n t (front ++ more) (longer front more long))
refuses_long (Recording v t) front long =
    (BadFields (length t.steps + 1), λ more. bad_record v t (front ++ more) (longer front more long))
refuses_long (Ended t) front long = (AfterEnd, λ more. refl)
