-- The version in which a trace is written: the first exactly if there is one step in each tick.
use Rattle.std.proofs.Common.{ℕ, zero, suc, ◌≡◌, ◌+◌, ◌<◌, ◌≤◌, ◌==◌, List, [], ◌∷◌, length, Bool, true, false, refl, arith, eq-eqb}
use Rattle.std.specs.Prelude.{◌↔◌, IsTrue, slice_index_or, if◌then◌else◌}
use Rattle.std.proofs.lemmas.Bool.{eqb-true, and_parts}
use Rattle.step_trace.specs.Traces.{Recorded}
use Rattle.step_trace.specs.Ticks.{tick_of, IsTimed, IsOnePerTick}
use Rattle.trace_text.specs.declared.versions.Version.TheVariants.{One, Two}
use Rattle.trace_text.specs.TraceTexts.{HasTextsOf, counts_from, is_one_per_tick, version_of}

counts-values : (at : ℕ) (ts : List ℕ) → counts_from at ts ≡ true → (i : ℕ) → i < length ts → slice_index_or ts i 0 ≡ at + i
counts-values at [] h i l = absurd (omega (arith, l))
counts-values at (t ∷ ts) h zero l = let p = and_parts (t == at) (counts_from (at + 1) ts) h in
    let e = eqb-true t at p.0 in omega (arith, e)
counts-values at (t ∷ ts) h (suc i) l =
    let p = and_parts (t == at) (counts_from (at + 1) ts) h in
    let more = counts-values (at + 1) ts p.1 i (let m : suc i < suc (length ts) = l in omega (arith, m)) in
    omega (arith, more)

values-count : (at : ℕ) (ts : List ℕ) → ((i : ℕ) → i < length ts → slice_index_or ts i 0 ≡ at + i) → counts_from at ts ≡ true
values-count at [] h = refl
values-count at (t ∷ ts) h =
    let first : t ≡ at = (let e = h zero (let l : 0 < suc (length ts) = omega arith in l) in omega (arith, e)) in
    let more = values-count (at + 1) ts (λ i l. let e = h (suc i) (let m : suc i < suc (length ts) = omega (arith, l) in m) in
    omega (arith, e)) in
    rw (eq-eqb t at first, more) refl

pub IsOnePerTick-from_test : (t : Recorded) → IsTimed t → is_one_per_tick t ≡ true → IsOnePerTick t
unfolding is_one_per_tick
IsOnePerTick-from_test t time h =
    let p = and_parts (t.last == length t.steps) (counts_from 1 t.ticks) h in
    record { end = eqb-true t.last (length t.steps) p.0; each = λ k l. each k l p.1 } where
      each : (k : ℕ) → k ≤ length t.steps → counts_from 1 t.ticks ≡ true → tick_of t k ≡ k
      each zero l h = refl
      each (suc k) l h = let long = time.each in let e = counts-values 1 t.ticks h k (omega (arith, l, long)) in omega (arith, e)

pub test-from_IsOnePerTick : (t : Recorded) → IsTimed t → IsOnePerTick t → is_one_per_tick t ≡ true
unfolding is_one_per_tick
test-from_IsOnePerTick t time one =
    let count = values-count 1 t.ticks (λ i l. let long = time.each in
    let e = one.each (suc i) (omega (arith, l, long)) in let f : slice_index_or t.ticks i 0 ≡ suc i = e in omega (arith, f)) in
    rw (eq-eqb t.last (length t.steps) one.end, count) refl

-- a trace with a step out of its turn, or an end elsewhere
pub test-otherwise : (t : Recorded) → IsTimed t → (IsOnePerTick t → ⊥) → is_one_per_tick t ≡ false
test-otherwise t time other = go (is_one_per_tick t) refl where
  go : (b : Bool) → is_one_per_tick t ≡ b → is_one_per_tick t ≡ false
  go true e = absurd (other (IsOnePerTick-from_test t time e))
  go false e = e

-- the version has texts of the trace
pub HasTextsOf-version_of : (t : Recorded) → IsTimed t → HasTextsOf (version_of t) t
HasTextsOf-version_of t time = go (is_one_per_tick t) refl where
  go : (b : Bool) → is_one_per_tick t ≡ b → HasTextsOf (if b then One else Two) t
  go true e = IsOnePerTick-from_test t time e
  go false e = tt

-- so each version is the answer if it is due
pub one-where_numbered : (t : Recorded) → IsTimed t → IsOnePerTick t → One ≡ version_of t
one-where_numbered t time one = rw (test-from_IsOnePerTick t time one) refl

pub two-otherwise : (t : Recorded) → IsTimed t → (IsOnePerTick t → ⊥) → Two ≡ version_of t
two-otherwise t time other = rw (test-otherwise t time other) refl

pub tests-IsOnePerTick : (t : Recorded) → IsTimed t → IsTrue (is_one_per_tick t) ↔ IsOnePerTick t
tests-IsOnePerTick t time = (λ h. IsOnePerTick-from_test t time h, λ one. test-from_IsOnePerTick t time one)
