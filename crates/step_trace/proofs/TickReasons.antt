-- What a reason against a step in a tick says, and what a step has if none holds against it.
use Rattle.std.proofs.Common.{ℕ, ◌≡◌, ◌+◌, ◌<◌, ◌≤◌, ◌⊎◌, inl, inr, List, [], ◌∷◌, ◌++◌, length, Option, Some, None, Bool, true, false, not, refl, sym, ap, ◌∙◌, subst, suc, arith, eq-eqb}
use Rattle.std.specs.Prelude.{Contains, All, Result, Ok, Err, OnOk, nat_lt, nat_le, ◌&&◌, ◌==◌, cond}
use Rattle.std.specs.Option.{option_map_or}
use Rattle.std.proofs.lemmas.Bool.{cases_lt, cases_eq, and_parts}
use Rattle.std.proofs.lemmas.Grind.{common_steps}
use Rattle.std.proofs.lemmas.Bool.Decides.{nat_tests}
use Rattle.std.proofs.lemmas.List.Elements.{All-weaker, All-contains_itself}
use Rattle.std.proofs.lemmas.Option.{none-some}
use Rattle.step_trace.specs.declared.traces.TheConstants.{MAX_STEPS, MAX_TICKS}
use Rattle.step_trace.specs.declared.traces.PushError.{PushError}
use Rattle.step_trace.specs.declared.traces.PushError.TheVariants.{BadProc}
use Rattle.step_trace.specs.declared.steps.Act.TheVariants.{Receive}
use Rattle.step_trace.specs.declared.steps.Step.{Step}
use Rattle.step_trace.specs.Configurations.{is_proc}
use Rattle.step_trace.specs.Steps.{act_ids}
use Rattle.step_trace.specs.Traces.{Recorded, step_at}
use Rattle.step_trace.specs.Ticks.{tick_at, tick_of, IsTrace, IsOnePerTick, with_step, CanAppend}
use Rattle.step_trace.specs.PushRefusals.{is_taken, ids_refusal, refusal, act_refusal, IsRefusal}
use Rattle.step_trace.specs.TickRefusals.{may_end_in, comes_after_last, is_sent_in, refusal_in, next_refusal, IsJustifiedIn, NamesLeastIn}
use Rattle.step_trace.proofs.StepPositions.{step_at_within}
use Rattle.step_trace.proofs.TickPositions.{tick_at-push_old, tick_at-push_last, tick_of-limit}
use Rattle.step_trace.proofs.FittingSteps.{true_if, is_proc-true, act_refusal-none}
use Rattle.step_trace.proofs.Refusals.{cond_none, Fits-from_act}
use Rattle.step_trace.proofs.NamedReasons.{IsReason-or_memory, refusal_in-named}
use Rattle.step_trace.proofs.FittingTicks.{FitsIn, CanAppend-from_fits, FitsIn-from_append}

-- a step without a reason against it in a tick fits
pub FitsIn-from_none : (trace : Recorded) (tick : ℕ) (x : Step) → IsTrace trace → refusal_in trace tick x ≡ None → FitsIn trace tick x
FitsIn-from_none trace tick x t h =
    let r = cond_none (nat_lt (length trace.steps) MAX_STEPS) _ _ h in
    let w = cond_none (nat_lt 0 tick && may_end_in trace tick) _ _ r.1 in
    let p = cond_none (is_proc trace.config x.proc) _ _ w.1 in
    let o = cond_none (comes_after_last trace.steps trace.ticks tick x.proc) _ _ p.1 in
    let fits = Fits-from_act trace.config trace.steps (is_sent_in trace.ticks tick) x.proc x.act r.0 p.0 o.1 in
    let low = and_parts (nat_lt 0 tick) (may_end_in trace tick) w.0 in
    let high = and_parts (nat_le trace.last tick) (nat_le tick MAX_TICKS) low.1 in
    let forward : trace.last ≤ tick = let e = high.0 in grind (arith, nat_tests) in
    record {
      fits = fits.0;
      forward = forward;
      low = let e = low.0 in grind (arith, nat_tests);
      high = let e = high.1 in grind (arith, nat_tests);
      order = λ y at. order y at (let m = (t.time.inside (length trace.steps) y at).1 in omega (arith, m, forward))
          (subst
          (λ z. option_map_or (λ y. not (tick_at trace.ticks (length trace.steps) == tick && nat_le x.proc y.proc))
          z true ≡ true) at o.0);
      later = λ s d. later s d (let m = (t.time.inside s _ (fits.0.sent s d).1).1 in omega (arith, m, forward)) (fits.1 s d);
    } where
      order : (y : Step) → step_at trace.steps (length trace.steps) ≡ Some y → tick_of trace (length trace.steps) ≤ tick
          → not (tick_at trace.ticks (length trace.steps) == tick && nat_le x.proc y.proc) ≡ true
          → (tick_of trace (length trace.steps) < tick)
          ⊎ ((tick_of trace (length trace.steps) ≡ tick) × (y.proc < x.proc))
      order y at l h = elim (cases_eq (tick_of trace (length trace.steps)) tick) [
        | inl e ↦ inr (
          e,
          let same : (tick_at trace.ticks (length trace.steps) == tick) ≡ true = eq-eqb _ _ e in
              let below : not (nat_le x.proc y.proc) ≡ true = rw same at h in grind (arith, nat_tests),
        )
        | inr n ↦ inl (omega (arith, n, l))
      ]

      later : (s : ℕ) → Contains (act_ids x.act) s → tick_of trace s ≤ tick → is_sent_in trace.ticks tick s ≡ false → tick_of trace s < tick
      later s d l h = elim (cases_eq (tick_of trace s) tick) [
        | inl e ↦ absurd (let same : is_sent_in trace.ticks tick s ≡ true = eq-eqb _ _ e in let both = sym same ∙ h in cc)
        | inr n ↦ omega (arith, n, l)
      ]

-- so it may be appended
pub CanAppend-from_none : (trace : Recorded) (tick : ℕ) (x : Step) → IsTrace trace → refusal_in trace tick x ≡ None → CanAppend trace tick x
CanAppend-from_none trace tick x t h = CanAppend-from_fits trace tick x t (FitsIn-from_none trace tick x t h)

differs : (a b : ℕ) → a < b → (a == b) ≡ false
differs a b l = grind (arith, nat_tests)

-- no reason holds in a tick against a step that fits
pub none_from_FitsIn : (trace : Recorded) (tick : ℕ) (x : Step) → FitsIn trace tick x → refusal_in trace tick x ≡ None
none_from_FitsIn trace tick x f =
    let room = true_if (length trace.steps) MAX_STEPS f.fits.room in
    let proc = is_proc-true trace.config x.proc f.fits.proc in
    let low : nat_lt 0 tick ≡ true = let l = f.low in grind (arith, nat_tests) in
    let forward : nat_le trace.last tick ≡ true = let l = f.forward in grind (arith, nat_tests) in
    let high : nat_le tick MAX_TICKS ≡ true = let l = f.high in grind (arith, nat_tests) in
    let act = act_refusal-none trace.config trace.steps
    (is_sent_in trace.ticks tick) x.proc x.act f.fits (λ s d. differs (tick_of trace s) tick (f.later s d)) in
    rw (room, low, forward, high, proc, after (step_at trace.steps (length trace.steps)) f.order) act
  where
    after : (o : Option Step) → ((y : Step) → o ≡ Some y
        → (tick_of trace (length trace.steps) < tick) ⊎ ((tick_of trace (length trace.steps) ≡ tick) × (y.proc < x.proc)))
        → option_map_or (λ y. not (tick_at trace.ticks (length trace.steps) == tick && nat_le x.proc y.proc)) o true ≡ true
    after None h = refl
    after (Some y) h = elim (h y refl) [
      | inl l ↦ rw (differs (tick_of trace (length trace.steps)) tick l) refl
      | inr e ↦ (let same : (tick_at trace.ticks (length trace.steps) == tick) ≡ true = eq-eqb _ _ e.0 in
          let above : nat_le x.proc y.proc ≡ false = let l = e.1 in grind (arith, nat_tests) in rw (same, above) refl)
    ]

-- a reason that holds is the answer, names the least id of its kind, and holds only if the step may not be appended
pub record IsAnswered (trace : Recorded) (tick : ℕ) (x : Step) (e : PushError) : Type 0 where
  pub refused : IsRefusal e (refusal_in trace tick x)
  pub justified : IsJustifiedIn trace tick x e
  pub least : NamesLeastIn trace tick x e

pub IsAnswered-from_some : (trace : Recorded) (tick : ℕ) (x : Step) (e : PushError)
    → IsTrace trace → refusal_in trace tick x ≡ Some e → IsAnswered trace tick x e
IsAnswered-from_some trace tick x e t h =
    let named = refusal_in-named trace tick x e h in
    elim (IsReason-or_memory e) [
      | inl m ↦ absurd (named.reason m)
      | inr is ↦ record {
        refused = is.answer (refusal_in trace tick x) h;
        justified =
            is.justified trace tick x (λ a. none-some e (sym (none_from_FitsIn trace tick x (FitsIn-from_append trace tick x t a)) ∙ h));
        least = named.least;
      }
    ]

-- the refusal of a Receive, by any test that knows the taken messages
pub refusal_in_receive : (trace : Recorded) (tick : ℕ) (x : Step) (ids : List ℕ) (ends : Bool) (taken : ℕ → Bool)
    → length trace.steps < MAX_STEPS → 1 ≤ tick → trace.last ≤ tick → tick ≤ MAX_TICKS → is_proc trace.config x.proc ≡ true
    → comes_after_last trace.steps trace.ticks tick x.proc ≡ true → x.act ≡ Receive ends ids → ((s : ℕ) → taken s ≡ is_taken trace.steps s)
    → ids_refusal trace.steps (is_sent_in trace.ticks tick) taken x.proc ids ≡ refusal_in trace tick x
refusal_in_receive trace tick x ids ends taken l low forward high p o e h =
    let q : nat_lt (length trace.steps) MAX_STEPS ≡ true = grind (arith, nat_tests) in
    let a : nat_lt 0 tick ≡ true = grind (arith, nat_tests) in
    let b : nat_le trace.last tick ≡ true = grind (arith, nat_tests) in
    let d : nat_le tick MAX_TICKS ≡ true = grind (arith, nat_tests) in
    rw (q, a, b, d, p, o, e) (ap (λ (u : ℕ → Bool). ids_refusal trace.steps (is_sent_in trace.ticks tick) u x.proc ids) (λ i s. h s i))

-- the ids of a step that fits name messages
pub known_from_fits : (trace : Recorded) (tick : ℕ) (x : Step)
    → FitsIn trace tick x → All (λ s. (0 < s) × (s ≤ length trace.steps)) (act_ids x.act)
known_from_fits trace tick x f = All-weaker (Contains (act_ids x.act)) (λ s. (0 < s) × (s ≤ length trace.steps))
    (λ s d. step_at_within trace.steps s _ (f.fits.sent s d).1) (act_ids x.act) (All-contains_itself (act_ids x.act))

-- and so do those of a step that is not refused
pub known_from_none : (trace : Recorded) (tick : ℕ) (x : Step)
    → IsTrace trace → refusal_in trace tick x ≡ None → All (λ s. (0 < s) × (s ≤ length trace.steps)) (act_ids x.act)
known_from_none trace tick x t h = known_from_fits trace tick x (FitsIn-from_none trace tick x t h)

-- With one step in each tick, as many ticks have passed as there are steps, and each message was sent in an earlier
-- tick than the next.
sent_before : (trace : Recorded) → IsTrace trace → (s : ℕ) → is_sent_in trace.ticks (trace.last + 1) s ≡ false
sent_before trace t s = let l = tick_of-limit trace t.time s in differs (tick_of trace s) (trace.last + 1) (omega (arith, l))

-- So the reason against one more step in the next tick is the one by numbers.
pub next_refusal-by_number : (trace : Recorded) (x : Step)
    → IsTrace trace → IsOnePerTick trace → next_refusal trace x ≡ refusal trace.config trace.steps x
next_refusal-by_number trace x t one = go (nat_lt (length trace.steps) MAX_STEPS) refl where
  same : nat_lt trace.last MAX_TICKS ≡ nat_lt (length trace.steps) MAX_STEPS
  same = ap (λ n. nat_lt n MAX_TICKS) one.end

  after : (o : Option Step)
      → option_map_or (λ y. not (tick_at trace.ticks (length trace.steps) == trace.last + 1 && nat_le x.proc y.proc)) o true ≡ true
  after None = refl
  after (Some y) =
      let l = tick_of-limit trace t.time (length trace.steps) in
      rw (differs (tick_of trace (length trace.steps)) (trace.last + 1) (omega (arith, l))) refl

  go : (b : Bool) → nat_lt (length trace.steps) MAX_STEPS ≡ b → next_refusal trace x ≡ refusal trace.config trace.steps x
  go false e = rw (same, e) refl
  go true e =
      let below : length trace.steps < MAX_STEPS = grind (arith, nat_tests) in
      let end = one.end in
      let low : nat_lt 0 (trace.last + 1) ≡ true = grind (arith, nat_tests) in
      let forward : nat_le trace.last (trace.last + 1) ≡ true = grind (arith, nat_tests) in
      let high : nat_le (trace.last + 1) MAX_TICKS ≡ true = let l : trace.last + 1
      ≤ MAX_TICKS = (let m : length trace.steps < MAX_TICKS = below in omega (arith, m, end)) in grind (arith, nat_tests) in
      rw (same, e, low, forward, high, after (step_at trace.steps (length trace.steps)))
      (ap (λ (now : ℕ → Bool). cond (is_proc trace.config x.proc) (act_refusal trace.config trace.steps now x.proc x.act) (Some BadProc))
      (λ i s. sent_before trace t s i))

-- and there is one step in each tick again
pub IsOnePerTick-push : (trace : Recorded) (x : Step)
    → IsTrace trace → IsOnePerTick trace → IsOnePerTick (with_step trace (trace.last + 1) x)
IsOnePerTick-push trace x t one = record {
  end = let e = one.end in grind (arith, common_steps);
  each = λ k l. each k (cases_lt (length trace.steps) k) (let m : k ≤ length trace.steps + 1 = grind (arith, common_steps) in m);
} where
  each : (k : ℕ) → (length trace.steps < k) ⊎ (k ≤ length trace.steps)
      → k ≤ length trace.steps + 1 → tick_of (with_step trace (trace.last + 1) x) k ≡ k
  each k (inl l) m =
      let long = t.time.each in
      let end = one.end in
      let place : suc (length trace.ticks) ≡ k = omega (arith, long, l, m) in
      let value : trace.last + 1 ≡ k = omega (arith, end, l, m) in
      subst (λ n. tick_at (trace.ticks ++ (trace.last + 1) ∷ []) n ≡ k) place (tick_at-push_last trace.ticks (trace.last + 1) ∙ value)
  each k (inr l) m =
      let long = t.time.each in
      tick_at-push_old trace.ticks (trace.last + 1) k (omega (arith, long, l)) ∙ one.each k l

-- if the answer is Ok
pub IsOnePerTick-appended : {X E : Type 0} (trace : Recorded) (x : Step) → IsTrace trace → IsOnePerTick trace
    → (result : Result X E) (new : Recorded) → OnOk result (new ≡ with_step trace (trace.last + 1) x) → OnOk result (IsOnePerTick new)
IsOnePerTick-appended trace x t one (Ok v) new e = subst (λ (z : Recorded). IsOnePerTick z) (sym e) (IsOnePerTick-push trace x t one)
IsOnePerTick-appended trace x t one (Err v) new e = tt
