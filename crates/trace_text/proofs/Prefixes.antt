-- The first steps of a well-formed trace, with their ticks, are one, to which the next step may be appended.
use Rattle.std.proofs.Common.{ℕ, suc, ◌≡◌, ◌<◌, ◌≤◌, inl, inr, ◌∙◌, List, [], ◌∷◌, ◌++◌, length, Some, refl, sym, ap, subst, arith, length-append}
use Rattle.step_trace.specs.declared.steps.Step.{Step}
use Rattle.step_trace.specs.Configurations.{Setup}
use Rattle.step_trace.specs.Traces.{Recorded, step_at}
use Rattle.step_trace.specs.Ticks.{tick_at, ComesBefore, IsTimed, IsTrace, CanAppend, with_step}
use Rattle.step_trace.proofs.StepPositions.{step_at_within}
use Rattle.step_trace.proofs.TickOrder.{ticks_rise}
use Rattle.step_trace.proofs.TickPositions.{tick_at-push_old, tick_at-push_last, tick_of-limit, step_exists}
use Rattle.step_trace.proofs.StepPrefixes.{step_at-prefix_old, IsWellFormed-prefix, tick_kept, TakesAt-prefix}

-- the tick of the next step
pub place-value : (ts : List ℕ) (t : ℕ) (us : List ℕ) → t ≡ tick_at (ts ++ t ∷ us) (suc (length ts))
place-value [] t us = refl
place-value (u ∷ ts) t us = place-value ts t us

-- the trace of these steps in these ticks, which ends in the tick of the last
abbrev pub so_far : Setup → List Step → List ℕ → Recorded
so_far c steps ticks = record { config = c; steps = steps; ticks = ticks; last = tick_at ticks (length steps) }

last_step : (xs : List Step) (k : ℕ) → 0 < k → k ≤ length xs → (x : Step) × (step_at xs (length xs) ≡ Some x)
last_step [] k low high = absurd (omega (arith, low, high))
last_step (y ∷ ys) k low high = step_exists (y ∷ ys) (length ys) (let l : length ys < suc (length ys) = omega arith in l)

-- the first steps of a trace are in time
IsTimed-front : (c : Setup) (xs ys : List Step) (ts us : List ℕ) (last : ℕ) → length ts ≡ length xs
    → IsTrace (record { config = c; steps = xs ++ ys; ticks = ts ++ us; last = last }) → IsTimed (so_far c xs ts)
IsTimed-front c xs ys ts us last long w = record {
  each = long;
  end = let high = tick_of-limit whole w.time (length xs) in
      let end = w.time.end in let e = same (length xs) (omega arith) in omega (arith, high, end, e);
  inside = λ k x h.
      let m = w.time.inside k x (step_at-prefix_old xs ys k x h) in
      let within = step_at_within xs k x h in
      let at = last_step xs k within.0 within.1 in
      let e = same k within.1 in
      let f = same (length xs) (omega arith) in
      let up = ticks_rise whole w.time k (length xs) x at.0
      (step_at-prefix_old xs ys k x h) (step_at-prefix_old xs ys (length xs) at.0 at.1) within.1 in
      let low = m.0 in
      (omega (arith, low, e), omega (arith, up, e, f));
  order = λ j k a b l h g. order j k a b (same j (step_at_within xs j a h).1)
      (same k (step_at_within xs k b g).1) (w.time.order j k a b l (step_at-prefix_old xs ys j a h) (step_at-prefix_old xs ys k b g));
  later = λ k s t.
      let m = w.time.later k s (TakesAt-prefix xs ys k s t) in
      let here = (step_at_within xs k t.0 t.1).1 in
      let before = (w.steps.earlier k s t.0 (step_at-prefix_old xs ys k t.0 t.1) t.2).0 in
      let e = same k here in
      let f = same s (omega (arith, before, here)) in
      omega (arith, m, e, f);
} where
  whole : Recorded
  whole = record { config = c; steps = xs ++ ys; ticks = ts ++ us; last = last }

  same : (k : ℕ) → k ≤ length xs → tick_at (ts ++ us) k ≡ tick_at ts k
  same k l = tick_kept (ts ++ us) ts (record { more = us; whole = refl }) k (omega (arith, l, long))

  order : (j k : ℕ) (a b : Step) → tick_at (ts ++ us) j ≡ tick_at ts j
      → tick_at (ts ++ us) k ≡ tick_at ts k → ComesBefore whole j a k b → ComesBefore (so_far c xs ts) j a k b
  order j k a b e f (inl l) = inl (omega (arith, l, e, f))
  order j k a b e f (inr l) = inr (sym e ∙ l.0 ∙ f, l.1)

-- and are well formed
pub IsTrace-front : (c : Setup) (xs ys : List Step) (ts us : List ℕ) (last : ℕ) → length ts ≡ length xs
    → IsTrace (record { config = c; steps = xs ++ ys; ticks = ts ++ us; last = last }) → IsTrace (so_far c xs ts)
IsTrace-front c xs ys ts us last long w =
    record { steps = IsWellFormed-prefix c xs ys w.steps; time = IsTimed-front c xs ys ts us last long w }

-- the next step is appended to those before it
pub with_next : (c : Setup) (xs : List Step) (ts : List ℕ) (x : Step) (t : ℕ)
    → length ts ≡ length xs → with_step (so_far c xs ts) t x ≡ so_far c (xs ++ x ∷ []) (ts ++ t ∷ [])
with_next c xs ts x t long =
    let count = length-append xs (x ∷ []) in
    let place : suc (length ts) ≡ length (xs ++ x ∷ []) = omega (arith, count, long) in
    let last : t ≡ tick_at (ts ++ t ∷ []) (length (xs ++ x ∷ [])) =
    subst (λ n. t ≡ tick_at (ts ++ t ∷ []) n) place (sym (tick_at-push_last ts t)) in
    ap (λ n. record { config = c; steps = xs ++ x ∷ []; ticks = ts ++ t ∷ []; last = n }) last

-- and may be
pub CanAppend-next : (c : Setup) (xs : List Step) (ts : List ℕ) (x : Step) (t : ℕ)
    → length ts ≡ length xs → IsTrace (so_far c (xs ++ x ∷ []) (ts ++ t ∷ [])) → CanAppend (so_far c xs ts) t x
CanAppend-next c xs ts x t long w =
    let same = with_next c xs ts x t long in
    let sound : IsTrace (with_step (so_far c xs ts) t x) = subst (λ (z : Recorded). IsTrace z) (sym same) w in
    let limit = tick_of-limit (with_step (so_far c xs ts) t x) sound.time (length xs) in
    let old = tick_at-push_old ts t (length xs) (omega (arith, long)) in
    record { forward = omega (arith, limit, old); sound = sound }
