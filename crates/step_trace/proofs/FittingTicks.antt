-- Steps with which a trace stays well formed in a tick: no reason holds against them.
use Rattle.std.proofs.Common.{ℕ, ◌≡◌, ◌+◌, ◌<◌, ◌≤◌, ◌⊎◌, inl, inr, List, [], ◌∷◌, ◌++◌, length, Some, sym, ap, ◌∙◌, subst, suc, get_or, arith}
use Rattle.std.specs.Prelude.{Contains}
use Rattle.std.proofs.lemmas.Bool.{cases_eq}
use Rattle.std.proofs.lemmas.Option.{slice_get-get_or}
use Rattle.std.proofs.lemmas.Grind.{common_steps}
use Rattle.step_trace.specs.declared.traces.TheConstants.{MAX_TICKS}
use Rattle.step_trace.specs.declared.steps.Step.{Step}
use Rattle.step_trace.specs.Steps.{act_ids}
use Rattle.step_trace.specs.Traces.{Recorded, step_at, TakesAt, IsWellFormed}
use Rattle.step_trace.specs.Ticks.{tick_at, tick_of, ComesBefore, IsTimed, IsTrace, with_step, CanAppend}
use Rattle.step_trace.proofs.StepPositions.{step_at_within, step_at_last, step_at-push_old, step_at-push_cases}
use Rattle.step_trace.proofs.TickPositions.{tick_at-push_old, tick_at-push_last}
use Rattle.step_trace.proofs.FittingSteps.{Fits, Fits-from_well_formed}
use Rattle.step_trace.proofs.Growth.{IsWellFormed-push, TakesAt-push_cases}

-- what a step has with which a trace stays well formed in this tick
pub record FitsIn (trace : Recorded) (tick : ℕ) (x : Step) : Type 0 where
  pub fits : Fits trace.config trace.steps x
  pub forward : trace.last ≤ tick
  pub low : 1 ≤ tick
  pub high : tick ≤ MAX_TICKS
  pub order : (y : Step) → step_at trace.steps (length trace.steps) ≡ Some y
      → (tick_of trace (length trace.steps) < tick) ⊎ ((tick_of trace (length trace.steps) ≡ tick) × (y.proc < x.proc))
  pub later : (s : ℕ) → Contains (act_ids x.act) s → tick_of trace s < tick

-- if there is a step there is a last one
last_step : (steps : List Step) (j : ℕ) (a : Step) → step_at steps j ≡ Some a → (b : Step) × (step_at steps (length steps) ≡ Some b)
last_step [] j a at = absurd (let w = step_at_within [] j a at in omega arith)
last_step (y ∷ ys) j a at =
    (get_or (y ∷ ys) (length ys) y, slice_get-get_or (y ∷ ys) (length ys) y (let l : length ys < suc (length ys) = omega arith in l))

-- what comes before the last step comes before a step that fits
before_new : (trace : Recorded) (tick : ℕ) (x : Step) → IsTimed trace → FitsIn trace tick x
    → (j : ℕ) (a : Step) → step_at trace.steps j ≡ Some a → (tick_of trace j < tick) ⊎ ((tick_of trace j ≡ tick) × (a.proc < x.proc))
before_new trace tick x time f j a at = elim (cases_eq j (length trace.steps)) [
  | inl e ↦ subst (λ k. (tick_of trace k < tick) ⊎ ((tick_of trace k ≡ tick) × (a.proc < x.proc)))
      (sym e) (f.order a (subst (λ k. step_at trace.steps k ≡ Some a) e at))
  | inr n ↦ (let last = last_step trace.steps j a at in let w = step_at_within trace.steps j a at in
      through last.0 (f.order last.0 last.1) (time.order j (length trace.steps) a last.0 (omega (arith, n, w.1)) at last.1))
] where
  through : (b : Step) → (tick_of trace (length trace.steps) < tick) ⊎ ((tick_of trace (length trace.steps) ≡ tick) × (b.proc < x.proc))
      → ComesBefore trace j a (length trace.steps) b → (tick_of trace j < tick) ⊎ ((tick_of trace j ≡ tick) × (a.proc < x.proc))
  through b (inl l) (inl m) = inl (omega arith)
  through b (inl l) (inr e) = inl (let q = e.0 in omega (arith, q, l))
  through b (inr o) (inl m) = inl (let q = o.0 in omega (arith, q, m))
  through b (inr o) (inr e) = inr (e.0 ∙ o.0, let q = o.1 in let r = e.1 in omega (arith, q, r))

-- a trace stays in time with a step that fits
IsTimed-push : (trace : Recorded) (tick : ℕ) (x : Step)
    → IsWellFormed trace.config trace.steps → IsTimed trace → FitsIn trace tick x → IsTimed (with_step trace tick x)
IsTimed-push trace tick x sound time f = record {
  each = let e = time.each in grind (arith, common_steps);
  end = f.high;
  inside = λ k y h. elim (step_at-push_cases trace.steps x y k h) [
    | inl e ↦ (let w = time.inside k y e in let same = old k y e in
        let up = f.forward in (omega (arith, w.0, same), omega (arith, w.1, same, up)))
    | inr e ↦ (let same = new k e.0 in let low = f.low in (omega (arith, same, low), omega (arith, same)))
  ];
  order = λ j k a b l p q. order j k a b l (step_at-push_cases trace.steps x a j p) (step_at-push_cases trace.steps x b k q);
  later = λ k s t. later k s (TakesAt-push_cases trace.steps x k s t);
} where
  old : (k : ℕ) (y : Step) → step_at trace.steps k ≡ Some y → tick_of (with_step trace tick x) k ≡ tick_of trace k
  old k y e = let w = step_at_within trace.steps k y e in
      let long = time.each in tick_at-push_old trace.ticks tick k (omega (arith, w.1, long))

  new : (k : ℕ) → k ≡ length trace.steps + 1 → tick_of (with_step trace tick x) k ≡ tick
  new k e = let long = time.each in subst (λ n. tick_at (trace.ticks ++ tick ∷ []) n ≡ tick)
      (let q : suc (length trace.ticks) ≡ k = omega (arith, e, long) in q) (tick_at-push_last trace.ticks tick)

  sent : (s : ℕ) → s ≤ length trace.steps → tick_of (with_step trace tick x) s ≡ tick_of trace s
  sent s l = let long = time.each in tick_at-push_old trace.ticks tick s (omega (arith, l, long))

  order : (j k : ℕ) (a b : Step) → j < k → (step_at trace.steps j ≡ Some a) ⊎ ((j ≡ length trace.steps + 1) × (x ≡ a))
      → (step_at trace.steps k ≡ Some b) ⊎ ((k ≡ length trace.steps + 1) × (x ≡ b)) → ComesBefore (with_step trace tick x) j a k b
  order j k a b l (inl p) (inl q) = elim (time.order j k a b l p q) [
    | inl m ↦ inl (let u = old j a p in let v = old k b q in omega (arith, m, u, v))
    | inr m ↦ inr (old j a p ∙ m.0 ∙ sym (old k b q), m.1)
  ]
  order j k a b l (inl p) (inr q) = elim (before_new trace tick x time f j a p) [
    | inl m ↦ inl (let u = old j a p in let v = new k q.0 in omega (arith, m, u, v))
    | inr m ↦ inr (old j a p ∙ m.0 ∙ sym (new k q.0), let same = ap (λ (z : Step). z.proc) q.1 in let r = m.1 in omega (arith, same, r))
  ]
  order j k a b l (inr p) (inl q) = absurd (let w = step_at_within trace.steps k b q in let e = p.0 in omega (arith, w.1, e, l))
  order j k a b l (inr p) (inr q) = absurd (let d = p.0 in let e = q.0 in omega (arith, d, e, l))

  later : (k s : ℕ) → TakesAt trace.steps k s ⊎ ((k ≡ length trace.steps + 1) × Contains (act_ids x.act) s)
      → tick_of (with_step trace tick x) s < tick_of (with_step trace tick x) k
  later k s (inl t) =
      let m = time.later k s t in
      let u = old k t.0 t.1 in
      let v = sent s (let e = sound.earlier k s t.0 t.1 t.2 in let w = step_at_within trace.steps k t.0 t.1 in omega (arith, e.0, w.1)) in
      omega (arith, m, u, v)
  later k s (inr e) =
      let m = f.later s e.1 in
      let u = new k e.0 in
      let d = f.fits.sent s e.1 in
      let v = sent s (step_at_within trace.steps s _ d.1).1 in
      omega (arith, m, u, v)

-- a trace stays well formed with a step that fits
pub IsTrace-push : (trace : Recorded) (tick : ℕ) (x : Step) → IsTrace trace → FitsIn trace tick x → IsTrace (with_step trace tick x)
IsTrace-push trace tick x t f = record {
  steps = IsWellFormed-push trace.config trace.steps x t.steps f.fits;
  time = IsTimed-push trace tick x t.steps t.time f;
}

-- so such a step may be appended
pub CanAppend-from_fits : (trace : Recorded) (tick : ℕ) (x : Step) → IsTrace trace → FitsIn trace tick x → CanAppend trace tick x
CanAppend-from_fits trace tick x t f = record { forward = f.forward; sound = IsTrace-push trace tick x t f }

-- a step that may be appended fits
pub FitsIn-from_append : (trace : Recorded) (tick : ℕ) (x : Step) → IsTrace trace → CanAppend trace tick x → FitsIn trace tick x
FitsIn-from_append trace tick x t a =
    let last = step_at_last trace.steps x in
    let long = t.time.each in
    let time = a.sound.time in
    let inside = time.inside (suc (length trace.steps)) x last in
    record {
      fits = Fits-from_well_formed trace.config trace.steps x a.sound.steps;
      forward = a.forward;
      low = let w = inside.0 in omega (arith, w, new);
      high = let e = time.end in e;
      order = λ y at. order y at (time.order (length trace.steps)
          (suc (length trace.steps)) y x (omega arith) (step_at-push_old trace.steps x y (length trace.steps) at) last);
      later = λ s d. later s d (time.later (suc (length trace.steps)) s (x, last, d));
    } where
      new : tick_of (with_step trace tick x) (suc (length trace.steps)) ≡ tick
      new = subst (λ n. tick_at (trace.ticks ++ tick ∷ []) (suc n) ≡ tick) t.time.each (tick_at-push_last trace.ticks tick)

      old : (k : ℕ) → k ≤ length trace.steps → tick_of (with_step trace tick x) k ≡ tick_of trace k
      old k l = let long = t.time.each in tick_at-push_old trace.ticks tick k (omega (arith, l, long))

      order : (y : Step) → step_at trace.steps (length trace.steps) ≡ Some y
          → ComesBefore (with_step trace tick x) (length trace.steps) y (suc (length trace.steps)) x
          → (tick_of trace (length trace.steps) < tick) ⊎ ((tick_of trace (length trace.steps) ≡ tick) × (y.proc < x.proc))
      order y at (inl m) = inl (let u = old (length trace.steps) (omega arith) in let v = new in omega (arith, m, u, v))
      order y at (inr m) = inr (sym (old (length trace.steps) (omega arith)) ∙ m.0 ∙ new, m.1)

      later : (s : ℕ) → Contains (act_ids x.act) s
          → tick_of (with_step trace tick x) s < tick_of (with_step trace tick x) (suc (length trace.steps)) → tick_of trace s < tick
      later s d m =
          let sent = (Fits-from_well_formed trace.config trace.steps x a.sound.steps).sent s d in
          let u = old s (step_at_within trace.steps s _ sent.1).1 in
          let v = new in
          omega (arith, m, u, v)
