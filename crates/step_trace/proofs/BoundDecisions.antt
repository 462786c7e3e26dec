-- Deliveries and steps can be decided, so a bound holds if no witness refutes it.
use Rattle.std.proofs.Common.{ℕ, ◌≡◌, ◌+◌, ◌-◌, ◌<◌, ◌≤◌, ◌⊎◌, inl, inr, List, length, Option, Some, None, Bool, true, false, refl, ap, sym, ◌∙◌, subst, suc, zero, arith}
use Rattle.std.proofs.lemmas.Bool.{cases_lt, cases_eq}
use Rattle.std.proofs.lemmas.Option.{none-some, same_Some}
use Rattle.step_trace.specs.declared.steps.Step.{Step}
use Rattle.step_trace.specs.declared.rows.Miss.{Miss}
use Rattle.step_trace.specs.declared.rows.Gap.{Gap}
use Rattle.step_trace.specs.Steps.{act_takes}
use Rattle.step_trace.specs.Traces.{Recorded, step_at, TakesAt, IsStepOf}
use Rattle.step_trace.specs.Ticks.{tick_of, StepsIn}
use Rattle.step_trace.specs.Bounds.{IsDelivered, DeltaHolds, StepsWithin, PhiHolds}
use Rattle.step_trace.specs.Witnesses.{MissRefutes, GapRefutes}
use Rattle.step_trace.proofs.StepPositions.{Contains-from_takes, act_takes-from_Contains, step_at_within}

-- step k takes message s, or it doesn't
pub takes_or_not : (steps : List Step) (k s : ℕ) → TakesAt steps k s ⊎ (¬ TakesAt steps k s)
takes_or_not steps k s = at (step_at steps k) refl where
  at : (o : Option Step) → step_at steps k ≡ o → TakesAt steps k s ⊎ (¬ TakesAt steps k s)
  at None e = inr (λ t. none-some t.0 (sym e ∙ t.1))
  at (Some x) e = by (act_takes x.act s) refl where
    by : (b : Bool) → act_takes x.act s ≡ b → TakesAt steps k s ⊎ (¬ TakesAt steps k s)
    by true h = inl (x, e, Contains-from_takes x.act s h)
    by false h = inr (λ t. let y = act_takes-from_Contains t.0.act s t.2 in let q : t.0 ≡ x = same_Some t.0 x (sym t.1 ∙ e) in cc)

-- step k is one of p, or it isn't
pub step_or_not : (steps : List Step) (k p : ℕ) → IsStepOf steps k p ⊎ (¬ IsStepOf steps k p)
step_or_not steps k p = at (step_at steps k) refl where
  at : (o : Option Step) → step_at steps k ≡ o → IsStepOf steps k p ⊎ (¬ IsStepOf steps k p)
  at None e = inr (λ t. none-some _ (sym e ∙ t.1))
  at (Some x) e = elim (cases_eq x.proc p) [
    | inl h ↦ inl (x.act, e ∙ ap (λ (q : ℕ). let z : Step = record { proc = q; act = x.act } in Some z) h)
    | inr h ↦ inr (λ t. h (ap (λ (z : Step). z.proc) (same_Some x _ (sym e ∙ t.1))))
  ]

-- of two things that can be decided both are so, or not both
both : (A B : Type 0) → A ⊎ (¬ A) → B ⊎ (¬ B) → (A × B) ⊎ (¬ (A × B))
both A B (inl a) (inl b) = inl (a, b)
both A B (inl a) (inr n) = inr (λ h. n h.1)
both A B (inr n) b = inr (λ h. n h.0)

pub below : (a b : ℕ) → (a < b) ⊎ (¬ (a < b))
below a b = elim (cases_lt a b) [ inl l ↦ inl l | inr l ↦ inr (λ m. absurd (omega arith)) ]

-- some number up to n passes, or none
any_upto : (P : ℕ → Type 0) → ((k : ℕ) → P k ⊎ (¬ P k)) → (n : ℕ) → ((k : ℕ) × P k) ⊎ ((k : ℕ) → k ≤ n → ¬ P k)
any_upto P decide zero = elim (decide 0) [ inl h ↦ inl (0, h) | inr q ↦ inr (λ k l p. (let e : k ≡ 0 = omega arith in q (subst P e p))) ]
any_upto P decide (suc n) = elim (any_upto P decide n) [
  | inl h ↦ inl h
  | inr q ↦ elim (decide (suc n)) [
    | inl h ↦ inl (suc n, h)
    | inr r ↦ inr (λ k l p. elim (cases_eq k (suc n)) [ inl e ↦ r (subst P e p) | inr d ↦ q k (omega (arith, d, l)) p ])
  ]
]

-- message s is delivered by the moment y, or it isn't
pub delivered_or_not : (trace : Recorded) (s y : ℕ) → IsDelivered trace s y ⊎ (¬ IsDelivered trace s y)
delivered_or_not trace s y = elim (any_upto (λ k. (tick_of trace s < tick_of trace k)
    × ((tick_of trace k < y + 1) × TakesAt trace.steps k s)) (λ k. both _ _ (below (tick_of trace s) (tick_of trace k))
    (both _ _ (below (tick_of trace k) (y + 1)) (takes_or_not trace.steps k s))) (length trace.steps)) [
      | inl h ↦ inl (let z = h.1 in let v = z.1 in
          let u = v.0 in record { place = h.0; after = z.0; until = omega (arith, u); takes = v.1 })
      | inr q ↦ inr
          (λ d. (let u = d.until in q d.place (step_at_within trace.steps d.place _ d.takes.1).1 (d.after, (omega (arith, u), d.takes))))
    ]

-- a communication bound that no miss refutes holds
pub DeltaHolds-unrefuted : (set : ℕ) (trace : Recorded) (g d : ℕ)
    → 1 ≤ d → ((m : Miss) → ¬ MissRefutes set trace g d m) → DeltaHolds set trace g d
DeltaHolds-unrefuted set trace g d p n = record {
  each = λ s l. record {
    on_time = λ r b v e f. elim (delivered_or_not trace s (tick_of trace r)) [
      | inl h ↦ h
      | inr q ↦ absurd (n (record { sent = s; missed = r }) (record {
        miss = record { to = b; message = v; receive = e; late = omega arith; undelivered = q };
        from = l;
        long = f;
      }))
    ];
  };
}

-- p takes a step in tick x, or it doesn't
pub steps_in_or_not : (trace : Recorded) (x p : ℕ) → StepsIn trace x p ⊎ (¬ StepsIn trace x p)
steps_in_or_not trace x p = elim (any_upto (λ k. IsStepOf trace.steps k p × (tick_of trace k ≡ x))
    (λ k. both _ _ (step_or_not trace.steps k p) (cases_eq (tick_of trace k) x)) (length trace.steps)) [
      | inl h ↦ inl (let z = h.1 in record { place = h.0; step = z.0; tick = z.1 })
      | inr q ↦ inr (λ s. q s.place (step_at_within trace.steps s.place _ s.step.1).1 (s.step, s.tick))
    ]

-- p takes a step in one of the f ticks from x on, or in none
pub steps_within_or_not : (trace : Recorded) (p x f : ℕ) → StepsWithin trace p x f ⊎ (¬ StepsWithin trace p x f)
steps_within_or_not trace p x zero = inr (λ w. absurd (let a = w.from in let u = w.until in omega arith))
steps_within_or_not trace p x (suc f) = elim (steps_within_or_not trace p x f) [
  | inl w ↦ inl (let u = w.until in record { tick = w.tick; from = w.from; until = omega arith; step = w.step })
  | inr n ↦ elim (steps_in_or_not trace (x + f) p) [
    | inl s ↦ inl (record { tick = x + f; from = omega arith; until = omega arith; step = s })
    | inr q ↦ inr (λ w. last n q w (cases_eq w.tick (x + f)))
  ]
] where
  last : (¬ StepsWithin trace p x f) → (¬ StepsIn trace (x + f) p)
      → (w : StepsWithin trace p x (suc f)) → (w.tick ≡ x + f) ⊎ (w.tick ≡ x + f → ⊥) → ⊥
  last n q w (inl e) = q (subst (λ k. StepsIn trace k p) e w.step)
  last n q w (inr e) = n (let u = w.until in record { tick = w.tick; from = w.from; until = omega arith; step = w.step })

-- a processor bound that no gap refutes holds
pub PhiHolds-unrefuted : (set : ℕ) (trace : Recorded) (g f : ℕ)
    → 1 ≤ g → 1 ≤ f → ((w : Gap) → ¬ GapRefutes set trace g f w) → PhiHolds set trace g f
PhiHolds-unrefuted set trace g f o p n = record {
  each = λ x l k q m. elim (steps_within_or_not trace q x f) [
    | inl h ↦ h
    | inr r ↦ absurd (n (record { proc = q; from = x; to = x + f - 1 }) (record {
      gap = record {
        member = m;
        start = omega arith;
        order = omega arith;
        inside = omega arith;
        silent = λ z a b s. r (record { tick = z; from = a; until = omega arith; step = s });
      };
      from = l;
      long = omega arith;
    }))
  ];
}
