-- Between the ticks of two steps in a row, what is known by numbers is known by ticks.
use Rattle.std.proofs.Common.{ℕ, ◌≡◌, ◌+◌, ◌-◌, ◌<◌, ◌≤◌, ◌⊎◌, inl, inr, List, [], ◌∷◌, length, Option, Some, None, IsTrue, refl, suc, zero, arith}
use Rattle.std.proofs.lemmas.Bool.{cases_lt}
use Rattle.suffix_staircase.proofs.Common.{Step, Miss, has_proc, tick_of, IsTimed, Recorded, step_at, NamesMiss}
use Rattle.suffix_staircase.proofs.Common.{step_at_within, ticks_rise, KnowsMisses, NamesAfter, KnowsMissesAfter}
use Rattle.suffix_staircase.proofs.Common.{AreIdleUpTo, IsNextTick, AreNextTicks, IsNextStep, AreNextSteps}

-- the steps after number done are those in tick g or later
pub record IsBorder (trace : Recorded) (done g : ℕ) : Type 0 where
  pub end : g ≤ trace.last + 1
  pub above : (k : ℕ) (x : Step) → step_at trace.steps k ≡ Some x → done < k → g ≤ tick_of trace k
  pub below : (k : ℕ) (x : Step) → step_at trace.steps k ≡ Some x → g ≤ tick_of trace k → done < k

-- a number up to that of the last step is 0 or that of a step
pub step_or_zero : (steps : List Step) (k : ℕ) → k ≤ length steps → (k ≡ 0) ⊎ ((z : Step) × (step_at steps k ≡ Some z))
step_or_zero steps zero l = inl refl
step_or_zero steps (suc k) l = inr (found steps k (omega arith)) where
  found : (steps : List Step) (k : ℕ) → k < length steps → (z : Step) × (step_at steps (suc k) ≡ Some z)
  found [] k h = absurd (omega arith)
  found (x ∷ steps) zero h = (x, refl)
  found (x ∷ steps) (suc k) h = found steps k (let m : suc k < suc (length steps) = h in omega arith)

-- each tick after that of a step, up to the next step's, is a border
pub IsBorder-between : (t : Recorded) → IsTimed t → (done high g : ℕ)
    → done ≤ length t.steps → AreIdleUpTo t done high → tick_of t done < g → g ≤ high → IsBorder t done g
IsBorder-between t time done high g inside idle low within = record {
  end = let until = idle.until in omega arith;
  above = λ k x h l. (omega (arith, idle.later k x h l));
  below = λ k x h l. elim (cases_lt done k) [
    | inl e ↦ e
    | inr e ↦ elim (step_or_zero t.steps done inside) [
      | inl none ↦ absurd (omega (arith, step_at_within t.steps k x h, e, none))
      | inr z ↦ absurd (omega (arith, ticks_rise t time k done x z.0 h z.1 e, l))
    ]
  ];
}

-- after the last step there is none up to the last tick
pub AreIdleUpTo-last : (t : Recorded) → IsTimed t → AreIdleUpTo t (length t.steps) t.last
AreIdleUpTo-last t time = record {
  from = elim (step_or_zero t.steps (length t.steps) (omega arith)) [
    | inl none ↦ rw none (omega arith)
    | inr z ↦ (time.inside (length t.steps) z.0 z.1).1
  ];
  until = omega arith;
  later = λ k x h l. absurd (omega (arith, step_at_within t.steps k x h, l));
}

-- between the ticks of two steps in a row there is none
pub AreIdleUpTo-step : (t : Recorded) → IsTimed t → (k : ℕ) → 1 ≤ k → k ≤ length t.steps → AreIdleUpTo t (k - 1) (tick_of t k)
AreIdleUpTo-step t time k low high = elim (step_or_zero t.steps k high) [
  | inl none ↦ absurd (omega (arith, none))
  | inr z ↦ record {
    from = elim (step_or_zero t.steps (k - 1) (omega arith)) [
      | inl none ↦ rw none (omega arith)
      | inr y ↦ ticks_rise t time (k - 1) k y.0 z.0 y.1 z.1 (omega arith)
    ];
    until = (time.inside k z.0 z.1).1;
    later = λ j x h l. ticks_rise t time k j z.0 x z.1 h (omega (arith, l));
  }
]

-- at a border the misses known after a step are those of the messages from the tick on
pub KnowsMisses-at_border : (set : ℕ) (t : Recorded)
    → IsTimed t → (done g d : ℕ) (o : Option Miss) → IsBorder t done g → KnowsMissesAfter set t done d o → KnowsMisses set t g d o
KnowsMisses-at_border set t time done g d o b k = record {
  shorter = λ m i f. k.shorter m i (b.below m.sent _ i.message.sent f);
  named = go o k.named;
} where
  go : (o : Option Miss) → NamesAfter set t done d o → NamesMiss set t g d o
  go None h = h
  go (Some m) h = let named = h.1 in let i = named.miss in (
    h.0,
    record {
      miss = i;
      from = b.above m.sent _ i.message.sent named.after;
      long = named.long;
      latest = λ n j f e. ticks_rise t time n.sent m.sent _ _ j.message.sent i.message.sent
          (named.greatest n j (b.below n.sent _ j.message.sent f) e);
      greatest = λ n j e l. (let from = b.above m.sent _ i.message.sent named.after in
          named.greatest n j (b.below n.sent _ j.message.sent (omega (arith, from, e))) l);
    },
  )

-- the next step after number done is the next one from the tick on
IsNextStep-at_border : (t : Recorded) (p done g next : ℕ) → IsBorder t done g → IsNextTick t p done next → IsNextStep t p g next
IsNextStep-at_border t p done g next b n = record {
  from = elim (cases_lt t.last next) [
    | inl l ↦ omega (arith, l, b.end)
    | inr l ↦ (let s = n.step l in let a = b.above s.0 _ s.2.1 s.1 in omega (arith, a, s.3))
  ];
  until = n.until;
  silent = λ x f u s. (let low = n.first s.place (b.below s.place _ s.step.1 (omega (arith, s.tick, f))) s.step in
      omega (arith, low, s.tick, u));
  step = λ l. (let s = n.step l in record { place = s.0; step = s.2; tick = s.3 });
}

-- so for all members
pub AreNextSteps-at_border : (set : ℕ) (t : Recorded) (done g : ℕ) (next : List ℕ)
    → IsBorder t done g → AreNextTicks (λ p. IsTrue (has_proc set p)) t done next → AreNextSteps set t g next
AreNextSteps-at_border set t done g next b k = record {
  long = k.long;
  zero = k.zero;
  each = λ p low high member. IsNextStep-at_border t p done g _ b (k.each p low high member);
}
