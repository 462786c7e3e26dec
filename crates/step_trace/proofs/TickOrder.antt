-- The order of the steps of a trace: by their numbers, by their ticks, and within a tick by processors.
use Rattle.std.proofs.Common.{ℕ, ◌≡◌, ◌<◌, ◌≤◌, inl, inr, Some, sym, ap, arith}
use Rattle.std.proofs.lemmas.Bool.{cases_eq, cases_lt}
use Rattle.step_trace.specs.declared.steps.Step.{Step}
use Rattle.step_trace.specs.Traces.{Recorded, step_at}
use Rattle.step_trace.specs.Ticks.{tick_of, ComesBefore, IsTimed}

-- what comes before isn't in a later tick
not_after : (trace : Recorded) (j k : ℕ) (a b : Step) → ComesBefore trace j a k b → tick_of trace j ≤ tick_of trace k
not_after trace j k a b (inl l) = omega arith
not_after trace j k a b (inr e) = let same = e.0 in omega (arith, same)

-- ticks don't fall
pub ticks_rise : (trace : Recorded) → IsTimed trace
    → (j k : ℕ) (a b : Step) → step_at trace.steps j ≡ Some a → step_at trace.steps k ≡ Some b → j ≤ k → tick_of trace j ≤ tick_of trace k
ticks_rise trace time j k a b p q l = elim (cases_eq j k) [
  | inl e ↦ (let same = ap (tick_of trace) e in omega (arith, same))
  | inr n ↦ not_after trace j k a b (time.order j k a b (omega (arith, n, l)) p q)
]

-- an earlier tick is an earlier number
pub number_below : (trace : Recorded) → IsTimed trace
    → (j k : ℕ) (a b : Step) → step_at trace.steps j ≡ Some a → step_at trace.steps k ≡ Some b → tick_of trace j < tick_of trace k → j < k
number_below trace time j k a b p q l = elim (cases_lt j k) [
  | inl e ↦ e
  | inr n ↦ absurd (let r = ticks_rise trace time k j b a q p n in omega (arith, r, l))
]

-- of two steps of one processor the later one is in a later tick
pub own_ticks_rise : (trace : Recorded) → IsTimed trace → (j k : ℕ) (a b : Step)
    → step_at trace.steps j ≡ Some a → step_at trace.steps k ≡ Some b → a.proc ≡ b.proc → j < k → tick_of trace j < tick_of trace k
own_ticks_rise trace time j k a b p q e l = elim (time.order j k a b l p q)
    [ inl x ↦ x | inr y ↦ absurd (let z = y.1 in omega (arith, z, e)) ]

-- one step of a processor in a tick
pub one_in_tick : (trace : Recorded) → IsTimed trace → (j k : ℕ) (a b : Step)
    → step_at trace.steps j ≡ Some a → step_at trace.steps k ≡ Some b → a.proc ≡ b.proc → tick_of trace j ≡ tick_of trace k → j ≡ k
one_in_tick trace time j k a b p q e same = elim (cases_lt j k) [
  | inl l ↦ absurd (let x = own_ticks_rise trace time j k a b p q e l in omega (arith, x, same))
  | inr m ↦ elim (cases_lt k j) [
    | inl l ↦ absurd (let x = own_ticks_rise trace time k j b a q p (sym e) l in omega (arith, x, same))
    | inr n ↦ omega (arith, m, n)
  ]
]
