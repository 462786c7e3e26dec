-- The next step of a processor, by the place of a tick among those of its steps.
use Rattle.std.proofs.Common.{ℕ, ◌≡◌, ◌+◌, ◌<◌, ◌≤◌, inl, inr, true, false, length, get_or, ltb, ◌∙◌, arith}
use Rattle.std.specs.List.Sorted.{IsPartitionPoint}
use Rattle.std.proofs.lemmas.Bool.{cases_lt, ltb-true, ltb-false}
use Rattle.std.proofs.lemmas.List.{get_or_default}
use Rattle.certificate_checker.proofs.Common.{Recorded, IsTimed, StepsIn, Silence, IsNextStep, IsSilence}

-- the first i of these ticks are those below x
abbrev pub ArePassed : ℕ → ℕ → Silence → Type 0
ArePassed x i s = IsPartitionPoint (λ y. ltb y x ≡ true) (λ y. ltb y x ≡ false) s.ticks.items i

-- if p steps from x on, its place is i or later
later_place : (t : Recorded) (p x i y : ℕ) (s : Silence) → IsSilence t p s
    → ArePassed x i s → x ≤ y → StepsIn t y p → (k : ℕ) × (i ≤ k) × (k < length s.ticks.items) × (get_or s.ticks.items k 0 ≡ y)
later_place t p x i y s known passed late w =
    let c = known.each y w in (
      c.0,
      elim (cases_lt c.0 i) [
        | inl l ↦ absurd (let below = ltb-true _ _ (passed.0 c.0 y (omega arith) l) in let e = c.2 in omega (arith, below, e, late))
        | inr l ↦ l
      ],
      c.1,
      get_or_default s.ticks.items c.0 0 y c.1 ∙ c.2,
    )

-- the tick at i is the next one
pub IsNextStep-at : (t : Recorded) (p x i : ℕ) (s : Silence)
    → IsTimed t → IsSilence t p s → ArePassed x i s → i < length s.ticks.items → IsNextStep t p x (get_or s.ticks.items i 0)
IsNextStep-at t p x i s time known passed inside =
    let own = known.own i 0 inside in
    record {
      from = ltb-false _ _ (passed.1 i 0 (omega arith) inside);
      until = (let high = (time.inside own.place _ own.step.1).1 in let e = own.tick in omega (arith, high, e));
      silent = λ y a b w. (let l = later_place t p x i y s known passed a w in
          let low = known.rising i l.0 0 l.1 l.2 in let e = l.3 in omega (arith, low, e, b));
      step = λ _. own;
    }

-- or there is none
pub IsNextStep-none : (t : Recorded) (p x i : ℕ) (s : Silence)
    → IsSilence t p s → ArePassed x i s → length s.ticks.items ≤ i → x ≤ t.last → IsNextStep t p x (t.last + 1)
IsNextStep-none t p x i s known passed past high = record {
  from = omega (arith, high);
  until = omega arith;
  silent = λ y a b w. (let l = later_place t p x i y s known passed a w in
      let after = l.1 in let before = l.2 in omega (arith, after, before, past));
  step = λ l. absurd (omega (arith, l));
}
