-- The interval between the ticks of two steps of a processor is a longest gap, if it isn't empty.
use Rattle.std.proofs.Common.{ℕ, ◌≡◌, ◌+◌, ◌-◌, ◌<◌, ◌≤◌, inl, inr, IsTrue, refl, sym, arith, subst}
use Rattle.std.proofs.lemmas.Bool.{cases_lt}
use Rattle.bound_witness.proofs.Common.{Gap, has_proc, Recorded, IsStepOf, tick_of, StepsIn, IsGap, IsLongestGap, Gap-same}

-- no gap of p has tick x in it
pub record IsEdge (set : ℕ) (trace : Recorded) (p x : ℕ) : Type 0 where
  pub apart : (o : Gap) → IsGap set trace o → o.proc ≡ p → o.from ≤ x → x ≤ o.to → ⊥

-- no gap has a tick past the last in it
pub IsEdge-end : (set : ℕ) (trace : Recorded) (p x : ℕ) → trace.last < x → IsEdge set trace p x
IsEdge-end set trace p x l = record { apart = λ o i q a b. absurd (let s = i.inside in omega arith) }

-- no gap has the tick of a step of its processor in it
pub IsEdge-step : (set : ℕ) (trace : Recorded) (p k : ℕ) → IsStepOf trace.steps k p → IsEdge set trace p (tick_of trace k)
IsEdge-step set trace p k s = record {
  apart = λ o i q a b. i.silent (tick_of trace k) a b
      (subst (λ n. StepsIn trace (tick_of trace k) n) (sym q) (record { place = k; step = s; tick = refl }));
}

-- the interval between two edges with no step between them, if it isn't empty
pub record SilentBetween (set : ℕ) (trace : Recorded) (p last next : ℕ) : Type 0 where
  pub member : IsTrue (has_proc set p)
  pub begin : IsEdge set trace p last
  pub finish : IsEdge set trace p next
  pub inside : next ≤ trace.last + 1
  pub silent : (z : ℕ) → last < z → z < next → StepsIn trace z p → ⊥

-- the interval between two edges
abbrev pub between : ℕ → ℕ → ℕ → Gap
between p last next = record { proc = p; from = last + 1; to = next - 1 }

-- the interval between two edges is a gap, if it isn't empty
between-IsGap : (set : ℕ) (trace : Recorded) (p last next : ℕ)
    → last + 1 < next → SilentBetween set trace p last next → IsGap set trace (between p last next)
between-IsGap set trace p last next l s = let i = s.inside in record {
  member = s.member;
  start = omega arith;
  order = omega arith;
  inside = omega arith;
  silent = λ z a b. s.silent z (omega arith) (omega arith);
}

-- and it is a longest one, since no gap goes past an edge
pub between-IsLongestGap : (set : ℕ) (trace : Recorded) (p last next : ℕ)
    → last + 1 < next → SilentBetween set trace p last next → IsLongestGap set trace (between p last next)
between-IsLongestGap set trace p last next l s = record {
  gap = between-IsGap set trace p last next l s;
  longest = λ o i q a b.
      let from : last < o.from = elim (cases_lt last o.from) [ inl k ↦ k | inr k ↦ absurd (s.begin.apart o i q k (omega arith)) ] in
      let to : o.to < next = elim (cases_lt o.to next) [ inl k ↦ k | inr k ↦ absurd (s.finish.apart o i q (omega arith) k) ] in
      Gap-same o (between p last next) q (omega arith) (omega arith);
}

-- a longest gap that begins between the two edges is the interval between them
pub same_between : (set : ℕ) (trace : Recorded) (p last next : ℕ) (w : Gap) → SilentBetween set trace p last next
    → IsLongestGap set trace w → w.proc ≡ p → last < w.from → w.from ≤ next
    → (last + 1 < next) × (between p last next ≡ w)
same_between set trace p last next w s g q a b =
    let order = g.gap.order in
    let to : w.to < next = elim (cases_lt w.to next) [ inl k ↦ k | inr k ↦ absurd (s.finish.apart w g.gap q b k) ] in
    let l : last + 1 < next = (elim (cases_lt (last + 1) next) [ inl k ↦ k | inr k ↦ absurd (omega arith) ]) in
    (l, g.longest (between p last next) (between-IsGap set trace p last next l s) (sym q) (omega arith) (omega arith))
