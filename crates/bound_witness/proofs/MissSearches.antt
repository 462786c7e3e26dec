-- The miss of one length that a search has found so far, and the named miss at its end.
use Rattle.std.proofs.Common.{ℕ, ◌≡◌, ◌≢◌, ◌+◌, ◌-◌, ◌<◌, ◌≤◌, inl, inr, length, Option, Some, None, refl, arith, subst}
use Rattle.std.proofs.lemmas.Bool.{cases_eq, cases_lt}
use Rattle.std.specs.Prelude.{MatchOption}
use Rattle.bound_witness.proofs.Common.{Miss, Recorded, tick_of, IsTimed, IsDelta, IsMiss, IsNamedMiss, NamesMiss}
use Rattle.bound_witness.proofs.Common.{step_at_within, ticks_rise, Miss-same, MissRefutes-sound, IsMissOf, HasNoMissOf}
use Rattle.bound_witness.proofs.Common.{SentHasNoMissOf, IsMissOfSent}
use Rattle.step_trace.proofs.BoundDecisions.{DeltaHolds-unrefuted}

-- no message of number s or a greater one has such a miss
pub record NoMissFrom (set : ℕ) (trace : Recorded) (g span s : ℕ) : Type 0 where
  pub none : (o : Miss) → IsMissOf set trace g span o → s ≤ o.sent → ⊥

-- before these messages, a miss of message k is the named one: ticks don't fall, so the greatest number of a Send is in
-- the greatest tick
pub IsNamedMiss-found : (set : ℕ) (trace : Recorded) (g span k s : ℕ) (m : Miss) → IsTimed trace → s ≤ k + 1
    → IsMissOfSent set trace g span k m → NoMissFrom set trace g span s → IsNamedMiss set trace g (span + 1) m
IsNamedMiss-found set trace g span k s m time next found b =
    let f = found.miss.from in record {
      miss = found.miss.miss;
      from = found.miss.from;
      long = omega (arith, found.miss.long);
      latest = λ o i l e. ticks_rise trace time o.sent m.sent _ _ i.message.sent found.miss.miss.message.sent
          (below o i l e);
      greatest = λ o i q e. below o i (omega (arith, found.miss.long)) e;
    } where
      below : (o : Miss) → IsMiss set trace o → g ≤ tick_of trace o.sent
          → tick_of trace o.sent + (span + 1) ≡ tick_of trace o.missed + 1 → o.sent ≤ m.sent
      below o i l e = elim (cases_lt m.sent o.sent) [
        | inl above ↦ absurd (let at = found.sent in b.none o (record { miss = i; from = l; long = omega arith }) (omega arith))
        | inr low ↦ low
      ]

-- the receives before number `until` end no miss of message s of this length
pub record NoMissUntil (set : ℕ) (trace : Recorded) (span s until : ℕ) : Type 0 where
  pub none : (r : ℕ) → r < until → IsMiss set trace (record { sent = s; missed = r })
      → tick_of trace s + span ≡ tick_of trace r → ⊥

-- if the step `until` ends no such miss, none is ended before the next number
pub NoMissUntil-pass : (set : ℕ) (trace : Recorded) (span s until : ℕ)
    → (IsMiss set trace (record { sent = s; missed = until }) → tick_of trace s + span ≡ tick_of trace until → ⊥)
    → NoMissUntil set trace span s until → NoMissUntil set trace span s (until + 1)
NoMissUntil-pass set trace span s until n b = record {
  none = λ r l i e. elim (cases_eq r until) [
    | inl q ↦ n (subst (λ k. IsMiss set trace (record { sent = s; missed = k })) q i)
        (subst (λ k. tick_of trace s + span ≡ tick_of trace k) q e)
    | inr q ↦ b.none r (omega arith) i e
  ];
}

-- a search over all receives shows that the message has no such miss
pub NoMissUntil-end : (set : ℕ) (trace : Recorded) (g span s until : ℕ) → length trace.steps < until
    → NoMissUntil set trace span s until → SentHasNoMissOf set trace g span s
NoMissUntil-end set trace g span s until u b = record {
  none = λ m q i.
      let same = Miss-same m (record { sent = s; missed = m.missed }) q refl in
      let w = step_at_within trace.steps m.missed _ i.miss.receive.step in
      b.none m.missed (omega arith) (subst (λ (o : Miss). IsMiss set trace o) same i.miss)
      (subst (λ k. tick_of trace k + span ≡ tick_of trace m.missed) q i.long);
}

-- for a least bound above 1 there is a witness one tick shorter
pub NamesMiss-found : (set : ℕ) (trace : Recorded) (g d : ℕ) (found : Option Miss) → IsDelta set trace g d → d ≢ 1
    → MatchOption found (HasNoMissOf set trace g (d - 1)) (IsNamedMiss set trace g (d - 1 + 1))
    → NamesMiss set trace g d found
NamesMiss-found set trace g d None h k n =
    let p = h.positive in
    let e : d ≤ d - 1 = h.least (d - 1) (omega arith) (DeltaHolds-unrefuted set trace g
    (d - 1) (omega arith) (λ m r. elim (cases_eq (tick_of trace m.sent + (d - 1)) (tick_of trace m.missed)) [
      | inl q ↦ n.none m (record { miss = r.miss; from = r.from; long = q })
      | inr q ↦ (let l = r.long in MissRefutes-sound set trace g d m (record { miss = r.miss; from = r.from; long = omega arith }) h.holds)
    ])) in
    absurd (omega arith)
NamesMiss-found set trace g d (Some m) h k n =
    (omega (arith, h.positive), subst (λ e. IsNamedMiss set trace g e m) (omega (arith, h.positive)) n)
