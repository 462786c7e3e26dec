-- If no miss from a tick on is the longest there is none from there on, and only one is named so; likewise with gaps.
use Rattle.std.proofs.Common.{ℕ, ◌≡◌, ◌+◌, ◌-◌, ◌≤◌, inl, inr, length, refl, ap, sym, subst, suc, zero, arith}
use Rattle.std.proofs.lemmas.Bool.{cases_eq, cases_lt}
use Rattle.step_trace.specs.declared.processors.TheConstants.{MAX_MEMBER}
use Rattle.step_trace.proofs.ProcessorSets.{member_within}
use Rattle.certificate_checker.proofs.Common.{Miss, Gap, Recorded, tick_of, IsTimed, IsMessage, IsMiss, IsGap}
use Rattle.certificate_checker.proofs.Common.{step_at_within, one_in_tick, IsMessage-receiver, Miss-same, Gap-same}
use Rattle.certificate_checker.proofs.Common.{IsLongestMiss, IsLongestGap, span_of}

-- ranks are bounded: if nothing that passes has the greatest, nothing passes that is n below the bound
none_near : (X : Type 0) (Passes : X → Type 0) (rank : X → ℕ) (most : ℕ) → ((x : X) → Passes x → rank x ≤ most)
    → ((x : X) → Passes x → ((o : X) → Passes o → rank o ≤ rank x) → ⊥) → (n : ℕ) (x : X) → Passes x → most ≤ rank x + n → ⊥
none_near X Passes rank most bound none zero x p far = none x p (λ o q. let b = bound o q in omega (arith, b, far))
none_near X Passes rank most bound none (suc n) x p far = none x p (λ o q. elim (cases_lt (rank x) (rank o)) [
  | inl l ↦ absurd (none_near X Passes rank most bound none n o q (omega (arith, l, far)))
  | inr l ↦ l
])

-- so nothing passes
none_greatest : (X : Type 0) (Passes : X → Type 0) (rank : X → ℕ) (most : ℕ) → ((x : X) → Passes x → rank x ≤ most)
    → ((x : X) → Passes x → ((o : X) → Passes o → rank o ≤ rank x) → ⊥) → (x : X) → Passes x → ⊥
none_greatest X Passes rank most bound none x p = none_near X Passes rank most bound none most x p (omega arith)

-- What passes and is no worse than all that pass: first by length, then by where it begins, of which the greatest is
-- best; then by owner, of which the least is.
record Best (X : Type 0) (Passes : X → Type 0) (long from owner : X → ℕ) (x : X) : Type 0 where
  passes : Passes x
  longest : (o : X) → Passes o → long o ≤ long x
  greatest : (o : X) → Passes o → long o ≡ long x → from o ≤ from x
  least : (o : X) → Passes o → long o ≡ long x → from o ≡ from x → owner x ≤ owner o

-- if nothing is the best, nothing passes
none_best : (X : Type 0) (Passes : X → Type 0) (long from owner : X → ℕ) (most : ℕ)
    → ((x : X) → Passes x → (long x ≤ most) × (from x ≤ most) × (owner x ≤ most))
    → ((x : X) → ¬ Best X Passes long from owner x) → (x : X) → Passes x → ⊥
none_best X Passes long from owner most bound none = none_greatest X Passes long most (λ x p. (bound x p).0) (λ u p far.
    none_greatest X (λ o. Passes o × (long o ≡ long u)) from most (λ x q. (bound x q.0).1) (λ v q late.
    none_greatest X (λ o. Passes o × (long o ≡ long u) × (from o ≡ from v)) (λ o. most - owner o) most
    (λ x r. omega arith) (λ w r low.
    none w (record {
      passes = r.0;
      longest = λ o s. (let h = far o s in omega (arith, h, r.1));
      greatest = λ o s e. (let h = late o (s, omega (arith, e, r.1)) in omega (arith, h, r.2));
      least = λ o s e f. (let h = low o (s, omega (arith, e, r.1), omega (arith, f, r.2)) in
          let b = (bound o s).2 in
          let c = (bound w r.0).2 in
          omega (arith, h, b, c));
    })) v (q.0, q.1, refl)) u (p, refl))

-- the ticks of the steps are bounded
pub ticks_bound : (trace : Recorded) (n : ℕ) → (most : ℕ) × ((k : ℕ) → k ≤ n → tick_of trace k ≤ most)
ticks_bound trace zero = (
  tick_of trace 0,
  λ k l. (let e : k ≡ 0 = omega (arith, l) in let h = ap (tick_of trace) e in omega (arith, h)),
)
ticks_bound trace (suc n) = (
  (ticks_bound trace n).0 + tick_of trace (suc n),
  λ k l. elim (cases_eq k (suc n)) [
    | inl e ↦ (let h = ap (tick_of trace) e in omega (arith, h))
    | inr d ↦ (let h = (ticks_bound trace n).1 k (omega (arith, l, d)) in omega (arith, h))
  ],
)

-- misses of messages sent in g or later, and gaps that begin in g or later
abbrev IsMissFrom : ℕ → Recorded → ℕ → Miss → Type 0
IsMissFrom set trace g m = IsMiss set trace m × (g ≤ tick_of trace m.sent)

abbrev IsGapFrom : ℕ → Recorded → ℕ → Gap → Type 0
IsGapFrom set trace g w = IsGap set trace w × (g ≤ w.from)

-- if no miss is the longest from tick g on, there is none
pub no_miss : (set : ℕ) (trace : Recorded) (g : ℕ) → ((m : Miss) → ¬ IsLongestMiss set trace g m)
    → (m : Miss) → IsMiss set trace m → g ≤ tick_of trace m.sent → ⊥
no_miss set trace g none m i l = none_best Miss (IsMissFrom set trace g) (span_of trace) (λ o. o.sent) (λ o. 0)
    (ticks.0 + length trace.steps) bound longest m (i, l) where
      ticks : (most : ℕ) × ((k : ℕ) → k ≤ length trace.steps → tick_of trace k ≤ most)
      ticks = ticks_bound trace (length trace.steps)

      bound : (o : Miss) → IsMissFrom set trace g o → (span_of trace o ≤ ticks.0 + length trace.steps)
          × (o.sent ≤ ticks.0 + length trace.steps) × (0 ≤ ticks.0 + length trace.steps)
      bound o p =
          let sent = (step_at_within trace.steps o.sent _ p.0.message.sent).1 in
          let tick = ticks.1 o.missed (step_at_within trace.steps o.missed _ p.0.receive.step).1 in
          (omega (arith, tick), omega (arith, sent), omega arith)

      longest : (v : Miss) → ¬ Best Miss (IsMissFrom set trace g) (span_of trace) (λ o. o.sent) (λ o. 0) v
      longest v best =
          let own = best.passes.0.late in
          none v (record {
            miss = best.passes.0;
            from = best.passes.1;
            longest = λ o j f. (let h : span_of trace o ≤ span_of trace v = best.longest o (j, f) in
                let late = j.late in
                omega (arith, h, late, own));
            greatest = λ o j f e. (let late = j.late in best.greatest o (j, f) (omega (arith, e, late, own)));
          })

-- one miss is named as the longest
pub IsLongestMiss-unique : (set : ℕ) (trace : Recorded) (g : ℕ) (m o : Miss)
    → IsTimed trace → IsLongestMiss set trace g m → IsLongestMiss set trace g o → m ≡ o
IsLongestMiss-unique set trace g m o time a b =
    let below = a.longest o b.miss b.from in
    let above = b.longest m a.miss a.from in
    let low = a.greatest o b.miss b.from (omega (arith, below, above)) in
    let high = b.greatest m a.miss a.from (omega (arith, below, above)) in
    let sent : m.sent ≡ o.sent = omega (arith, low, high) in
    let tick = ap (tick_of trace) sent in
    let to = IsMessage-receiver set trace.steps o.sent a.miss.to b.miss.to
    (subst (λ s. IsMessage set trace.steps s a.miss.to) sent a.miss.message) b.miss.message in
    Miss-same m o sent
    (one_in_tick trace time m.missed o.missed _ _ a.miss.receive.step b.miss.receive.step to (omega (arith, tick, below, above)))

-- if no gap is the longest from tick g on, there is none
pub no_gap : (set : ℕ) (trace : Recorded) (g : ℕ) → ((w : Gap) → ¬ IsLongestGap set trace g w)
    → (w : Gap) → IsGap set trace w → g ≤ w.from → ⊥
no_gap set trace g none w i l = none_best Gap (IsGapFrom set trace g) (λ o. o.to - o.from) (λ o. o.from) (λ o. o.proc)
    (trace.last + MAX_MEMBER) bound longest w (i, l) where
      bound : (o : Gap) → IsGapFrom set trace g o → (o.to - o.from ≤ trace.last + MAX_MEMBER)
          × (o.from ≤ trace.last + MAX_MEMBER) × (o.proc ≤ trace.last + MAX_MEMBER)
      bound o p =
          let order = p.0.order in
          (omega (arith, p.0.inside), omega (arith, order, p.0.inside), omega (arith, member_within set o.proc p.0.member))

      longest : (v : Gap) → ¬ Best Gap (IsGapFrom set trace g) (λ o. o.to - o.from) (λ o. o.from) (λ o. o.proc) v
      longest v best =
          let own = best.passes.0.order in
          none v (record {
            gap = best.passes.0;
            from = best.passes.1;
            longest = λ o j f. (let h : o.to - o.from ≤ v.to - v.from = best.longest o (j, f) in
                let order = j.order in
                omega (arith, h, order, own));
            greatest = λ o j f e. (let order = j.order in best.greatest o (j, f) (omega (arith, e, order, own)));
            least = λ o j a b. best.least o (j, omega (arith, a, best.passes.1)) (omega (arith, a, b)) a;
          })

-- one gap is named as the longest
pub IsLongestGap-unique : (set : ℕ) (trace : Recorded) (g : ℕ) (v w : Gap) → IsLongestGap set trace g v → IsLongestGap set trace g w → v ≡ w
IsLongestGap-unique set trace g v w a b =
    let below = a.longest w b.gap b.from in
    let above = b.longest v a.gap a.from in
    let low = a.greatest w b.gap b.from (omega (arith, below, above)) in
    let high = b.greatest v a.gap a.from (omega (arith, below, above)) in
    let from : w.from ≡ v.from = omega (arith, low, high) in
    let to : w.to ≡ v.to = omega (arith, from, below, above) in
    Gap-same v w (omega (arith, a.least w b.gap from to, b.least v a.gap (sym from) (sym to))) (sym from) (sym to)
