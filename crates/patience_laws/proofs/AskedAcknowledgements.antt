-- How long the least rounds take, whoever owes an acknowledgement.
use Rattle.std.proofs.Common.{ℕ, zero, suc, ◌≡◌, ◌≢◌, ◌+◌, ◌-◌, ◌*◌, ◌%◌, ◌≤◌, inl, inr, Option, Some, None, is_some, Bool, true, false, ◌==◌, refl, sym, ap, subst, ◌∙◌, arith}
use Rattle.std.proofs.lemmas.Bool.{true≢false, cases_eq, eqb-true, and_parts, and_left}
use Rattle.patience_laws.proofs.Common.{Setup, has_proc, Recorded, Ack, Locks, with_proper, part_of, owner}
use Rattle.patience_laws.proofs.Common.{phase_of, Acknowledging, part_at-acknowledging, acknowledgement-sent}
use Rattle.patience_laws.proofs.Common.{locks-sent, passed, passed-before, IsInRoundFrom, may_hear_of}
use Rattle.patience_laws.proofs.Common.{KeepsBounds, AreInTouch, AreInRoundFrom, node_in, TakeInOrder, HearThemselves}
use Rattle.lock_phases.specs.NodeFunctions.{out}
use Rattle.patience_laws.proofs.RoundSends.{times-more}
use Rattle.patience_laws.proofs.RoundsHeard.{hears-ends}
use Rattle.patience_laws.proofs.RoundMessages.{few-all, few-one, IsSentBy, sent-by}
use Rattle.patience_laws.proofs.LeastRounds.{may-in, part-next, proposal-kept, AreTold, told-ends, says, listing-ends, locking-ends, releasing-ends, touch-later}
use Rattle.patience_laws.proofs.OwedAcknowledgements.{same-phase, owes-itself}
use Rattle.patience_laws.proofs.MemberRounds.{member-proc}

eqb-other : (p o : ℕ) (b : Bool) → (p == o) ≡ b → p ≢ o → (p == o) ≡ false
eqb-other p o true e other = absurd (other (eqb-true p o e))
eqb-other p o false e other = e

module _ (patience set : ℕ) (trace : Recorded) (g d f : ℕ)
    (keeps : KeepsBounds patience set trace g d f) (order : TakeInOrder set trace) (itself : HearThemselves set trace) where
  abbrev c : Setup
  c = trace.config

  module _ (round x : ℕ) (touch : AreInTouch patience set trace g (round + 1) x)
      (there : AreInRoundFrom set trace (round + 1) x) (low : 1 ≤ round) (part : part_of round ≡ 2) where
    third : part_of (round + 1) ≡ 3
    third = part-next round 2 low (omega arith) part

    -- who owes no acknowledgement is soon in the lock-release round
    other-goes : (q : ℕ) → has_proc set q ≡ true → q ≢ owner c.n (phase_of (round + 1))
        → IsInRoundFrom trace q (round + 1 + 1) (x + 1 * f + f)
    other-goes q m other = hears-ends trace patience set g f q keeps.run keeps.trace_is.time
        (keeps.paced q m) m keeps.phi (round + 1) x touch.since (there q m) 1 (x + 1 * f)
        (few-one c trace.steps q (round + 1) (inr third)) (omega arith) keeps.within keeps.size (record {
          members = λ z mz may. absurd (true≢false (sym may ∙ deaf z));
          others = λ z is mz may. absurd (true≢false (sym may ∙ deaf z));
        })
      where
        deaf : (z : ℕ) → may_hear_of c trace.steps q (round + 1) z ≡ false
        deaf z =
            may-in Acknowledging c trace.steps q (round + 1) z (part_at-acknowledging (round + 1) third)
            ∙ and_left (q == owner c.n (phase_of (round + 1)))
            (is_some (node_in c trace.steps q (round + 1)).proposal)
            (eqb-other q (owner c.n (phase_of (round + 1))) (q == owner c.n (phase_of (round + 1))) refl other)

    -- An acknowledging round: each tells the owner something.
    pub asked-ends : AreInRoundFrom set trace (round + 1 + 1) (x + f + f + c.n * f + d + f)
    asked-ends p m =
        let one = times-more 0 f in
        told-ends patience set trace g d f keeps (round + 1) x touch there
        (omega arith) p 1 (x + f + f + c.n * f) m (few-one c trace.steps p (round + 1) (inr third)) (omega arith) told
      where
        came : x + f ≤ trace.last → round + 1 ≤ passed trace.steps p + 1
        came last =
            let s = keeps.phi.each x touch.since (omega arith) p m in
            let l = there p m s.step.place s.step.step (omega (arith, s.step.tick, s.from)) in
            omega (arith, passed-before trace.steps p s.step.place, s.step.tick, s.from)

        proposes : (o : Option ℕ) → (node_in c trace.steps p (round + 1)).proposal ≡ o
            → is_some o ≡ true → (v : ℕ) × ((node_in c trace.steps p (round + 1)).proposal ≡ Some v)
        proposes (Some v) e h = (v, e)
        proposes None e h = absurd (true≢false (sym h))

        told : AreTold patience set trace g d f keeps (round + 1) x touch there (omega arith) p (x + f + f + c.n * f)
        told q mq may last = elim (cases_eq q (owner c.n (phase_of (round + 1)))) [
          | inl is_owner ↦ mine (is_owner ∙ sym own)
          | inr other ↦ theirs other
        ]
          where
            parts : ((p == owner c.n (phase_of (round + 1))) ≡ true) × (is_some (node_in c trace.steps p (round + 1)).proposal ≡ true)
            parts = and_parts (p == owner c.n (phase_of (round + 1))) (is_some (node_in c trace.steps p (round + 1)).proposal)
                (sym (may-in Acknowledging c trace.steps p (round + 1) q (part_at-acknowledging (round + 1) third)) ∙ may)

            own : p ≡ owner c.n (phase_of (round + 1))
            own = eqb-true p (owner c.n (phase_of (round + 1))) parts.0

            mine : q ≡ p → IsSentBy trace q p (round + 1) (x + f + f + c.n * f)
            mine same = subst (λ j. IsSentBy trace j p (round + 1) (x + f + f + c.n * f)) (sym same) (sent_by
                (let one = times-more 0 f in
                says patience set trace g d f keeps (round + 1) x touch there (omega arith) 0 p p
                (with_proper (node_in c trace.steps p (round + 1)) Ack) m (member-proc c set keeps.within p m)
                (few-one c trace.steps p (round + 1) (inr third))
                (subst (λ to. out c (node_in c trace.steps p (round + 1)) p (round + 1) to ≡ Some
                (with_proper (node_in c trace.steps p (round + 1)) Ack)) (sym own)
                (acknowledgement-sent c (node_in c trace.steps p (round + 1)) p (round + 1) third owes))
                (omega arith)))
              where
                sent_by : IsSentBy trace p p (round + 1) (x + 1 * f) → IsSentBy trace p p (round + 1) (x + f + f + c.n * f)
                sent_by s = let one = times-more 0 f in
                    let by = s.by in record { message = s.message; sent = s.sent; later = s.later; by = omega arith }

                owes : (node_in c trace.steps p (round + 1)).owes_ack ≡ true
                owes =
                    let v = proposes (node_in c trace.steps p (round + 1)).proposal refl parts.1 in
                    let come = came (omega arith) in
                    owes-itself trace patience set keeps.run order round low part itself p v.0
                    (own ∙ ap (owner c.n) (same-phase round low part)) m (member-proc c set keeps.within p m)
                    (sym (proposal-kept c trace.steps p round low part) ∙ v.1) (omega arith)

            theirs : q ≢ owner c.n (phase_of (round + 1)) → IsSentBy trace q p (round + 1) (x + f + f + c.n * f)
            theirs other =
                let is = member-proc c set keeps.within q mq in
                let first = is.0 in
                let high = is.1 in
                let e : suc (c.n - 1) ≡ c.n = omega arith in
                let product : suc (c.n - 1) * f ≡ c.n * f = ap (λ n. n * f) e in
                let one = times-more 0 f in
                let since = touch.since in
                let few = few-all c trace.steps q (round + 1 + 1) in
                let fourth : part_of (round + 1 + 1) ≡ 4 = part-next (round + 1) 3 (omega arith) (omega arith) third in
                let s = sent-by trace patience set g f q keeps.run keeps.trace_is.time
                (keeps.paced q mq) mq keeps.phi (round + 1 + 1) (x + 1 * f + f) (omega arith) (other-goes q mq other) (omega arith)
                (c.n - 1) p (with_proper (node_in c trace.steps q (round + 1 + 1)) (Locks (node_in c trace.steps q (round + 1 + 1)).locks))
                (omega arith) (member-proc c set keeps.within p m)
                (locks-sent c (node_in c trace.steps q (round + 1 + 1)) q (round + 1 + 1) p fourth) (omega arith) in
                let later = s.later in
                record { message = s.message; sent = s.sent; later = omega (arith, s.by); by = omega (arith, s.by) }

  -- how long the least round takes, by its part
  costs : ℕ → ℕ
  costs (suc zero) = f + d + f
  costs (suc (suc zero)) = 3 * f + c.n * f + d + f
  costs (suc (suc (suc zero))) = f + f + c.n * f + d + f
  costs _ = c.n * f + d + f

  -- and so many rounds, from one of this part on
  total : ℕ → ℕ → ℕ
  total zero part = 0
  total (suc count) part = costs part + total count (part % 4 + 1)

  abbrev product : ℕ
  product = c.n * f

  cost-one : total 5 1 ≡ f + d + f + (3 * f + product + d + f + (f + f + product + d + f + (product + d + f + (f + d + f + 0))))
  unfolding total costs
  cost-one = refl

  cost-two : total 5 2
      ≡ 3 * f + product + d + f + (f + f + product + d + f + (product + d + f + (f + d + f + (3 * f + product + d + f + 0))))
  unfolding total costs
  cost-two = refl

  cost-three : total 5 3
      ≡ f + f + product + d + f + (product + d + f + (f + d + f + (3 * f + product + d + f + (f + f + product + d + f + 0))))
  unfolding total costs
  cost-three = refl

  cost-four : total 5 4 ≡ product + d + f + (f + d + f + (3 * f + product + d + f + (f + f + product + d + f + (product + d + f + 0))))
  unfolding total costs
  cost-four = refl

  five-cost : (part : ℕ) → 1 ≤ part → part ≤ 4 → total 5 part ≤ 5 * d + 4 * product + 14 * f
  five-cost part low high = elim (cases_eq part 1) [
    | inl one ↦ (let e = ap (total 5) one in let h = cost-one in omega arith)
    | inr a ↦ elim (cases_eq part 2) [
      | inl two ↦ (let e = ap (total 5) two in let h = cost-two in omega arith)
      | inr b ↦ elim (cases_eq part 3) [
        | inl three ↦ (let e = ap (total 5) three in let h = cost-three in omega arith)
        | inr not_three ↦ (let e = ap (total 5) (let four : part ≡ 4 = omega arith in four) in let h = cost-four in omega arith)
      ]
    ]
  ]

  module _ (base x : ℕ) (touch : AreInTouch patience set trace g base x) (low : 1 ≤ base) where
    over : (r z : ℕ) → base ≤ r → x ≤ z → AreInRoundFrom set trace r z → AreInRoundFrom set trace (r + 1) (z + costs (part_of r))
    unfolding costs
    over r z up late there = elim (cases_eq (part_of r) 1) [
      | inl one ↦ of (f + d + f) (ap costs one) (let e : z + f + d + f ≡ z + (f + d + f) = omega arith in
          subst (AreInRoundFrom set trace (r + 1)) e
          (listing-ends patience set trace g d f keeps r z in_touch there (omega arith) one))
      | inr a ↦ elim (cases_eq (part_of r) 2) [
        | inl two ↦ of (3 * f + c.n * f + d + f) (ap costs two)
            (let e : z + 3 * f + c.n * f + d + f ≡ z + (3 * f + c.n * f + d + f) = omega arith in
            subst (AreInRoundFrom set trace (r + 1)) e
            (locking-ends patience set trace g d f keeps r z in_touch there (omega arith) two))
        | inr b ↦ elim (cases_eq (part_of r) 3) [
          | inl three ↦ of (f + f + c.n * f + d + f) (ap costs three) (asks three)
          | inr e ↦ (let four : part_of r ≡ 4 = omega arith in
              of (c.n * f + d + f) (ap costs four)
              (let e : z + c.n * f + d + f ≡ z + (c.n * f + d + f) = omega arith in subst (AreInRoundFrom set trace (r + 1)) e
              (releasing-ends patience set trace g d f keeps r z in_touch there (omega arith) four)))
        ]
      ]
    ]
      where
        in_touch : AreInTouch patience set trace g r z
        in_touch = touch-later patience set trace g base x r z up late touch

        of : (cost : ℕ) → costs (part_of r) ≡ cost
            → AreInRoundFrom set trace (r + 1) (z + cost) → AreInRoundFrom set trace (r + 1) (z + costs (part_of r))
        of cost e there = subst (λ m. AreInRoundFrom set trace (r + 1) (z + m)) (sym e) there

        asks : part_of r ≡ 3 → AreInRoundFrom set trace (r + 1) (z + (f + f + c.n * f + d + f))
        asks three =
            let e : r - 1 + 1 ≡ r = omega arith in
            let h : z + f + f + c.n * f + d + f ≡ z + (f + f + c.n * f + d + f) = omega arith in
            subst (AreInRoundFrom set trace (r + 1)) h
            (subst (λ m. AreInRoundFrom set trace (m + 1) (z + f + f + c.n * f + d + f)) e
            (asked-ends (r - 1) z (subst (λ m. AreInTouch patience set trace g m z) (sym e) in_touch)
            (subst (λ m. AreInRoundFrom set trace m z) (sym e) there) (omega arith) (omega arith)))

    chain : (count r z : ℕ) → base ≤ r → x ≤ z → AreInRoundFrom set trace r z
        → AreInRoundFrom set trace (r + count) (z + total count (part_of r))
    unfolding total
    chain zero r z up late there =
        let e : r + 0 ≡ r = omega arith in
        let h : z + 0 ≡ z = omega arith in
        subst (λ m. AreInRoundFrom set trace m (z + 0)) (sym e) (subst (AreInRoundFrom set trace r) (sym h) there)
    chain (suc count) r z up late there =
        let e : r + 1 + count ≡ r + suc count = omega arith in
        let part : part_of (r + 1) ≡ part_of r % 4 + 1 = omega arith in
        let h : z + costs (part_of r) + total count (part_of (r + 1)) ≡ z + (costs (part_of r) + total count (part_of r % 4 + 1)) =
        (let t = ap (total count) part in omega arith) in
        subst (AreInRoundFrom set trace (r + suc count)) h
        (subst (λ m. AreInRoundFrom set trace m (z + costs (part_of r) + total count (part_of (r + 1)))) e
        (chain count (r + 1) (z + costs (part_of r)) (omega arith) (omega arith) (over r z up late there)))

    -- So in so many ticks all members pass five rounds.
    pub five-rounds : (wait r z : ℕ) → 5 * d + (4 * c.n + 14) * f ≤ wait
        → base ≤ r → x ≤ z → AreInRoundFrom set trace r z → AreInRoundFrom set trace (r + 5) (z + wait)
    five-rounds wait r z enough up late there p m k is after =
        let e : (4 * c.n + 14) * f ≡ 4 * (c.n * f) + 14 * f = grind arith in
        let cost = five-cost (part_of r) (omega arith) (omega arith) in
        chain 5 r z up late there p m k is (omega arith)
