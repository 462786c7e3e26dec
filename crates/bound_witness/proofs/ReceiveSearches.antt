-- Searches for a Receive from a tick on and before the delivery, and what they show about misses and the
-- bound.
use Rattle.std.proofs.Common.{ℕ, ◌≡◌, ◌+◌, ◌<◌, ◌≤◌, ◌↔◌, inl, inr, refl, arith, subst, sym}
use Rattle.std.proofs.lemmas.Bool.{cases_lt}
use Rattle.bound_witness.proofs.Common.{Miss, Recorded, IsReceiveOf, tick_of, IsTimed, IsMessage, IsDelivered, DeltaHoldsFor, IsMiss, tick_of-limit, IsMessage-receiver}
use Rattle.bound_witness.specs.LastMisses.{HasNoMiss, IsLastMiss}
use Rattle.bound_witness.specs.TickWindows.{IsReceiveBetween, NoReceiveBetween, IsLastReceiveBetween}

-- no step of number k or a greater one is a Receive of b from tick x on and before y
pub record NoReceiveFrom (trace : Recorded) (b x y k : ℕ) : Type 0 where
  pub none : (r : ℕ) → k ≤ r → IsReceiveBetween trace r b x y → ⊥

-- a Receive of the receiver finds the message undelivered exactly if its tick is before the delivery
abbrev pub DeliveredAt : Recorded → ℕ → ℕ → Type 0
DeliveredAt trace sent y = (z : ℕ) → z ≤ trace.last → (IsDelivered trace sent z ↔ (y ≤ z))

-- a miss of the message is at a Receive of its receiver, after its Send's tick and before the delivery
pub receive_of : (set : ℕ) (trace : Recorded) (sent b x y : ℕ) (m : Miss) → IsTimed trace
    → IsMessage set trace.steps sent b → DeliveredAt trace sent y → x ≡ tick_of trace sent + 1 → m.sent ≡ sent
    → IsMiss set trace m → IsReceiveBetween trace m.missed b x y
receive_of set trace sent b x y m time v d h q i =
    let same = IsMessage-receiver set trace.steps sent i.to b (subst (λ s. IsMessage set trace.steps s i.to) q i.message) v in record {
      receive = subst (λ p. IsReceiveOf trace.steps m.missed p) same i.receive;
      from = (let l : tick_of trace sent < tick_of trace m.missed = subst (λ s. tick_of trace s < tick_of trace m.missed) q i.late in
          omega (arith, l, h));
      before = elim (cases_lt (tick_of trace m.missed) y) [
        | inl l ↦ l
        | inr l ↦ absurd (i.undelivered (subst (λ s. IsDelivered trace s (tick_of trace m.missed))
            (sym q) ((d (tick_of trace m.missed) (tick_of-limit trace time m.missed)).1 l)))
      ];
    }

-- and each such Receive is a miss of the message
pub miss_at : (set : ℕ) (trace : Recorded) (sent b x y r : ℕ) → IsTimed trace → IsMessage set trace.steps sent b
    → DeliveredAt trace sent y → x ≡ tick_of trace sent + 1 → IsReceiveBetween trace r b x y
    → IsMiss set trace (record { sent = sent; missed = r })
miss_at set trace sent b x y r time v d h e = record {
  to = b;
  message = v;
  receive = e.receive;
  late = (let l = e.from in omega (arith, l, h));
  undelivered = λ z. absurd (let l = (d (tick_of trace r) (tick_of-limit trace time r)).0 z in let w = e.before in omega (arith, l, w));
}

-- if there is no Receive of the receiver before the delivery there is no miss
pub HasNoMiss-from_receives : (set : ℕ) (trace : Recorded) (sent b x y : ℕ) → IsTimed trace
    → IsMessage set trace.steps sent b → DeliveredAt trace sent y → x ≡ tick_of trace sent + 1
    → NoReceiveBetween trace b x y → HasNoMiss set trace sent
HasNoMiss-from_receives set trace sent b x y time v d h f =
    record { none = λ m q i. f.none m.missed (receive_of set trace sent b x y m time v d h q i) }

-- and the last one is the last miss
pub IsLastMiss-from_receives : (set : ℕ) (trace : Recorded) (sent b x y r : ℕ) → IsTimed trace
    → IsMessage set trace.steps sent b → DeliveredAt trace sent y → x ≡ tick_of trace sent + 1
    → IsLastReceiveBetween trace b x y r → IsLastMiss set trace sent (record { sent = sent; missed = r })
IsLastMiss-from_receives set trace sent b x y r time v d h f = record {
  sent = refl;
  miss = miss_at set trace sent b x y r time v d h f.receive;
  greatest = λ o i q. f.last o.missed (receive_of set trace sent b x y o time v d h q i);
}

-- if no Receive of the receiver is d ticks after the Send or later and before the delivery, the bound holds
pub DeltaHoldsFor-none : (set : ℕ) (trace : Recorded) (sent b d x y : ℕ) → IsTimed trace
    → IsMessage set trace.steps sent b → DeliveredAt trace sent y → x ≡ tick_of trace sent + d
    → NoReceiveBetween trace b x y → DeltaHoldsFor set trace sent d
DeltaHoldsFor-none set trace sent b d x y time v e h f = record {
  on_time = λ r a m i l.
      let same = IsMessage-receiver set trace.steps sent a b m v in
      elim (cases_lt (tick_of trace r) y) [
        | inl k ↦ absurd
            (f.none r (record { receive = subst (λ p. IsReceiveOf trace.steps r p) same i; from = omega (arith, h, l); before = k }))
        | inr k ↦ (e (tick_of trace r) (tick_of-limit trace time r)).1 k
      ];
}

-- and such a Receive refutes it
pub DeltaHoldsFor-refuted : (set : ℕ) (trace : Recorded) (sent b d x y r : ℕ) → IsTimed trace
    → IsMessage set trace.steps sent b → DeliveredAt trace sent y → x ≡ tick_of trace sent + d
    → IsReceiveBetween trace r b x y → ¬ DeltaHoldsFor set trace sent d
DeltaHoldsFor-refuted set trace sent b d x y r time v e h i f =
    let from = i.from in
    let l = (e (tick_of trace r) (tick_of-limit trace time r)).0 (f.on_time r b v i.receive (omega (arith, h, from))) in
    absurd (omega (arith, l, i.before))
