-- Misses by the numbers of their steps, and by their ticks.
use Rattle.std.proofs.Common.{ℕ, ◌≡◌, ◌<◌, ◌≤◌, inl, inr, Some, sym, ap, ◌∙◌, suc, zero, arith}
use Rattle.std.specs.Prelude.{◌↔◌}
use Rattle.std.proofs.lemmas.Bool.{cases_lt}
use Rattle.std.proofs.lemmas.Option.{same_Some}
use Rattle.suffix_staircase.proofs.Common.{Send, Step, Miss, IsDelivered, tick_of, IsTrace, Recorded, step_at, TakesAt}
use Rattle.suffix_staircase.proofs.Common.{IsReceiveOf, IsMiss, step_at_within, ticks_rise, number_below}
use Rattle.suffix_staircase.proofs.Common.{own_ticks_rise, IsDeliveredByNumber, IsMissByNumber, IsLastMissByNumber}

-- Of the Receives that miss message s, r is the last; its tick isn't above that of s if none does.
pub record IsLastMissOf (set : ℕ) (trace : Recorded) (s r : ℕ) : Type 0 where
  pub found : tick_of trace s < tick_of trace r → IsMiss set trace (record { sent = s; missed = r })
  pub last : (y : ℕ) → IsMiss set trace (record { sent = s; missed = y }) → tick_of trace y ≤ tick_of trace r

-- the taker of a message is its receiver, in a later tick than the Send's
taker : (t : Recorded) → IsTrace t → (s a b k : ℕ) → step_at t.steps s ≡ Some (record { proc = a; act = Send b })
    → (h : TakesAt t.steps k s) → (h.0.proc ≡ b) × (tick_of t s < tick_of t k)
taker t w s a b k at h =
    let sent = (w.steps.earlier k s h.0 h.1 h.2).1 in
    let same = same_Some _ _ (sym sent.1 ∙ at) in
    let act = ap (λ (z : Step). z.act) same in
    let to : h.0.proc ≡ b = cc in
    (to, w.time.later k s h)

-- for a Receive r of the message's receiver, delivered by the tick of r is delivered up to step r
IsDelivered-numbers : (t : Recorded) → IsTrace t → (s a b r : ℕ) → step_at t.steps s ≡ Some (record { proc = a; act = Send b })
    → IsReceiveOf t.steps r b → IsDelivered t s (tick_of t r) ↔ IsDeliveredByNumber t.steps s r
IsDelivered-numbers t w s a b r at q = (
  λ h. (let k = taker t w s a b h.place at h.takes in record {
    place = h.place;
    takes = h.takes;
    after = number_below t w.time s h.place _ _ at h.takes.1 h.after;
    until = elim (cases_lt r h.place) [
      | inl l ↦ absurd (let x = own_ticks_rise t w.time r h.place _ _ q.step h.takes.1 (sym k.0) l in omega (arith, x, h.until))
      | inr l ↦ l
    ];
  }),
  λ h. (let k = taker t w s a b h.place at h.takes in record {
    place = h.place;
    takes = h.takes;
    after = k.1;
    until = ticks_rise t w.time h.place r _ _ h.takes.1 q.step h.until;
  }),
)

-- a miss is one by number whose Receive is in a later tick
IsMiss-numbers : (set : ℕ) (t : Recorded) → IsTrace t
    → (m : Miss) → IsMiss set t m ↔ (IsMissByNumber set t.steps m × (tick_of t m.sent < tick_of t m.missed))
IsMiss-numbers set t w m = (
  λ i. (
    record {
      to = i.to;
      message = i.message;
      receive = i.receive;
      late = number_below t w.time m.sent m.missed _ _ i.message.sent i.receive.step i.late;
      undelivered = λ d. i.undelivered ((IsDelivered-numbers t w m.sent i.message.from i.to m.missed i.message.sent i.receive).1 d);
    },
    i.late,
  ),
  λ h. (let i = h.0 in record {
    to = i.to;
    message = i.message;
    receive = i.receive;
    late = h.1;
    undelivered = λ d. i.undelivered ((IsDelivered-numbers t w m.sent i.message.from i.to m.missed i.message.sent i.receive).0 d);
  }),
)

-- the last Receive that misses a message by number is the last that misses it
pub IsLastMissOf-from_numbers : (set : ℕ) (t : Recorded)
    → IsTrace t → (s r : ℕ) → IsLastMissByNumber set t.steps s r → IsLastMissOf set t s r
IsLastMissOf-from_numbers set t w s r l = record {
  found = λ late. (IsMiss-numbers set t w (record { sent = s; missed = r })).1 (l.found (positive r late), late);
  last = λ y i. (let b = ((IsMiss-numbers set t w (record { sent = s; missed = y })).0 i).0 in
      let high = l.last y b in
      let some = step_at_within t.steps y _ b.receive.step in
      ticks_rise t w.time y r _ _ b.receive.step (l.found (omega (arith, high, some))).receive.step high);
} where
  positive : (r : ℕ) → tick_of t s < tick_of t r → 0 < r
  positive zero h = absurd (omega arith)
  positive (suc k) h = omega arith
