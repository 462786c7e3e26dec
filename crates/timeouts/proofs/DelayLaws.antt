-- Delays of messages, back over a step.
use Rattle.std.proofs.Common.{ℕ, ◌≡◌, ◌+◌, ◌-◌, ◌<◌, ◌≤◌, ◌==◌, inl, inr, List, length, get_or, Bool, true, false, cond, refl, sym, ap, subst, arith}
use Rattle.std.specs.Prelude.{max}
use Rattle.std.proofs.Math.Nat.{le-max_left, le-max_right}
use Rattle.std.proofs.lemmas.Bool.{cases_eq, cases_lt, eqb-true, eqb-false}
use Rattle.step_trace.specs.Traces.{Recorded, IsWellFormed}
use Rattle.step_trace.specs.Ticks.{tick_of, IsTimed}
use Rattle.step_trace.specs.Bounds.{IsDelivered, IsLeastBound}
use Rattle.step_trace.proofs.StepPositions.{step_at_within}
use Rattle.timeouts.specs.Hearing.{IsFrom, TakesWithin}
use Rattle.timeouts.specs.Deliveries.{KnowsTaken, TakesAfter, taken_by}
use Rattle.timeouts.specs.Passes.{AreFrom}
use Rattle.timeouts.proofs.AwaitedLaws.{longer_limit}
use Rattle.timeouts.proofs.StepOrder.{place_below}
use Rattle.timeouts.proofs.DeliveryLaws.{taker_is}

-- after the last step nothing is sent
pub IsLeastBound-no_delay : (t : Recorded) (p q : ℕ) → IsLeastBound (λ e. TakesAfter t p q (length t.steps) e) 1
IsLeastBound-no_delay t p q = record {
  positive = omega arith;
  holds = λ s after message room. absurd (omega (arith, after, (step_at_within t.steps s _ message).1));
  least = λ e positive h. positive;
}

-- over a step that is no message from p to q it stays
pub IsLeastBound-other_delay : (t : Recorded) (p q n delay : ℕ)
    → ¬ IsFrom t.steps p q n → IsLeastBound (λ e. TakesAfter t p q n e) delay → IsLeastBound (λ e. TakesAfter t p q (n - 1) e) delay
IsLeastBound-other_delay t p q n delay other k = record {
  positive = k.positive;
  holds = λ s after message room. k.holds s (later s after message) message room;
  least = λ e positive h. k.least e positive (λ s after. h s (omega (arith, after)));
} where
  later : (s : ℕ) → n - 1 < s → IsFrom t.steps p q s → n < s
  later s after message = elim (cases_eq s n) [
    | inl same ↦ absurd (other (subst (λ (m : ℕ). IsFrom t.steps p q m) same message))
    | inr differs ↦ omega (arith, after, differs)
  ]

-- a message that is delivered by a moment is delivered by a later one
IsDelivered-later : (t : Recorded) (s y z : ℕ) → y ≤ z → IsDelivered t s y → IsDelivered t s z
IsDelivered-later t s y z l d = let until = d.until in
    record { place = d.place; after = d.after; until = omega (arith, until, l); takes = d.takes }

-- what is known of a message that is taken by the tick `taken`, or isn't
record IsTakenBy (t : Recorded) (n by : ℕ) : Type 0 where
  pub end : by ≤ t.last + 1
  pub taken : by ≤ t.last → IsDelivered t n by
  pub no_sooner : (y : ℕ) → y ≤ t.last → IsDelivered t n y → by ≤ y

-- if no Receive takes it
untaken : (t : Recorded) (p q n : ℕ) (taken : List ℕ) → IsTimed t
    → IsWellFormed t.config t.steps → IsFrom t.steps p q n → KnowsTaken t q n taken → get_or taken n 0 ≡ 0 → IsTakenBy t n (t.last + 1)
untaken t p q n taken time w message known none = record {
  end = omega arith;
  taken = λ l. absurd (omega (arith, l));
  no_sooner = λ y room d.
      let takes = d.takes in
      let is = known.each n d.place (w.earlier d.place n takes.0 takes.1 takes.2).0 takes
      (taker_is t.config t.steps p q n d.place w message takes) in
      let inside = (time.inside d.place takes.0 takes.1).0 in
      absurd (omega (arith, is, none, inside));
}

-- if one does
taken_at : (t : Recorded) (p q n : ℕ) (taken : List ℕ) → IsTimed t → IsWellFormed t.config t.steps
    → IsFrom t.steps p q n → KnowsTaken t q n taken → 0 < get_or taken n 0 → IsTakenBy t n (get_or taken n 0)
taken_at t p q n taken time w message known some =
    let place = known.found n some in
    let takes = place.1 in
    let tick = place.2 in
    let inside = (time.inside place.0 takes.0 takes.1).1 in
    record {
      end = omega (arith, tick, inside);
      taken = λ l. record { place = place.0; after = time.later place.0 n takes; until = omega (arith, tick); takes = takes };
      no_sooner = λ y room d.
          let taken_too = d.takes in
          let is = known.each n d.place (w.earlier d.place n taken_too.0 taken_too.1 taken_too.2).0 taken_too
          (taker_is t.config t.steps p q n d.place w message taken_too) in
          let until = d.until in
          omega (arith, is, until);
    }

IsTakenBy-known : (t : Recorded) (p q n : ℕ) (taken : List ℕ) → IsTimed t → IsWellFormed t.config t.steps
    → IsFrom t.steps p q n → KnowsTaken t q n taken → IsTakenBy t n (taken_by (t.last + 1) (get_or taken n 0))
IsTakenBy-known t p q n taken time w message known = go (get_or taken n 0 == 0) refl where
  go : (b : Bool) → (get_or taken n 0 == 0) ≡ b → IsTakenBy t n (cond b (t.last + 1) (get_or taken n 0))
  go true e = untaken t p q n taken time w message known (eqb-true (get_or taken n 0) 0 e)
  go false e = let other = eqb-false (get_or taken n 0) 0 e in
      taken_at t p q n taken time w message known
      (elim (cases_lt 0 (get_or taken n 0)) [ inl l ↦ l | inr l ↦ absurd (other (omega (arith, l))) ])

-- over a message it is the greater of both delays
message_delay : (t : Recorded) (p q n delay by : ℕ) → IsFrom t.steps p q n → IsTakenBy t n by
    → IsLeastBound (λ e. TakesAfter t p q n e) delay → IsLeastBound (λ e. TakesAfter t p q (n - 1) e) (max delay (by - tick_of t n))
message_delay t p q n delay by message own k = record {
  positive = (let positive = k.positive in omega (arith, positive, le-max_left delay (by - tick_of t n)));
  holds = λ s after sent room. elim (cases_eq s n) [
    | inl same ↦ here s same room
    | inr other ↦ IsDelivered-later t s (tick_of t s + delay)
        (tick_of t s + max delay (by - tick_of t n)) (omega (arith, le-max_left delay (by - tick_of t n)))
        (k.holds s (omega (arith, after, other)) sent (omega (arith, room, le-max_left delay (by - tick_of t n))))
  ];
  least = λ e positive h. longer_limit delay (by - tick_of t n) e
      (max delay (by - tick_of t n)) (k.least e positive (λ s after. h s (omega (arith, after)))) (own_least e h) refl;
} where
  here : (s : ℕ) → s ≡ n → tick_of t s + max delay (by - tick_of t n) ≤ t.last
      → IsDelivered t s (tick_of t s + max delay (by - tick_of t n))
  here s same room =
      let tick : tick_of t s ≡ tick_of t n = ap (tick_of t) same in
      let most = le-max_right delay (by - tick_of t n) in
      subst (λ (m : ℕ). IsDelivered t m (tick_of t s + max delay (by - tick_of t n))) (sym same)
      (IsDelivered-later t n by (tick_of t s + max delay (by - tick_of t n))
      (omega (arith, tick, most)) (own.taken (omega (arith, tick, most, room))))

  some : (n : ℕ) → IsFrom t.steps p q n → n - 1 < n
  some n message = let low = (step_at_within t.steps n _ message).0 in omega (arith, low)

  own_least : (e : ℕ) → TakesAfter t p q (n - 1) e → by - tick_of t n ≤ e
  own_least e h = elim (cases_lt t.last (tick_of t n + e)) [
    | inl past ↦ (let end = own.end in omega (arith, end, past))
    | inr room ↦ (let soon = own.no_sooner (tick_of t n + e) room (h n (some n message) message room) in omega (arith, soon))
  ]

pub IsLeastBound-message_delay : (t : Recorded) (p q n delay : ℕ) (taken : List ℕ) → IsTimed t
    → IsWellFormed t.config t.steps → KnowsTaken t q n taken → IsFrom t.steps p q n
    → IsLeastBound (λ e. TakesAfter t p q n e) delay → IsLeastBound (λ e. TakesAfter t p q (n - 1) e)
    (max delay (taken_by (t.last + 1) (get_or taken n 0) - tick_of t n))
IsLeastBound-message_delay t p q n delay taken time w known message k =
    message_delay t p q n delay (taken_by (t.last + 1) (get_or taken n 0)) message (IsTakenBy-known t p q n taken time w message known) k

-- the messages after number done are those of tick g and later
pub IsLeastBound-delay : (t : Recorded) (p q g done delay : ℕ) → IsTimed t → done ≤ length t.steps → tick_of t done < g
    → AreFrom t p q g done → IsLeastBound (λ e. TakesAfter t p q done e) delay
    → IsLeastBound (λ e. TakesWithin t p q g e) delay
IsLeastBound-delay t p q g done delay time within before each k = record {
  positive = k.positive;
  holds = record {
    each = λ s message from room. k.holds s
        (place_below t time done s _ within message (omega (arith, before, from))) message room;
  };
  least = λ e positive h. k.least e positive (λ s after message room. h.each s message (each s _ after message (inl refl)) room);
}

-- no delay is longer than the trace
pub delay_limit : (t : Recorded) (p q g delay : ℕ) → IsLeastBound (λ e. TakesWithin t p q g e) delay → delay ≤ t.last + 1
delay_limit t p q g delay k = k.least (t.last + 1) (omega arith) (record { each = λ s message from room. absurd (omega (arith, room)) })
