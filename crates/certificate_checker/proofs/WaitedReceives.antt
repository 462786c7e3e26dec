-- The last Receive up to which a message isn't taken, and the misses of the message.
use Rattle.std.proofs.Common.{ℕ, ◌≡◌, ◌<◌, ◌≤◌, ◌==◌, inl, inr, List, length, get_or, Bool, true, false, cond, refl, ap, subst, arith}
use Rattle.std.specs.Prelude.{◌↔◌}
use Rattle.std.proofs.lemmas.Bool.{cases_lt, eqb-true, eqb-false}
use Rattle.step_trace.proofs.StepPositions.{same_step}
use Rattle.certificate_checker.proofs.Common.{Miss, Step, Recorded, TakesAt, IsReceiveOf, IsWellFormed, tick_of}
use Rattle.certificate_checker.proofs.Common.{IsTrace, IsMessage, IsMiss, step_at_within, ticks_rise, own_ticks_rise}
use Rattle.certificate_checker.proofs.Common.{IsMessage-receiver, UNTAKEN, Receives, IsLastBefore, WaitsAt}
use Rattle.certificate_checker.proofs.Common.{IsLastWaited, KnowsReceives, last_waited, IsLastMiss}
use Rattle.certificate_checker.proofs.StepFacts.{taker_receives}

-- if no note was made of a message it is never taken
never_taken : (t : Recorded) (s : ℕ) (r : Receives) → IsWellFormed t.config t.steps
    → KnowsReceives t (length t.steps) r → get_or r.before.items s 0 ≡ UNTAKEN → (k : ℕ) → ¬ TakesAt t.steps k s
never_taken t s r w k e j takes =
    let inside = step_at_within t.steps j _ takes.1 in
    let last = subst (λ (m : ℕ). IsLastBefore t.steps takes.0.proc j m) e (k.taken j s inside.1 takes) in
    let below = (last.found (omega arith)).0 in
    omega (arith, inside, below, w.short)

-- the note of a message that is never taken, and of one that is
pub IsLastWaited-from_known : (set : ℕ) (t : Recorded) (s b : ℕ) (r : Receives) → IsWellFormed t.config t.steps
    → IsMessage set t.steps s b → b ≤ t.config.n → KnowsReceives t (length t.steps) r
    → IsLastWaited t.steps s b (last_waited r s b)
IsLastWaited-from_known set t s b r w m within k = go (get_or r.before.items s 0 == UNTAKEN) refl where
  receiver_of : (j : ℕ) (takes : TakesAt t.steps j s) → IsReceiveOf t.steps j b → takes.0.proc ≡ b
  receiver_of j takes receive = ap (λ (z : Step). z.proc) (same_step t.steps j _ _ takes.1 receive.step)

  go : (c : Bool) → (get_or r.before.items s 0 == UNTAKEN) ≡ c
      → IsLastWaited t.steps s b (cond c (get_or r.last.items b 0) (get_or r.before.items s 0))
  go true e =
      let never = never_taken t s r w k (eqb-true _ _ e) in
      let last = k.last b within in
      record {
        found = λ some. ((last.found some).1, λ j l. never j);
        last = λ y receive waits. (let inside = step_at_within t.steps y _ receive.step in last.last y receive (omega (arith, inside)));
      }
  go false e =
      let inside = step_at_within t.steps s _ m.sent in
      let f = k.known s (eqb-false _ _ e) inside.1 in
      let taker = taker_receives t.config t.steps s m.from b f.0 w m.sent f.1 in
      let proc : f.1.0.proc ≡ b = receiver_of f.0 f.1 taker in
      let last = subst (λ (p : ℕ). IsLastBefore t.steps p f.0 (get_or r.before.items s 0)) proc (k.taken f.0 s f.2 f.1) in
      record {
        found = λ some. (
          (last.found some).1,
          λ j l takes.
              (let here : j ≡ f.0 = w.once j f.0 s takes f.1 in let below = (last.found some).0 in omega (arith, here, l, below)),
        );
        last = λ y receive waits. last.last y receive (elim (cases_lt y f.0) [ inl l ↦ l | inr l ↦ absurd (waits f.0 l f.1) ]);
      }

-- it is the number of a step, or 0
pub last_waited_bound : (steps : List Step) (s b r : ℕ) → IsLastWaited steps s b r → r ≤ length steps
last_waited_bound steps s b r l = elim (cases_lt 0 r) [
  | inl some ↦ (step_at_within steps r _ (l.found some).0.step).1
  | inr none ↦ omega (arith, none)
]

-- up to the Receive of a miss the message isn't taken
miss_waits : (set : ℕ) (t : Recorded) → IsTrace t → (m : Miss) → IsMiss set t m → WaitsAt t.steps m.sent m.missed
miss_waits set t w m i k l takes = i.undelivered (record {
  place = k;
  after = w.time.later k m.sent takes;
  until = ticks_rise t w.time k m.missed _ _ takes.1 i.receive.step l;
  takes = takes;
})

-- a Receive of the receiver in a later tick, up to which the message isn't taken, misses it
waits_miss : (set : ℕ) (t : Recorded) → IsTrace t → (s b r : ℕ) → IsMessage set t.steps s b → IsReceiveOf t.steps r b
    → tick_of t s < tick_of t r → WaitsAt t.steps s r → IsMiss set t (record { sent = s; missed = r })
waits_miss set t w s b r m receive late waits = record {
  to = b;
  message = m;
  receive = receive;
  late = late;
  undelivered = λ d. elim (cases_lt r d.place) [
    | inl l ↦ (let taker = taker_receives t.config t.steps s m.from b d.place w.steps m.sent d.takes in
        omega (arith, own_ticks_rise t w.time r d.place _ _ receive.step taker.step refl l, d.until))
    | inr l ↦ waits d.place l d.takes
  ];
}

-- a miss is at a Receive of the receiver in a later tick, up to the last that the message waits through
pub IsMiss-by_waited : (set : ℕ) (t : Recorded) → IsTrace t → (m : Miss) (b r : ℕ) → IsMessage set t.steps m.sent b → IsReceiveOf
    t.steps m.missed b → IsLastWaited t.steps m.sent b r → IsMiss set t m ↔ ((tick_of t m.sent < tick_of t m.missed) × (m.missed ≤ r))
IsMiss-by_waited set t w m b r message receive l = (
  λ i. (i.late, l.last m.missed receive (miss_waits set t w m i)),
  λ h. (let inside = step_at_within t.steps m.missed _ receive.step in
      let f = l.found (omega (arith, inside, h.1)) in
      waits_miss set t w m.sent b m.missed message receive h.0 (λ k u. f.1 k (omega (arith, u, h.1)))),
)

-- each miss of the message is at or before it
pub own_last : (set : ℕ) (t : Recorded) → IsTrace t
    → (s b r : ℕ) (o : Miss) → IsMessage set t.steps s b → IsLastWaited t.steps s b r → IsMiss set t o → o.sent ≡ s → o.missed ≤ r
own_last set t w s b r o message l i e =
    let to = IsMessage-receiver set t.steps s i.to b (subst (λ (k : ℕ). IsMessage set t.steps k i.to) e i.message) message in
    l.last o.missed (subst (λ (q : ℕ). IsReceiveOf t.steps o.missed q) to i.receive)
    (subst (λ (k : ℕ). WaitsAt t.steps k o.missed) e (miss_waits set t w o i))

-- the last Receive that the message waits through is its last miss, if it comes in a later tick
pub IsLastMiss-from_waited : (set : ℕ) (t : Recorded) → IsTrace t → (s b r : ℕ) → IsMessage set t.steps s b
    → IsLastWaited t.steps s b r → 0 < r → tick_of t s < tick_of t r
    → IsLastMiss set t s (record { sent = s; missed = r })
IsLastMiss-from_waited set t w s b r message l some late =
    let f = l.found some in
    record {
      miss = waits_miss set t w s b r message f.0 late f.1;
      sent = refl;
      last = λ o i e. ticks_rise t w.time o.missed r _ _ i.receive.step f.0.step (own_last set t w s b r o message l i e);
    }

-- if there is none, or it comes in no later tick, the message has no miss
pub HasNoMiss-from_waited : (set : ℕ) (t : Recorded) → IsTrace t → (s b r : ℕ) → IsMessage set t.steps s b
    → IsLastWaited t.steps s b r → (0 < r → tick_of t r ≤ tick_of t s) → (o : Miss) → IsMiss set t o → o.sent ≡ s → ⊥
HasNoMiss-from_waited set t w s b r message l early o i e =
    let high = own_last set t w s b r o message l i e in
    let some : 0 < r = omega (arith, step_at_within t.steps o.missed _ i.receive.step, high) in
    let up = ticks_rise t w.time o.missed r _ _ i.receive.step (l.found some).0.step high in
    let same = ap (tick_of t) e in
    omega (arith, up, early some, i.late, same)
