-- The traces that are made of one log, as traces of its events and of receives of nothing.
use Rattle.std.proofs.Common.{ℕ, ◌≡◌, ◌+◌, ◌<◌, ◌≤◌, List, [], ◌++◌, length, sym, ◌∙◌, subst, arith, append-nil}
use Rattle.idle_laws.proofs.Common.{DeltaHolds, PhiHolds, StepsIn, Recorded, Event, IdleTick, AreReceives, ticks_of, last_of, IsTraceOf, AreSilent, IsFull, IsPlain, IsSparse, Log}
use Rattle.timed_events.proofs.OneSpread.{AreTicks-unique}
use Rattle.idle_laws.proofs.EventBounds.{Acts, DeltaOfEvents, acts-in, from-events, steps-in, to-events}
use Rattle.idle_laws.proofs.FilledBounds.{fewer-polls, full-sparse, more-polls, plain-acts, plain-delta, sparse-full, ticks-long}

-- the trace has the log's events in these ticks, and receives of nothing in those
record IsSeen (log : Log) (ticks : List ℕ) (idles : List IdleTick) (trace : Recorded) : Type 0 where
  added : List Event
  receives : AreReceives idles added
  long : length ticks ≡ length log.events
  is : IsTraceOf log.n (log.events ++ added) (ticks ++ ticks_of idles) (last_of log.events log.clock ticks) trace

seen-plain : (log : Log) (trace : Recorded) → (h : IsPlain log trace) → IsSeen log h.is.ticks [] trace
seen-plain log trace h =
    let last = last_of log.events log.clock h.is.ticks in
    record {
      added = [];
      receives = tt;
      long = ticks-long log.spread log.events log.clock h.is.ticks h.is.are;
      is = subst (IsTraceOf log.n (log.events ++ []) (h.is.ticks ++ []) last) (sym h.same)
          (subst (λ ts. IsTraceOf log.n (log.events ++ []) ts last h.timed.trace) (sym (append-nil h.is.ticks))
          (subst (λ es. IsTraceOf log.n es h.is.ticks last h.timed.trace)
          (sym (append-nil log.events)) h.is.trace));
    }

seen-sparse : (log : Log) (limit : ℕ) (trace : Recorded) → (h : IsSparse log limit trace) → IsSeen log h.is.ticks h.is.idles trace
seen-sparse log limit trace h = record {
  added = h.is.filled.added;
  receives = h.is.filled.receives;
  long = ticks-long log.spread log.events log.clock h.is.ticks h.is.are;
  is = subst (IsTraceOf log.n (log.events ++ h.is.filled.added)
      (h.is.ticks ++ ticks_of h.is.idles) (last_of log.events log.clock h.is.ticks)) (sym h.same) h.is.filled.trace;
}

seen-full : (log : Log) (limit : ℕ) (trace : Recorded) → (h : IsFull log limit trace) → IsSeen log h.ticks h.polls trace
seen-full log limit trace h = record {
  added = h.filled.added;
  receives = h.filled.receives;
  long = ticks-long log.spread log.events log.clock h.ticks h.are;
  is = h.filled.trace;
}

module _ (log : Log) (ticks : List ℕ) (idles : List IdleTick) (trace : Recorded) (s : IsSeen log ticks idles trace) where
  abbrev last : ℕ
  last = last_of log.events log.clock ticks

  of-events : (set g d : ℕ) → DeltaHolds set trace g d → DeltaOfEvents set log.events ticks idles g d
  of-events set g d h = to-events log.n log.events s.added ticks last idles trace s.long s.receives s.is set g d h

  of-trace : (set g d : ℕ) → DeltaOfEvents set log.events ticks idles g d → DeltaHolds set trace g d
  of-trace set g d h = from-events log.n log.events s.added ticks last idles trace s.long s.receives s.is set g d h

  acts-of : (y p : ℕ) → StepsIn trace y p → Acts log.events ticks idles p y
  acts-of y p h = acts-in log.n log.events s.added ticks last idles trace s.long s.receives s.is y p h

  steps-of : (y p : ℕ) → Acts log.events ticks idles p y → StepsIn trace y p
  steps-of y p h = steps-in log.n log.events s.added ticks last idles trace s.long s.receives s.is y p h

-- two traces of the log, with the same ticks
module _ (log : Log) (ticks : List ℕ) (few many : List IdleTick)
    (a b : Recorded) (s : IsSeen log ticks few a) (t : IsSeen log ticks many b) where
  same-end : b.last ≡ a.last
  same-end = t.is.end ∙ sym s.is.end

  -- if each step of the first is one of the second, so is each processor bound
  phi-more : (set g f : ℕ) → ((p y : ℕ) → Acts log.events ticks few p y → Acts log.events ticks many p y)
      → PhiHolds set a g f → PhiHolds set b g f
  phi-more set g f more h = record {
    each = λ x lo inside p m. (
        let e = same-end in
        let w = h.each x lo (omega arith) p m in
        record {
          tick = w.tick;
          from = w.from;
          until = w.until;
          step = steps-of log ticks many b t w.tick p (more p w.tick (acts-of log ticks few a s w.tick p w.step));
        });
  }

  -- if each step of the second leaves one of the first within the bound
  phi-fewer : (set g f : ℕ) → ((p x y : ℕ) → g ≤ x → x ≤ y → y < x + f → Acts log.events ticks many p y
      → (z : ℕ) × (x ≤ z) × (z < x + f) × Acts log.events ticks few p z) → PhiHolds set b g f → PhiHolds set a g f
  phi-fewer set g f fewer h = record {
    each = λ x lo inside p m. (
        let e = same-end in
        let w = h.each x lo (omega arith) p m in
        let z = fewer p x w.tick lo w.from w.until (acts-of log ticks many b t w.tick p w.step) in
        record { tick = z.0; from = z.1; until = z.2; step = steps-of log ticks few a s z.0 p z.3 });
  }

module _ (log : Log) (limit : ℕ) (sparse full : Recorded) (s : IsSparse log limit sparse) (f : IsFull log limit full) where
  abbrev ticks : List ℕ
  ticks = s.is.ticks

  same-ticks : f.ticks ≡ ticks
  same-ticks = AreTicks-unique log.spread log.events log.clock f.ticks ticks s.is.passed f.are s.is.are

  silent : AreSilent log.n log.events ticks (last_of log.events log.clock ticks) limit f.polls
  silent = subst (λ ts. AreSilent log.n log.events ts (last_of log.events log.clock ts) limit f.polls) same-ticks f.silent

  few : IsSeen log ticks s.is.idles sparse
  few = seen-sparse log limit sparse s

  many : IsSeen log ticks f.polls full
  many = subst (λ ts. IsSeen log ts f.polls full) same-ticks (seen-full log limit full f)

  pub delta-full : (set g d : ℕ) → DeltaHolds set sparse g d → DeltaHolds set full g d
  delta-full set g d h = of-trace log ticks f.polls full many set g d
      (more-polls log.n log.events log.clock log.spread ticks (last_of log.events log.clock ticks) limit s.is.passed
      s.is.idles f.polls s.is.idle silent set g d (of-events log ticks s.is.idles sparse few set g d h))

  pub delta-sparse : (set g d : ℕ) → DeltaHolds set full g d → DeltaHolds set sparse g d
  delta-sparse set g d h = of-trace log ticks s.is.idles sparse few set g d
      (fewer-polls log.n log.events log.clock log.spread ticks (last_of log.events log.clock ticks) limit s.is.passed
      s.is.idles f.polls s.is.idle silent set g d (of-events log ticks f.polls full many set g d h))

  pub phi-full : (set g e : ℕ) → PhiHolds set sparse g e → PhiHolds set full g e
  phi-full set g e h = phi-more log ticks s.is.idles f.polls sparse full few many set g e
      (sparse-full log.n log.events log.clock log.spread ticks (last_of log.events log.clock ticks) limit s.is.passed
      s.is.idles f.polls s.is.idle silent) h

  pub phi-sparse : (set g e : ℕ) → 1 ≤ g → limit ≤ e → PhiHolds set full g e → PhiHolds set sparse g e
  phi-sparse set g e one far h = phi-fewer log ticks s.is.idles f.polls sparse full few many set g e
      (λ p x y lo from until a. full-sparse log.n log.events log.clock log.spread ticks
      (last_of log.events log.clock ticks) limit s.is.passed s.is.idles f.polls s.is.idle silent p x e y
      (omega arith) far from until a) h

module _ (log : Log) (limit : ℕ) (sparse plain : Recorded) (s : IsSparse log limit sparse) (l : IsPlain log plain) where
  same-own : l.is.ticks ≡ s.is.ticks
  same-own = AreTicks-unique log.spread log.events log.clock l.is.ticks s.is.ticks s.is.passed l.is.are s.is.are

  none : IsSeen log s.is.ticks [] plain
  none = subst (λ ts. IsSeen log ts [] plain) same-own (seen-plain log plain l)

  some : IsSeen log s.is.ticks s.is.idles sparse
  some = seen-sparse log limit sparse s

  pub delta-plain : (set g d : ℕ) → DeltaHolds set sparse g d → DeltaHolds set plain g d
  delta-plain set g d h = of-trace log s.is.ticks [] plain none set g d
      (plain-delta set log.events s.is.ticks s.is.idles g d (of-events log s.is.ticks s.is.idles sparse some set g d h))

  pub phi-plain : (set g e : ℕ) → PhiHolds set plain g e → PhiHolds set sparse g e
  phi-plain set g e h = phi-more log s.is.ticks [] s.is.idles plain sparse none some set g e (plain-acts log.events s.is.ticks s.is.idles) h
