-- Events that a contract sees as the same make the same trace with receives of nothing in short silences.
use Rattle.std.proofs.Common.{ℕ, ◌≡◌, ◌∙◌, ◌+◌, ◌<◌, ◌⊎◌, inl, inr, Bool, List, ◌++◌, map, Option, Some, None, refl, sym, ap, subst}
use Rattle.std.proofs.lemmas.List.{map-append}
use Rattle.std.proofs.lemmas.List.Elements.{All-weaker}
use Rattle.step_trace.specs.Traces.{Recorded}
use Rattle.timed_events.specs.declared.events.Event.{Event}
use Rattle.timed_events.specs.declared.events.Clock.{Clock}
use Rattle.timed_events.specs.declared.idle_ticks.IdleTick.{IdleTick}
use Rattle.timed_events.specs.declared.idle_traces.IdleTrace.{IdleTrace}
use Rattle.timed_events.specs.declared.spread_traces.Moved.{Moved}
use Rattle.timed_events.specs.declared.spread_traces.TimedTrace.{TimedTrace}
use Rattle.timed_events.specs.IdleTicks.{HasEventIn, IsShortSilence, IsIdleEnd, IsIdleTick, AreIdle, ticks_of}
use Rattle.timed_events.specs.IdleTraces.{IsFilled, IsIdleTimed}
use Rattle.timed_events.specs.Spreads.{last_of, moved_of}
use Rattle.timed_events.proofs.OneIdle.{IsIdleTimed-unique}
use Rattle.timed_events.proofs.OneSpread.{IsTimed-unique}
use Rattle.event_log.specs.declared.imports.IdleReceives.{IdleReceives}
use Rattle.event_log.specs.Events.{seen}
use Rattle.event_log.specs.LogTraces.{IsMadeBy}
use Rattle.event_log.proofs.SeenEvents.{lasts, lengths, own-ticks, passed, processors, ticks-same, timed-as-seen, traces}

has-event : (xs ys : List Event) → map seen xs ≡ map seen ys
    → (ticks : List ℕ) (p y : ℕ) → HasEventIn xs ticks p y → HasEventIn ys ticks p y
has-event xs ys same ticks p y h = record {
  place = h.place;
  inside = subst (λ n. h.place < n) (lengths xs ys same) h.inside;
  own = sym (processors xs ys same h.place) ∙ h.own;
  at = h.at;
}

or-event : (xs ys : List Event) → map seen xs ≡ map seen ys
    → (A : Type 0) (ticks : List ℕ) (p y : ℕ) → A ⊎ HasEventIn xs ticks p y → A ⊎ HasEventIn ys ticks p y
or-event xs ys same A ticks p y (inl a) = inl a
or-event xs ys same A ticks p y (inr h) = inr (has-event xs ys same ticks p y h)

short-silence : (xs ys : List Event) → map seen xs ≡ map seen ys
    → (ticks : List ℕ) (limit p y : ℕ) → IsShortSilence xs ticks limit p y → IsShortSilence ys ticks limit p y
short-silence xs ys same ticks limit p y h = record {
  since = h.since;
  from = or-event xs ys same (h.since ≡ 0) ticks p h.since h.from;
  some = h.some;
  silent = λ z a b k. h.silent z a b (has-event ys xs (sym same) ticks p z k);
  short = h.short;
}

idle-end : (xs ys : List Event) → map seen xs ≡ map seen ys
    → (ticks : List ℕ) (last limit p y : ℕ) → IsIdleEnd xs ticks last limit p y → IsIdleEnd ys ticks last limit p y
idle-end xs ys same ticks last limit p y h = record {
  silence = short-silence xs ys same ticks limit p y h.silence;
  ends = or-event xs ys same (y ≡ last) ticks p (y + 1) h.ends;
}

module _ (xs ys : List Event) (same : map seen xs ≡ map seen ys) where
  idles-same : (n : ℕ) (ticks : List ℕ) (last limit : ℕ) (idles : List IdleTick)
      → AreIdle n xs ticks last limit idles → AreIdle n ys ticks last limit idles
  idles-same n ticks last limit idles h = record {
    each = All-weaker (IsIdleTick n xs ticks last limit) (IsIdleTick n ys ticks last limit)
        (λ x i.
        record {
          least = i.least;
          most = i.most;
          end =
              idle-end xs ys same ticks last limit x.processor x.tick i.end;
        }) idles h.each;
    all = λ p y a b e. h.all p y a b (idle-end ys xs (sym same) ticks last limit p y e);
    rising = h.rising;
  }

  both-seen : (zs : List Event) → map seen (xs ++ zs) ≡ map seen (ys ++ zs)
  both-seen zs = map-append seen xs zs ∙ ap (λ ss. ss ++ map seen zs) same ∙ sym (map-append seen ys zs)

  filled-same : (n : ℕ) (new : List Event) (ticks : List ℕ) (last : ℕ) (idles : List IdleTick) (made : Recorded)
      → (h : IsFilled n xs new ticks last idles made) → IsFilled n ys (ys ++ h.added) ticks last idles made
  filled-same n new ticks last idles made h = record {
    added = h.added;
    receives = h.receives;
    grown = refl;
    trace = traces (xs ++ h.added) (ys ++ h.added) (both-seen h.added) n (ticks ++ ticks_of idles) last made h.trace;
  }

  idle-as-seen : (spread : Bool) (n : ℕ) (clock : Clock) (limit : ℕ) (timed : IdleTrace) (new : List Event)
      → (t : IsIdleTimed spread n xs clock limit timed new)
      → IsIdleTimed spread n ys clock limit timed (ys ++ t.filled.added)
  idle-as-seen spread n clock limit timed new t = record {
    passed = passed xs ys same spread clock t.passed;
    ticks = t.ticks;
    are = ticks-same xs ys same spread clock t.ticks t.are;
    idles = t.idles;
    idle = subst (λ last. AreIdle n ys t.ticks last limit t.idles) ends
        (idles-same n t.ticks (last_of xs clock t.ticks) limit t.idles t.idle);
    filled = subst (λ last. IsFilled n ys (ys ++ t.filled.added) t.ticks last t.idles timed.trace) ends
        (filled-same n new t.ticks (last_of xs clock t.ticks) t.idles timed.trace t.filled);
    moved = t.moved ∙ ap (λ own. moved_of own t.ticks) (own-ticks xs ys same clock);
    added = t.added;
  } where
    ends : last_of xs clock t.ticks ≡ last_of ys clock t.ticks
    ends = lasts xs ys same clock t.ticks

  -- so what is made of events is made of what is seen of them
  pub made-as-seen : (limit : Option ℕ) (spread : Bool) (n : ℕ) (clock : Clock) (trace : Recorded) (moved : Moved)
      (idle : Option IdleReceives) → IsMadeBy limit spread n xs clock trace moved idle
      → IsMadeBy limit spread n ys clock trace moved idle
  made-as-seen None spread n clock trace moved idle h =
      (timed-as-seen xs ys same spread n clock (record { trace = trace; moved = moved }) h.0, h.1)
  made-as-seen (Some limit) spread n clock trace moved idle h = record {
    new = ys ++ h.timed.filled.added;
    added = h.added;
    timed = idle-as-seen spread n clock limit (record { trace = trace; moved = moved; added = h.added }) h.new h.timed;
    told = h.told;
  }

-- events, clock and limit make one trace
pub made-once : (limit : Option ℕ) (spread : Bool) (n : ℕ) (events : List Event) (clock : Clock) (t u : Recorded)
    (m o : Moved) (i j : Option IdleReceives) → IsMadeBy limit spread n events clock t m i
    → IsMadeBy limit spread n events clock u o j → (t ≡ u) × (m ≡ o) × (i ≡ j)
made-once None spread n events clock t u m o i j h k =
    let a : TimedTrace = record { trace = t; moved = m } in
    let b : TimedTrace = record { trace = u; moved = o } in
    let e = IsTimed-unique spread n events clock a b h.0 k.0 in
    (ap (λ (z : TimedTrace). z.trace) e, ap (λ (z : TimedTrace). z.moved) e, h.1 ∙ sym k.1)
made-once (Some limit) spread n events clock t u m o i j h k =
    let a : IdleTrace = record { trace = t; moved = m; added = h.added } in
    let b : IdleTrace = record { trace = u; moved = o; added = k.added } in
    let e = IsIdleTimed-unique spread n events clock limit a b h.new k.new h.timed k.timed in (
      ap (λ (z : IdleTrace). z.trace) e,
      ap (λ (z : IdleTrace). z.moved) e,
      h.told
          ∙ ap (λ (z : IdleTrace). Some (idle z.added)) e ∙ sym k.told,
    ) where
      idle : ℕ → IdleReceives
      idle count = record { count = count; limit = limit }
