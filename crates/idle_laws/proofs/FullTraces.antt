-- A log that has a trace has one with a receive of nothing in each tick of its short silences.
use Rattle.std.proofs.Common.{ℕ, ◌≡◌, ◌+◌, ◌-◌, ◌<◌, ◌≤◌, ◌⊎◌, inl, inr, None, Bool, true, false, List, [], ◌∷◌, ◌++◌, length, map, get_or, pos, refl, sym, ap, ap₂, ◌∙◌, subst, arith}
use Rattle.std.specs.Prelude.{slice_index}
use Rattle.std.specs.Option.{option_map_or}
use Rattle.std.proofs.lemmas.Bool.{cases_lt}
use Rattle.idle_laws.proofs.Common.{MAX_PROCESSORS, Recorded, Event, EventAct, Clock, IdleTick, AreReceives}
use Rattle.idle_laws.proofs.Common.{IsOfNothing, ticks_of, AreTicks, HavePassed, last_of, last_tick, time_ticks}
use Rattle.idle_laws.proofs.Common.{times_refusal, or_none, least-moments, moment-parts, IsFull, IsSparse, Log}
use Rattle.timed_events.specs.Checks.{AreMeant, AreOfProcessors, HaveOwnMoments, events_refusal, moment_at, moment_of, processor_at}
use Rattle.timed_events.proofs.MovedEvents.{greatest-each}
use Rattle.timed_events.proofs.PassedEvents.{one-at_moment}
use Rattle.timed_events.proofs.SpreadTraces.{meant-processors}
use Rattle.timed_events.proofs.IdleEvents.{received-at, get-right, get-left}
use Rattle.idle_laws.proofs.AddedEvents.{long-all, new-tick, old-tick}
use Rattle.idle_laws.proofs.FilledBounds.{ticks-long}
use Rattle.idle_laws.proofs.MadeTraces.{made}
use Rattle.idle_laws.proofs.SilentTicks.{AllSilent, all-silent}

-- events of which none is refused are at moments of their own
in-time-apart : (events : List Event) (ticks : List ℕ) → events_refusal events ticks ≡ None → HaveOwnMoments events ticks
in-time-apart events ticks passed j i l m e = let one = one-at_moment events ticks j i passed (omega arith) m e in omega arith

events-apart : (spread : Bool) (events : List Event) (clock : Clock) (ticks : List ℕ) → AreOfProcessors events
    → HavePassed spread events clock → AreTicks spread events clock ticks → HaveOwnMoments events ticks
events-apart false events clock ticks o passed e =
    subst (HaveOwnMoments events) (sym e)
    (in-time-apart events (time_ticks events clock)
    (or_none (times_refusal events clock) (events_refusal events (time_ticks events clock)) passed).1)
events-apart true events clock ticks o passed h = least-moments events (time_ticks events clock) ticks o h

-- so are they with receives of nothing in the ticks of short silences
module _ (n : ℕ) (events added : List Event) (ticks : List ℕ) (last limit : ℕ)
    (within : (i : ℕ) → i < length events → slice_index ticks i ≤ last) (few : n ≤ MAX_PROCESSORS)
    (o : AreOfProcessors events) (own : HaveOwnMoments events ticks) (long : length ticks ≡ length events)
    (a : AllSilent n events ticks last limit within) (r : AreReceives a.polls added) where
  abbrev all : List Event
  all = events ++ added

  abbrev all_ticks : List ℕ
  all_ticks = ticks ++ ticks_of a.polls

  abbrev nobody : IdleTick
  nobody = record { processor = 0; tick = 0 }

  old-moment : (i : ℕ) → i < length events → moment_at all all_ticks i ≡ moment_at events ticks i
  old-moment i l = ap₂ moment_of (old-tick events added ticks a.polls long r i l)
      (ap (λ v. option_map_or (λ (e : Event). e.processor) v 0) (get-left events added i l))

  new-moment : (i j : ℕ) → i ≡ length events + j → j < length a.polls
      → moment_at all all_ticks i ≡ moment_of (get_or a.polls j nobody).tick (get_or a.polls j nobody).processor
  new-moment i j e l =
      let w = received-at a.polls added j nobody r l in
      ap₂ moment_of (new-tick events added ticks a.polls long r i j nobody e l)
      (ap (λ v. option_map_or (λ (x : Event). x.processor) v 0) (get-right events added i j e ∙ w.1) ∙ w.2.own)

  -- an event isn't at the moment of a receive of nothing
  old-new : (i j : ℕ) → i < length events → j < length a.polls
      → ¬ (moment_at events ticks i ≡ moment_of (get_or a.polls j nobody).tick (get_or a.polls j nobody).processor)
  old-new i j l m e =
      let s = a.silent.each j nobody m in
      let upto = s.most in
      let parts = moment-parts (slice_index ticks i)
      (get_or a.polls j nobody).tick (processor_at events i) (get_or a.polls j nobody).processor (o i l) (s.least, omega arith) e in
      s.inside.is.silence.silent (get_or a.polls j nobody).tick s.inside.after s.inside.until
      (record { place = i; inside = l; own = parts.1; at = parts.0 })

  all-apart : HaveOwnMoments all all_ticks
  all-apart j i l m e = go (cases_lt i (length events)) (cases_lt j (length events)) where
    many : length all ≡ length events + length a.polls
    many = long-all events added ticks a.polls long r

    go : (i < length events) ⊎ (length events ≤ i) → (j < length events) ⊎ (length events ≤ j) → ⊥
    go (inl old) c = own j i l old (sym (old-moment j (omega arith)) ∙ e ∙ old-moment i old)
    go (inr new) (inl old) =
        let c = many in
        let k = i - length events in
        old-new j k old (omega arith) (sym (old-moment j old) ∙ e ∙ new-moment i k (omega arith) (omega arith))
    go (inr new) (inr late) =
        let c = many in
        let h = j - length events in
        let k = i - length events in
        a.apart h k nobody (omega arith) (omega arith)
        (sym (new-moment j h (omega arith) (omega arith)) ∙ e ∙ new-moment i k (omega arith) (omega arith))

module _ (nothing : EventAct) (is : IsOfNothing nothing) where
  abbrev receive_in : IdleTick → Event
  receive_in x = record { time = pos 0; processor = x.processor; act = nothing }

  receives : (polls : List IdleTick) → AreReceives polls (map receive_in polls)
  receives [] = tt
  receives (x ∷ polls) = (record { time = refl; own = refl; act = is }, receives polls)

  pub full : (log : Log) (limit : ℕ) (sparse : Recorded)
      → log.n ≤ MAX_PROCESSORS → AreMeant log.events log.n → IsSparse log limit sparse → (full : Recorded) × IsFull log limit full
  full log limit sparse few meant s =
      let ticks = s.is.ticks in
      let last = last_of log.events log.clock ticks in
      let long = ticks-long log.spread log.events log.clock ticks s.is.are in
      let o = meant-processors log.n log.events few meant in
      let own = events-apart log.spread log.events log.clock ticks o s.is.passed s.is.are in
      let within : (i : ℕ) → i < length log.events
      → slice_index ticks i ≤ last = (λ i l. greatest-each (last_tick log.events log.clock) ticks i (omega arith)) in
      let a = all-silent log.n log.events ticks last limit within few in
      let added = map receive_in a.polls in
      let r = receives a.polls in
      let m = made log.n (log.events ++ added) (ticks ++ ticks_of a.polls) last
      (all-apart log.n log.events added ticks last limit within few o own long a r) in (
        m.0,
        record {
          passed = s.is.passed;
          ticks = ticks;
          are = s.is.are;
          polls = a.polls;
          silent = a.silent;
          new = log.events ++ added;
          filled = record { added = added; receives = r; grown = refl; trace = m.1 };
        },
      )
