-- Events in the ticks of their times make a trace.
use Rattle.std.proofs.Common.{ℕ, ◌≡◌, ◌<◌, ◌≤◌, Bool, false, List, length, None, refl, sym, ap, ◌∙◌, subst, arith}
use Rattle.std.specs.Prelude.{slice_index}
use Rattle.std.proofs.lemmas.List.{length-map}
use Rattle.timed_events.specs.declared.events.Event.{Event}
use Rattle.timed_events.specs.declared.events.Clock.{Clock}
use Rattle.timed_events.specs.declared.ticked_events.EventTicks.{EventTicks}
use Rattle.timed_events.specs.Times.{time_tick, time_ticks, last_tick, times_refusal}
use Rattle.timed_events.specs.Checks.{events_refusal}
use Rattle.timed_events.specs.Orders.{IsOrder}
use Rattle.timed_events.specs.TimedTraces.{timed_refusal}
use Rattle.timed_events.specs.Spreads.{moved_of, last_of}
use Rattle.timed_events.specs.TickedEvents.{AreTicked, AreFit}
use Rattle.timed_events.proofs.Firsts.{or_none}
use Rattle.timed_events.proofs.TimedFitting.{ticks-bounds, some-event}
use Rattle.timed_events.proofs.MovedEvents.{greatest-first, moved-same}

-- events whose times aren't refused, nor they in their ticks
both-passed : (events : List Event) (clock : Clock)
    → timed_refusal events clock ≡ None → (times_refusal events clock ≡ None) × (events_refusal events (time_ticks events clock) ≡ None)
both-passed events clock h = or_none (times_refusal events clock) (events_refusal events (time_ticks events clock)) h

in-bounds : (events : List Event) (clock : Clock) (i : ℕ) → 0 < clock.width → timed_refusal events clock ≡ None
    → i < length events → (1 ≤ slice_index (time_ticks events clock) i)
    × (slice_index (time_ticks events clock) i ≤ last_tick events clock)
in-bounds events clock i w h l = let b = ticks-bounds events clock
    (time_ticks events clock) i (some-event events i l) w (both-passed events clock h).0 refl l in (b.0, b.1)

fit-in_time : (events : List Event) (clock : Clock) (ticks : List ℕ) (last : ℕ) → 0 < length events → 0 < clock.width
    → timed_refusal events clock ≡ None → ticks ≡ time_ticks events clock → last ≡ last_tick events clock
    → AreFit events ticks last
fit-in_time events clock ticks last some w h e f =
    subst (λ l. AreFit events ticks l) (sym f) (subst (λ xs. AreFit events xs (last_tick events clock)) (sym e) (record {
      long = length-map events (λ x. time_tick events clock x.time);
      passed = (both-passed events clock h).1;
      first = λ i l. (in-bounds events clock i w h l).0;
      within = λ i l. (in-bounds events clock i w h l).1;
      most =
          (ticks-bounds events clock (time_ticks events clock) 0 (some-event events 0 some) w (both-passed events clock h).0 refl some).2;
    }))

-- they are in the ticks of their times, and none moved
pub ticked-in_time : (spread : Bool) (events : List Event) (clock : Clock) (ticked : EventTicks) → spread ≡ false
    → 0 < length events → 0 < clock.width → timed_refusal events clock ≡ None
    → ticked.ticks.items ≡ time_ticks events clock → ticked.last ≡ last_tick events clock
    → ticked.moved ≡ record { events = 0; ticks = 0; farthest = None }
    → IsOrder events ticked.ticks.items ticked.order.items → AreTicked spread events clock ticked
ticked-in_time spread events clock ticked s some w h e f m o = subst (λ b. AreTicked b events clock ticked) (sym s) (record {
  passed = h;
  are = e;
  last = f ∙ sym (ap (last_of events clock) e ∙ greatest-first (last_tick events clock) (time_ticks events clock) within);
  moved = m ∙ sym (ap (moved_of (time_ticks events clock)) e ∙ moved-same (time_ticks events clock));
  fit = fit-in_time events clock ticked.ticks.items ticked.last some w h e f;
  ordered = o;
}) where
  within : (i : ℕ) → i < length (time_ticks events clock) → slice_index (time_ticks events clock) i ≤ last_tick events clock
  within i l =
      let m = length-map events (λ x. time_tick events clock x.time) in
      let inside : i < length events = omega arith in
      (in-bounds events clock i w h inside).1
