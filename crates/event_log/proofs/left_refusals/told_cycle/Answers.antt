use Rattle.std.proofs.Common.{ℕ, ◌+◌, ◌<◌, ◌≤◌, ◌⊎◌, inl, inr, ◌∙◌, List, length, map, get_or, ap, ap₂, arith, sym, subst}
use Rattle.std.proofs.lemmas.Bool.{cases_lt}
use Rattle.timed_events.specs.declared.cause_cycles.Hop.{Hop}
use Rattle.timed_events.specs.declared.events.Event.{Event}
use Rattle.timed_events.specs.CauseCycles.{IsCauseCycle}
use Rattle.timed_events.specs.Causes.{IsFirstUnplaceable}
use Rattle.timed_events.proofs.CausalOrders.{unplaceable-none}
use Rattle.event_log.specs.declared.reading.TheConstants.{MAX_EVENTS}
use Rattle.event_log.specs.declared.refusals.LogError.TheVariants.{Cycle}
use Rattle.event_log.specs.HopLines.{hop_lines}
use Rattle.event_log.specs.LogPlaces.{hop_in, place_in}
use Rattle.event_log.proofs.PlacedErrors.{hops-within}
use Rattle.event_log.proofs.left_refusals.told_cycle.Goals as goal

pub hop_lines-requires : goal.hop_lines-requires
hop_lines-requires c =
    let places = c.args.left.now.places.items in
    let cycle = c.in_ok-cycle.cycle.items in
    let same = c.deref-3.ensures.value ∙ c.in_ok-hops.ensures
    ∙ ap₂ (λ (ps : List ℕ) (hs : List Hop). map (hop_in ps) hs) c.deref.ensures.value c.deref-2.ensures.value in
    subst (λ (hops : List Hop). (k : ℕ) (d : Hop) → k < length hops → (get_or hops k d).message < MAX_EVENTS)
    (sym same) (hops-within places c.requires.within cycle)

pub returns : goal.returns
returns c = record {
  hops = c.in_ok-cycle.cycle.items;
  cycle = subst (λ (events : List Event). IsCauseCycle events c.in_ok-cycle.cycle.items) c.as_slice.ensures.value
      (c.in_ok-cycle.ensures.cycle (some (cases_lt 0 (length c.in_ok-cycle.cycle.items))));
  first = c.in_ok-cycle.ensures.first;
  is = ap₂ (λ i lines. Cycle (i + 2) lines) (c.from-number.ensures ∙ c.place_in.ensures ∙ ap (λ (ps : List ℕ). place_in ps c.args.event)
      c.deref-4.ensures.value) (c.in_ok-lines.ensures ∙ ap₂ (λ (events : List Event) (hops : List Hop).
      hop_lines c.args.text.now c.args.log.now.nodes events hops) c.as_slice-2.ensures.value (c.deref-3.ensures.value ∙ c.in_ok-hops.ensures
      ∙ ap₂ (λ (ps : List ℕ) (hs : List Hop). map (hop_in ps) hs) c.deref.ensures.value c.deref-2.ensures.value));
} where
  some : (0 < length c.in_ok-cycle.cycle.items) ⊎ (length c.in_ok-cycle.cycle.items ≤ 0) → 0 < length c.in_ok-cycle.cycle.items
  some (inl l) = l
  some (inr l) =
      let order = c.in_ok-cycle.ensures.none (omega arith) in
      absurd (unplaceable-none c.as_slice.result.now c.args.event (subst (λ (events : List Event). IsFirstUnplaceable events c.args.event)
      (sym c.as_slice.ensures.value) c.requires.behind.1) order.0 order.1)
