use Rattle.std.proofs.Common.{◌<◌, ◌≤◌, ◌⊎◌, inl, inr, ◌∙◌, length, ap, ap₂, arith}
use Rattle.std.proofs.lemmas.Bool.{cases_lt}
use Rattle.timed_events.proofs.CausalOrders.{unplaceable-none}
use Rattle.event_log.specs.declared.refusals.LogError.TheVariants.{Cycle}
use Rattle.event_log.specs.HopLines.{hop_lines}
use Rattle.event_log.proofs.event_refusals.cycle_error.Goals as goal

pub returns : goal.returns
returns c = record {
  hops = c.in_ok-hops.hops.items;
  cycle = c.in_ok-hops.ensures.cycle (some (cases_lt 0 (length c.in_ok-hops.hops.items)));
  first = c.in_ok-hops.ensures.first;
  is = ap₂ (λ i lines. Cycle i lines) c.record_number.ensures
      (c.in_ok-lines.ensures ∙ ap (hop_lines c.args.text.now c.args.nodes.now c.args.events.now) c.deref.ensures.value);
} where
  some : (0 < length c.in_ok-hops.hops.items) ⊎ (length c.in_ok-hops.hops.items ≤ 0) → 0 < length c.in_ok-hops.hops.items
  some (inl l) = l
  some (inr l) = let order = c.in_ok-hops.ensures.none (omega arith) in
      absurd (unplaceable-none c.args.events.now c.args.event c.requires.behind.1 order.0 order.1)
