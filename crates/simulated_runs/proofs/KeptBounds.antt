-- A bound that the numbers of steps keep is kept by their ticks.
use Rattle.std.proofs.Common.{ℕ, ◌+◌, ◌≤◌, List, Option, Some, None, IfSome, length, arith}
use Rattle.step_trace.specs.Bounds.{DeltaHolds, IsDelivered, PhiHolds, StepsWithin}
use Rattle.simulated_runs.proofs.Common.{Setup, Recorded, step_at_within, Crash, StatedBounds, Posted, Turn, AreLive, IsTakenBy, KeepsDelta, KeepsPhi, StepsFrom}
use Rattle.step_trace.specs.Ticks.{IsOnePerTick, tick_of}

within-ticks : (trace : Recorded) (p x f : ℕ) → IsOnePerTick trace → StepsFrom trace.steps p x f → StepsWithin trace p x f
within-ticks trace p x f one w = record {
  tick = w.place;
  from = w.from;
  until = w.until;
  step = record { place = w.place; step = w.step; tick = one.each w.place (step_at_within trace.steps w.place _ w.step.1).1 };
}

pub PhiHolds-kept : (c : Setup) (crashes : List Crash) (bounds : Option StatedBounds) (queue : List Turn) (trace : Recorded)
    → IsOnePerTick trace → IfSome bounds (λ b. KeepsPhi c crashes b.gst b.phi queue trace.steps)
    → IfSome bounds (λ b. (set : ℕ) → AreLive set c crashes → PhiHolds set trace (b.gst + 1) b.phi)
PhiHolds-kept c crashes None queue trace one w = w
PhiHolds-kept c crashes (Some b) queue trace one w = λ set live. record {
  each = λ x low high p member. within-ticks trace p x b.phi one (w.kept x low (let e = one.end in omega arith) p (live p member));
}

delivered : (trace : Recorded) (s r y : ℕ) → IsOnePerTick trace
    → s ≤ length trace.steps → r ≤ y → IsTakenBy trace.steps s r → IsDelivered trace s y
delivered trace s r y one early late w =
    let inside = (step_at_within trace.steps w.place _ w.takes.1).1 in
    let a = one.each s early in
    let b = one.each w.place inside in
    let after = w.after in
    record { place = w.place; after = omega (arith, w.until); until = omega (arith, w.until); takes = w.takes }

pub DeltaHolds-kept : (bounds : Option StatedBounds) (trays : List (List Posted)) (trace : Recorded) → IsOnePerTick trace
    → IfSome bounds (λ b. KeepsDelta b.gst b.delta trace.steps trays)
    → IfSome bounds (λ b. (set : ℕ) → DeltaHolds set trace (b.gst + 1) b.delta)
DeltaHolds-kept None trays trace one w = w
DeltaHolds-kept (Some b) trays trace one w = λ set. record {
  each = λ s late. record {
    on_time = λ r p message receive by.
        let early = (step_at_within trace.steps s _ message.sent).1 in
        let inside = (step_at_within trace.steps r _ receive.step).1 in
        let x = one.each s early in
        let y = one.each r inside in
        delivered trace s r (tick_of trace r) one early
        (omega arith) (w.kept s p r (omega arith) (message.from, message.sent) receive (omega arith));
  };
}
