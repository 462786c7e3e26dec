use Rattle.std.proofs.Common.{◌∙◌, ◌+◌, ℕ, ap, sym, arith}
use Rattle.event_log.proofs.TickRows.{far-with, far-without}
use Rattle.event_log.proofs.tick_rows.far_count.Goals as goal
use Rattle.event_log.proofs.tick_rows.far_count.Goals.{then-is_far, else-is_far}

pub loop-k-preserved : goal.loop-k-preserved
loop-k-preserved c =
    let own = c.args.own.now in
    let ticks = c.args.trace.now.ticks in
    let places = c.args.places.now in
    let k = c.loop-k.k in
    elim c.if-is_far.branch [
      | then-is_far w ↦ record {
        far = w.far-is ∙ ap (λ (n : ℕ). n + 1) c.loop-k.invariant.far
            ∙ sym (far-with own ticks places k (sym c.is_far.ensures ∙ w.if-is_far.true));
        few = let e = w.far-is in let few = c.loop-k.invariant.few in omega (arith, e, few);
      }
      | else-is_far w ↦ record {
        far = w.far-is ∙ c.loop-k.invariant.far ∙ sym (far-without own ticks places k (sym c.is_far.ensures ∙ w.if-is_far.false));
        few = let e = w.far-is in let few = c.loop-k.invariant.few in omega (arith, e, few);
      }
    ]
