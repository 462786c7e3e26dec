use Rattle.std.proofs.Common.{rules, ◌∙◌, ◌+ℤ◌, ap, ap₂, subst, sym}
use Rattle.std.proofs.lemmas.Int.{to_z-of_z}
use mir.Val.{SFits}
use mir.Syntax.{w128}
use Rattle.clock_offsets.specs.EventNeeds.{clock_at}
use Rattle.clock_offsets.proofs.ClockCycles.{lead-next, took-next}
use Rattle.clock_offsets.proofs.clock_cycles.tested_cycle.Goals as goal

pub loop-hop-preserved : goal.loop-hop-preserved
loop-hop-preserved c =
    let next = c.in-Some-clock_hop.next in
    let is = c.in-Some-clock_hop.ensures in
    record {
      lead = lead-next c.args.events.now c.clock_at-clock.result c.loop-hop.at c.clock_at-at.result
          c.loop-hop.hops.items c.push.new.self.items next c.loop-hop.invariant.lead is.hop c.in_ok-push.ensures.items
          (c.clock_at-at.ensures ∙ ap (clock_at c.args.events.now) (sym is.same.0));
      total = (
          let sum = c.in-Some-checked_add.ensures in
          let fits : SFits w128 next.took = search rules in
          let held : SFits w128 c.in-Some-checked_add.sum = subst (λ x. SFits w128 x) (sym sum.1) sum.0 in
          to_z-of_z w128 c.in-Some-checked_add.sum held
          ∙ took-next c.loop-hop.total c.in-Some-checked_add.sum c.loop-hop.hops.items c.push.new.self.items next
          (sym c.loop-hop.total-is ∙ c.loop-hop.invariant.total)
          (sum.1 ∙ ap₂ (λ x y. x +ℤ y) c.loop-hop.total-is (to_z-of_z w128 next.took fits)) c.in_ok-push.ensures.items
          );
    }
