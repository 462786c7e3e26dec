use Rattle.std.proofs.Common.{◌∙◌, ◌++◌, take, ap}
use Rattle.timed_events.proofs.TurnedCycles.{AreTurned, rest-whole, turned-least}
use Rattle.timed_events.proofs.cause_cycles.begun_at_least.Goals as goal

are-turned : (c : goal.In_ok-extend_from_slice) → AreTurned c.args.hops.now c.extend_from_slice.new.self.items
are-turned c =
    let at = c.least_hop-at.result in
    let hops = c.args.hops.now in (
      at,
      c.least_hop-at.ensures.inside,
      c.in_ok-extend_from_slice.ensures.items
          ∙ ap (λ xs. xs ++ take at hops) (c.in_ok-turned.ensures.items ∙ rest-whole at hops),
    )

pub returns-clause-turned : goal.returns-clause-turned
returns-clause-turned c = are-turned c

pub returns-clause-first : goal.returns-clause-first
unfolding are-turned
returns-clause-first c = turned-least c.args.hops.now c.extend_from_slice.new.self.items c.least_hop-at.result c.least_hop-at.ensures.inside
    (are-turned c).2 c.least_hop-at.ensures.least
