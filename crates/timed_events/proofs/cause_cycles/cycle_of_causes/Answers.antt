use Rattle.std.proofs.Common.{Vec, Global, ℕ, List}
use Rattle.std.proofs.lemmas.Result.{IfOk-weaker}
use Rattle.timed_events.specs.declared.cause_cycles.Hop.{Hop}
use Rattle.timed_events.specs.Causes.{IsCausalOrder}
use Rattle.timed_events.proofs.MessageFaults.{received-by}
use Rattle.timed_events.proofs.TurnedCycles.{turned-cycle, turned-none}
use Rattle.timed_events.proofs.cause_cycles.cycle_of_causes.Goals as goal

pub cause_cycle-requires-clause-received : goal.cause_cycle-requires-clause-received
cause_cycle-requires-clause-received c = received-by c.args.events.now c.requires.passed

pub returns-clause-cycle : goal.returns-clause-cycle
returns-clause-cycle c = IfOk-weaker _ _ _
    (λ (v : Vec Hop Global) t. turned-cycle c.args.events.now c.in_ok-cycle.cycle.items c.deref.result.now v.items
    c.deref.ensures.value c.in_ok-cycle.ensures.cycle t) c.begun_at_least.ensures.turned

pub returns-clause-none : goal.returns-clause-none
returns-clause-none c = IfOk-weaker _ _ _
    (λ (v : Vec Hop Global) t. turned-none ((order : List ℕ) × IsCausalOrder c.args.events.now order)
    c.in_ok-cycle.cycle.items c.deref.result.now v.items c.deref.ensures.value c.in_ok-cycle.ensures.none t)
    c.begun_at_least.ensures.turned
