use Rattle.std.proofs.Common.{sym, subst}
use Rattle.std.specs.List.{All}
use Rattle.timed_events.specs.IdleTicks.{IsFree}
use Rattle.timed_events.proofs.IdleEvents.{all-free}
use Rattle.timed_events.proofs.idle_traces.idle_trace.Goals as goal

pub filled_trace-requires-clause-free : goal.filled_trace-requires-clause-free
filled_trace-requires-clause-free c =
    let ticked = c.args.filling.ticked in
    let events = c.args.events.now.items in
    let free = all-free c.args.n events ticked.ticks.items
    ticked.last c.args.limit c.args.filling.idles.items c.requires.filling.ticked.fit c.requires.filling.idle in
    subst (λ xs. All (IsFree c.args.n events ticked.ticks.items ticked.last) xs) (sym c.deref.ensures.value) free
