use Rattle.std.proofs.Common.{sym, subst}
use Rattle.timed_events.specs.IdleWalks.{HaveEnded}
use Rattle.timed_events.proofs.IdleEnds.{ended-start, ended-all}
use Rattle.timed_events.proofs.SpreadTraces.{meant-processors}
use Rattle.timed_events.proofs.idle_ticks.idle_ticks.Goals as goal

pub idle_before_events-requires-clause-processors : goal.idle_before_events-requires-clause-processors
idle_before_events-requires-clause-processors c = meant-processors c.args.n c.args.events.now c.requires.most c.requires.meant

pub idle_at_end-requires-clause-begun : goal.idle_at_end-requires-clause-begun
idle_at_end-requires-clause-begun c =
    subst (λ xs. HaveEnded c.args.n c.args.events.now c.args.ticks.now xs c.args.last c.args.limit 0
    c.in_ok-walk.walk.idles.items) (sym c.deref.ensures.value)
    (ended-start c.args.n c.args.events.now c.args.ticks.now c.args.order.now c.args.limit c.args.last
    c.in_ok-walk.walk.lasts.items c.in_ok-walk.walk.idles.items
    (record {
      processors = meant-processors c.args.n c.args.events.now c.requires.most c.requires.meant;
      first = c.requires.first;
      ordered = c.requires.ordered;
    }) c.requires.meant c.requires.most c.requires.within
    c.in_ok-walk.ensures)

pub returns : goal.returns
returns c = ended-all c.args.n c.args.events.now c.args.ticks.now _ c.args.last c.args.limit _ c.in_ok-idle_at_end.ensures
