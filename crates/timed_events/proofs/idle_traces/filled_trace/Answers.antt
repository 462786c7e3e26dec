use Rattle.timed_events.proofs.IdleEvents.{fit-slices, meant-slice, few-slice}
use Rattle.timed_events.proofs.idle_traces.filled_trace.Goals as goal

pub ordered_by_ticks-requires-clause-few : goal.ordered_by_ticks-requires-clause-few
ordered_by_ticks-requires-clause-few c =
    few-slice c.args.n c.args.events.now.items c.add_receives.new.events.items c.args.ticks.items
    c.in_ok-ticks.ticks.items c.args.last c.args.idles.now c.requires.most c.requires.meant c.requires.fit
    c.requires.free c.requires.rising c.in_ok-add_receives.ensures.grown c.as_slice.result.now c.as_slice.ensures.value
    c.requires.few

pub ordered_by_ticks-requires-clause-meant : goal.ordered_by_ticks-requires-clause-meant
ordered_by_ticks-requires-clause-meant c =
    meant-slice c.args.n c.args.events.now.items c.add_receives.new.events.items c.args.ticks.items
    c.in_ok-ticks.ticks.items c.args.last c.args.idles.now c.requires.most c.requires.meant c.requires.fit
    c.requires.free c.requires.rising c.in_ok-add_receives.ensures.grown c.as_slice.result.now c.as_slice.ensures.value

pub ordered_by_ticks-requires-clause-ticks : goal.ordered_by_ticks-requires-clause-ticks
ordered_by_ticks-requires-clause-ticks c =
    (fit-slices c.args.n c.args.events.now.items c.add_receives.new.events.items c.args.ticks.items
    c.in_ok-ticks.ticks.items c.args.last c.args.idles.now c.requires.most c.requires.meant c.requires.fit
    c.requires.free c.requires.rising c.in_ok-add_receives.ensures.grown c.as_slice.result.now c.deref.result.now
    c.in_ok-ticks.ensures c.as_slice.ensures.value c.deref.ensures.value).long

pub ordered_by_ticks-requires-clause-passed : goal.ordered_by_ticks-requires-clause-passed
ordered_by_ticks-requires-clause-passed c =
    (fit-slices c.args.n c.args.events.now.items c.add_receives.new.events.items c.args.ticks.items
    c.in_ok-ticks.ticks.items c.args.last c.args.idles.now c.requires.most c.requires.meant c.requires.fit
    c.requires.free c.requires.rising c.in_ok-add_receives.ensures.grown c.as_slice.result.now c.deref.result.now
    c.in_ok-ticks.ensures c.as_slice.ensures.value c.deref.ensures.value).passed

pub ordered_by_ticks-requires-clause-first : goal.ordered_by_ticks-requires-clause-first
ordered_by_ticks-requires-clause-first c =
    (fit-slices c.args.n c.args.events.now.items c.add_receives.new.events.items c.args.ticks.items
    c.in_ok-ticks.ticks.items c.args.last c.args.idles.now c.requires.most c.requires.meant c.requires.fit
    c.requires.free c.requires.rising c.in_ok-add_receives.ensures.grown c.as_slice.result.now c.deref.result.now
    c.in_ok-ticks.ensures c.as_slice.ensures.value c.deref.ensures.value).first

pub ordered_by_ticks-requires-clause-within : goal.ordered_by_ticks-requires-clause-within
ordered_by_ticks-requires-clause-within c =
    (fit-slices c.args.n c.args.events.now.items c.add_receives.new.events.items c.args.ticks.items
    c.in_ok-ticks.ticks.items c.args.last c.args.idles.now c.requires.most c.requires.meant c.requires.fit
    c.requires.free c.requires.rising c.in_ok-add_receives.ensures.grown c.as_slice.result.now c.deref.result.now
    c.in_ok-ticks.ensures c.as_slice.ensures.value c.deref.ensures.value).within
