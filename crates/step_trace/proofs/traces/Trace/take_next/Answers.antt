use Rattle.std.proofs.Common.{◌∙◌, sym}
use Rattle.step_trace.proofs.TraceFronts.{no_missing, next_fits}
use Rattle.step_trace.proofs.NamedReasons.{only_memory}
use Rattle.step_trace.proofs.traces.Trace.take_next.Goals as goal

pub unreachable-requires : goal.unreachable-requires
unreachable-requires c = no_missing c.args.other.now.steps c.args.no c.requires.low c.requires.high c.in_default.ensures.value

pub want_of_memory-requires : goal.want_of_memory-requires
want_of_memory-requires c =
    let next = next_fits c.args.other.now c.args.self.now c.args.no c.tick.result c.in-Some.step.now
    (record { steps = c.step.ensures.sound; time = c.tick.ensures.timed }) c.requires.low c.in-Some.ensures.value
    c.requires.front c.tick.ensures.value in
    only_memory c.in-Err.why _ (rw c.in_ok-copy_of.ensures next.0) c.in-Err.ensures.refused

pub returns-in-Ok : goal.returns-in-Ok
returns-in-Ok c =
    let next = next_fits c.args.other.now c.args.self.now c.args.no c.tick.result c.in-Some.step.now
    (record { steps = c.step.ensures.sound; time = c.tick.ensures.timed }) c.requires.low c.in-Some.ensures.value
    c.requires.front c.tick.ensures.value in
    c.in-Ok.ensures.appended ∙ sym (rw c.in_ok-copy_of.ensures next.1)
