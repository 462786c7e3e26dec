use Rattle.timed_events.specs.Times.{times_refusal}
use Rattle.event_log.proofs.TakenEvents.{times-reason}
use Rattle.event_log.proofs.taken_events.merged_in.Goals as goal

pub returns-in-Err-clause-refused : goal.returns-in-Err-clause-refused
returns-in-Err-clause-refused c = times-reason c.in-Err.why
    (times_refusal c.args.events.items c.args.clock.now) c.times_error.result c.in-Err.ensures.refused c.times_error.ensures
