use Rattle.std.proofs.Common.{ap, ◌∙◌}
use Rattle.timed_events.specs.declared.idle_traces.IdleError.TheVariants as filled
use Rattle.event_log.proofs.left_refusals.left_error.Goals as goal

pub event_error-requires-clause-behind : goal.event_error-requires-clause-behind
event_error-requires-clause-behind c = λ i e. c.requires.behind i (c.in-Events.is ∙ ap filled.Events e)
