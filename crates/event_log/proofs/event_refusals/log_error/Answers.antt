use Rattle.std.proofs.Common.{subst, sym, ap, ◌∙◌}
use Rattle.timed_events.specs.declared.idle_traces.IdleError.TheVariants as filled
use Rattle.event_log.specs.EventRefusals.{IsBehindCycle}
use Rattle.event_log.proofs.event_refusals.log_error.Goals as goal

pub error_of-requires-clause-behind : goal.error_of-requires-clause-behind
error_of-requires-clause-behind c = λ i e. subst (λ events. IsBehindCycle events i)
    (sym c.as_slice.ensures.value) (c.requires.behind i (c.in-Events.is ∙ ap filled.Events e))
