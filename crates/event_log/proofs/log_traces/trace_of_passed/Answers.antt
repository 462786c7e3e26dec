use Rattle.std.proofs.Common.{ℕ, List, ◌∙◌, ap, sym, length}
use Rattle.step_trace.specs.Traces.{Recorded}
use Rattle.event_log.proofs.StepPlaces.{filled-long, places-long}
use Rattle.event_log.proofs.log_traces.trace_of_passed.Goals as goal

pub returns-in_ok-placed-in-None-Plain-clause-long : goal.returns-in_ok-placed-in-None-Plain-clause-long
returns-in_ok-placed-in-None-Plain-clause-long c =
    let placed = c.in_ok-placed-in-None-Plain.placed in
    let is = c.in_ok-placed-in-None-Plain.ensures in
    ap (λ (xs : List ℕ). length xs) c.plain_trace.ensures.places
    ∙ places-long c.args.how.spread c.args.n c.as_slice.result.now c.args.how.clock placed.timed placed.places.items is.trace is.places
    ∙ sym (ap (λ (t : Recorded). length t.steps) c.plain_trace.ensures.trace)

pub returns-in_ok-placed-in-Some-Filled-clause-long : goal.returns-in_ok-placed-in-Some-Filled-clause-long
returns-in_ok-placed-in-Some-Filled-clause-long c =
    let placed = c.in_ok-placed-in-Some-Filled.placed in
    let is = c.in_ok-placed-in-Some-Filled.ensures in
    ap (λ (xs : List ℕ). length xs) c.filled_trace.ensures.places
    ∙ filled-long c.args.how.spread c.args.n c.args.events.now.items
    c.args.how.clock c.in-Some-Filled.limit placed.timed c.idle_trace.new.events.items placed.places.items is.trace is.places
    ∙ sym (ap (λ (t : Recorded). length t.steps) c.filled_trace.ensures.trace)
