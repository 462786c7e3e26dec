use Rattle.std.proofs.Common.{option_map}
use Rattle.std.proofs.lemmas.Result.{err_from_is_err_and}
use Rattle.command_line.proofs.SimulationFaults.{of_crashes}
use Rattle.command_line.proofs.jobs.simulate.simulation.Goals as goal

pub returns-in_err-are_possible-clause-refused : goal.returns-in_err-are_possible-clause-refused
returns-in_err-are_possible-clause-refused c =
    let p = err_from_is_err_and c.from_residual-in_err-are_possible.result c.from_residual-in_err-are_possible.ensures.1 in
    rw (p.1, p.2) (of_crashes c.args.numbers c.args.values.now (option_map (λ text. text.now) c.args.schedule)
    (option_map (λ text. text.now) c.args.crash) c.in_err-are_possible.field-0.0
    c.in_ok-schedule.schedule c.in_ok-schedule.ensures.schedule
    c.in_ok-crashes.crashes.items c.in_ok-crashes.ensures.crashes
    c.in_ok-config.config c.in_ok-config.ensures.config
    (rw (c.live_count-live.ensures.count, c.deref.ensures.value) at c.in_ok-bounds.ensures.none_refused)
    (rw c.deref-2.ensures.value at c.in_err-are_possible.ensures.refused))
