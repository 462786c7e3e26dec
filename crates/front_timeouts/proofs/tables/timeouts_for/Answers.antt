use Rattle.std.proofs.Common.{sym, ◌∙◌}
use Rattle.front_timeouts.proofs.AskedRows.{AreRows-one}
use Rattle.front_timeouts.proofs.tables.timeouts_for.Goals as goal

pub row_timeouts-requires-clause-rows : goal.row_timeouts-requires-clause-rows
row_timeouts-requires-clause-rows c = AreRows-one c.args.set c.args.trace.now c.args.report.now
    c.in-Some.tick c.in-Some-at.row c.last_tick-last.ensures.timed c.requires.report (sym c.at.ensures.row ∙ c.in-Some-at.is)

pub unreachable-requires : goal.unreachable-requires
unreachable-requires c =
    let inside = rw c.in-Some.is at c.requires.at in
    rw c.in-None.is at (c.at.ensures.serves c.args.set
    c.args.trace.now c.last_tick-last.ensures.timed c.requires.report c.requires.len inside.0 (rw (sym c.requires.len) at inside.1))
