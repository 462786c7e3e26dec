use Rattle.std.proofs.Common.{sym, subst}
use Rattle.std.specs.Prelude.{Contains}
use Rattle.run_page.proofs.EvidenceWindows.{window-inside}
use Rattle.run_page.proofs.evidence_ticks.evidence_window.Goals as goal

pub returns-clause-inside : goal.returns-clause-inside
returns-clause-inside c = λ set report.
    let first = c.in-Some.first.now in
    let found = c.in-Some.ensures.lookup in
    let in_list : Contains c.deref.result.now first = (0, found.3.0, sym (found.3.1 first)) in
    let contained : Contains c.in_ok-evidence.evidence.items first = subst (λ xs. Contains xs first) c.deref.ensures.value in_list in
    rw (c.drawn_of.ensures, c.last_tick.ensures.value, c.core_of-core.ensures)
    (window-inside set c.args.trace.now c.args.rows.now
    c.last_tick.ensures.timed report c.in_ok-evidence.evidence.items c.in_ok-evidence.ensures first contained c.taker_of.result)
