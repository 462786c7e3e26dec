use Rattle.event_log.specs.declared.tick_tables.TickTable.{TickTable}
use Rattle.event_log.specs.TickTables.{IsTickRefusal, IsTickTable}
use Rattle.log_windows.specs.WindowImports.{IsWindowTicksRefusal}
use Rattle.log_windows.proofs.ListedLogs.{spread-err, spread-ok}
use Rattle.log_windows.proofs.logs.log_ticks.Goals as goal

pub returns-clause-table : goal.returns-clause-table
returns-clause-table c =
    let o = c.args.options.now in
    let text = c.args.text.now in
    spread-ok (λ (t : TickTable) w. IsTickTable o w.text.items t.kind t.rows.items)
    (λ (t : TickTable). IsTickTable o text t.kind t.rows.items) text c.in_ok-log.log _
    c.if-not-may_list.ensures c.in_ok-log.ensures.log c.window_ticks.ensures.table

pub returns-clause-refused : goal.returns-clause-refused
returns-clause-refused c =
    let o = c.args.options.now in
    let text = c.args.text.now in
    spread-err (λ why w. IsWindowTicksRefusal o w why)
    (IsTickRefusal o text) text c.in_ok-log.log _ c.if-not-may_list.ensures c.in_ok-log.ensures.log c.window_ticks.ensures.refused
