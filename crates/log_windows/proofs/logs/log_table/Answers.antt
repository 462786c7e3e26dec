use Rattle.event_log.specs.declared.step_tables.LogTable.{LogTable}
use Rattle.event_log.specs.Imports.{IsLogRefusal}
use Rattle.event_log.specs.StepTables.{IsTableOf}
use Rattle.log_windows.specs.WindowImports.{IsWindowImportRefusal, IsWindowTable}
use Rattle.log_windows.proofs.ListedLogs.{spread-err, spread-ok}
use Rattle.log_windows.proofs.logs.log_table.Goals as goal

pub returns-clause-table : goal.returns-clause-table
returns-clause-table c =
    let o = c.args.options.now in
    let text = c.args.text.now in
    spread-ok (λ (t : LogTable) w. IsWindowTable o w t.import t.table.items)
    (λ (t : LogTable). IsTableOf o text t.import t.table.items) text c.in_ok-log.log _
    c.if-not-may_list.ensures c.in_ok-log.ensures.log c.window_table.ensures.table

pub returns-clause-refused : goal.returns-clause-refused
returns-clause-refused c =
    let o = c.args.options.now in
    let text = c.args.text.now in
    spread-err (λ why w. IsWindowImportRefusal o w why)
    (IsLogRefusal o text) text c.in_ok-log.log _ c.if-not-may_list.ensures c.in_ok-log.ensures.log c.window_table.ensures.refused
