use Rattle.std.proofs.Common.{◌∙◌, ap, subst}
use Rattle.std.specs.Cow.{cow_slice_items}
use Rattle.event_log.specs.Imports.{IsImportOf, IsLogRefusal}
use Rattle.log_windows.specs.Lists.{may_list}
use Rattle.log_windows.specs.LogWindows.{IsSpreadOf}
use Rattle.log_windows.specs.WindowImports.{IsWindowImport, IsWindowImportRefusal}
use Rattle.log_windows.proofs.ListedLogs.{spread-err, spread-ok}
use Rattle.log_windows.proofs.logs.log_import.Goals as goal

pub returns-clause-import : goal.returns-clause-import
returns-clause-import g c =
    let o = c.args.options.now in
    let text = cow_slice_items c.args.text in
    spread-ok (λ import w. IsWindowImport o w import) (IsImportOf o text) text c.in_ok-log.log _
    (c.if-not-may_list.ensures ∙ ap may_list c.deref.ensures.value)
    (subst (λ t. IsSpreadOf t c.in_ok-log.log) c.deref-2.ensures.value c.in_ok-log.ensures.log)
    c.window_import.ensures.import

pub returns-clause-refused : goal.returns-clause-refused
returns-clause-refused g c =
    let o = c.args.options.now in
    let text = cow_slice_items c.args.text in
    spread-err (λ why w. IsWindowImportRefusal o w why) (IsLogRefusal o text) text c.in_ok-log.log _
    (c.if-not-may_list.ensures ∙ ap may_list c.deref.ensures.value)
    (subst (λ t. IsSpreadOf t c.in_ok-log.log) c.deref-2.ensures.value c.in_ok-log.ensures.log)
    c.window_import.ensures.refused
