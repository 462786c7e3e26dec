use Rattle.std.proofs.Common.{rules}
use Rattle.log_windows.specs.declared.reading.LogWindow.{LogWindow}
use Rattle.text_commands.proofs.WindowFaults.{refused-faultless, refused-unread, unread-rose}
use Rattle.text_commands.proofs.windows.window_from.Goals as goal

pub returns-in-Err-Read-clause-read : goal.returns-in-Err-Read-clause-read
returns-in-Err-Read-clause-read g c = unread-rose LogWindow _ _ c.in-Err-Read.field-0 (search rules) c.in-Err-Read.ensures.faults

pub returns-in-Err-Log-clause-refused : goal.returns-in-Err-Log-clause-refused
returns-in-Err-Log-clause-refused g c = rw c.from.ensures
    (refused-unread c.args.options.now c.args.from _ c.in-Err-Log.field-0 c.in-Err-Log.why (search rules) c.in-Err-Log.ensures.refused)

pub returns-in-Err-Log-clause-read : goal.returns-in-Err-Log-clause-read
returns-in-Err-Log-clause-read g c = rw c.from.ensures
    (refused-faultless LogWindow _ _ c.in-Err-Log.field-0 c.in-Err-Log.why (search rules) c.in-Err-Log.ensures.faults)
