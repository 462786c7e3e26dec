use Rattle.std.proofs.Common.{refl}
use Rattle.event_log.specs.declared.refusals.LogError.TheVariants.{Memory}
use Rattle.log_windows.specs.declared.devices.WindowError.TheVariants as unread
use Rattle.log_windows.proofs.PartsTaken.{unfilled}
use Rattle.log_windows.proofs.devices.take_rows_from.Goals as goal

pub returns-in_default-from_slice-clause-refused : goal.returns-in_default-from_slice-clause-refused
returns-in_default-from_slice-clause-refused g c = unfilled g.T.TakeRows.next c.args.taker.now _ (unread.Log Memory) refl
