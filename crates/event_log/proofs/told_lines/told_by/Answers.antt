use Rattle.event_log.specs.LogRecords.{said}
use Rattle.event_log.proofs.ToldLines.{told-by}
use Rattle.event_log.proofs.told_lines.told_by.Goals as goal

pub returns : goal.returns
returns c number = rw (c.bytes.ensures, c.bytes-2.ensures, c.bytes-3.ensures)
    (told-by c.args.rules.now c.args.line.now (said c.in-Ok.field-0) number c.in-Ok.ensures)
