use Rattle.std.proofs.Common.{◌≡◌, ◌<◌, length, get_or, false, arith, rules}
use Rattle.csv.specs.Writing.{needs_byte}
use Rattle.trace_text.specs.RecordWriting.{our_writer}
use Rattle.event_log.proofs.PlainLines.{plain-longer}
use Rattle.event_log.proofs.plain_lines.plain_field.Goals as goal

pub loop-byte-preserved : goal.loop-byte-preserved
loop-byte-preserved c =
    let inv = c.loop-byte.invariant in
    let text = c.args.text.now in
    let end = c.loop-byte.end in
    let within : end < length text = search rules in
    let plain : needs_byte our_writer (get_or text end 0) ≡ false = search rules in
    (omega arith, omega arith, plain-longer text c.args.at end inv.0 within plain inv.2)
