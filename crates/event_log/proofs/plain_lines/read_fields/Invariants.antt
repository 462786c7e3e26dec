use Rattle.std.proofs.Common.{◌-◌, length, map}
use Rattle.event_log.proofs.PlainLines.{BeginsLine}
use Rattle.event_log.proofs.plain_lines.read_fields.Given as goal

abbrev pub invariant-loop-found : goal.invariant-loop-found
invariant-loop-found l = BeginsLine l.fn.text l.fn.at l.from (map (λ field. field.now) l.fields.items)

abbrev pub decreases-loop-found : goal.decreases-loop-found
decreases-loop-found l = length l.fn.text - l.from
