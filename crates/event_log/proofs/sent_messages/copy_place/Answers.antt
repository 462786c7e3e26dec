use Rattle.std.proofs.Common.{sym, arith}
use Rattle.event_log.specs.SentMessages.{copy_of}
use Rattle.event_log.proofs.SentNames.{place_in-none}
use Rattle.event_log.proofs.sent_messages.copy_place.Goals as goal

pub returns-then-len-eq0 : goal.returns-then-len-eq0
returns-then-len-eq0 c = sym (place_in-none c.args.copies.now c.args.copied.now
    (copy_of c.args.to c.args.name.now) (omega (arith, c.len.ensures, c.if-len-eq0.true)))
