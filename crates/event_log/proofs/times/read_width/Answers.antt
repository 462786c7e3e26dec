use Rattle.std.proofs.Common.{refl}
use Rattle.event_log.proofs.TimeTexts.{no-width}
use Rattle.event_log.proofs.times.read_width.Goals as goal

pub returns-in_err-nanoseconds-clause-none : goal.returns-in_err-nanoseconds-clause-none
returns-in_err-nanoseconds-clause-none c =
    let same = c.as_bytes.ensures.value in
    let number = c.number.ensures in
    let none = c.in_default.is in
    λ e. no-width c.args.text.now (cc) (c.in_err-nanoseconds.ensures.none refl)
