use Rattle.std.proofs.Common.{refl}
use Rattle.event_log.proofs.option_texts.told_width.Goals as goal

pub returns-in-Some-clause-refused : goal.returns-in-Some-clause-refused
returns-in-Some-clause-refused c = λ e. (c.in-Some.text.now, rw c.in-Some.is refl, c.read_width.ensures.none e)
