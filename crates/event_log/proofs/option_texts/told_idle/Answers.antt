use Rattle.std.proofs.Common.{refl}
use Rattle.event_log.proofs.option_texts.told_idle.Goals as goal

pub returns-in-None-clause-refused : goal.returns-in-None-clause-refused
returns-in-None-clause-refused c = λ e. (c.in-Some.text.now, rw c.in-Some.is refl, c.in-None.ensures.none refl)
