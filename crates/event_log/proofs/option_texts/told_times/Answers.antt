use Rattle.std.proofs.Common.{rules}
use Rattle.event_log.proofs.ToldTimes.{told-unit, told-until, told-width}
use Rattle.event_log.proofs.option_texts.told_times.Goals as goal

pub returns-in_default-told_idle-clause-refused : goal.returns-in_default-told_idle-clause-refused
returns-in_default-told_idle-clause-refused c = (
  told-unit _ c.in-Some.unit c.in-Some.ensures.unit,
  told-width _ c.in-Some-told_width.width c.in-Some-told_width.ensures.width,
  told-until _ c.in-Some-told_end.until c.in-Some-told_end.ensures.end,
  search rules,
)
