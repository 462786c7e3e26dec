use Rattle.std.proofs.Common.{rules, arith}
use Rattle.std.proofs.lemmas.Grind.{common_steps}
use Rattle.timed_events.specs.Times.{greatest_time}
use Rattle.event_log.proofs.tick_rows.greatest_time.Goals as goal

pub returns : goal.returns
unfolding greatest_time
returns c = first_of (search rules, grind (arith, common_steps))
