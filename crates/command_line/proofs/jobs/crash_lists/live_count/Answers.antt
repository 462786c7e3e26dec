use Rattle.std.proofs.Common.{arith}
use Rattle.std.proofs.lemmas.Grind.{common_steps}
use Rattle.command_line.proofs.LiveProcessors.{live_count-more}
use Rattle.command_line.proofs.jobs.crash_lists.live_count.Goals as goal

pub loop-i-preserved : goal.loop-i-preserved
loop-i-preserved c = grind (arith, common_steps, live_count-more c.args.crashes.now c.loop-i.i)
