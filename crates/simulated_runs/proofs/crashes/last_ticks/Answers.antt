use Rattle.std.proofs.Common.{arith}
use Rattle.std.proofs.lemmas.Grind.{common_steps}
use Rattle.simulated_runs.proofs.Processors.{lasts-more}
use Rattle.simulated_runs.proofs.crashes.last_ticks.Goals as goal

pub loop-i-preserved : goal.loop-i-preserved
loop-i-preserved c = grind (arith, common_steps, lasts-more c.args.crashes.now c.loop-i.i)
