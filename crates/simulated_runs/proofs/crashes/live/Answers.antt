use Rattle.std.proofs.Common.{arith}
use Rattle.std.proofs.lemmas.Grind.{common_steps}
use Rattle.simulated_runs.proofs.Processors.{live-more}
use Rattle.simulated_runs.proofs.crashes.live.Goals as goal

pub loop-i-preserved : goal.loop-i-preserved
loop-i-preserved c = grind (arith, common_steps, live-more c.args.crashes.now c.loop-i.i)
