use Rattle.std.proofs.Common.{sym}
use Rattle.step_buffers.proofs.NextSends.{IsProc-next_send}
use Rattle.simulated_runs.proofs.moves.move_on.Goals as goal

pub send-requires-clause-receiver : goal.send-requires-clause-receiver
send-requires-clause-receiver c =
    let t = c.args.world.now.trace in
    IsProc-next_send t.config t.steps c.args.p c.in-Some.to (sym c.in-Some.ensures)
