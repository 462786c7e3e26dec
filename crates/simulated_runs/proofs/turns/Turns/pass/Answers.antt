use Rattle.simulated_runs.proofs.PassedTurns.{ArePassed-made}
use Rattle.simulated_runs.proofs.turns.Turns.pass.Goals as goal

pub returns-in-Some-clause-passed : goal.returns-in-Some-clause-passed
returns-in-Some-clause-passed c =
    let s = c.args.self.now in
    ArePassed-made s.gst s.phi c.args.tick c.args.p c.in-Some.place s.queue.items c.move_back.new.queue.items
    c.move_back.result (rw c.deref.ensures.value at c.in-Some.ensures.within)
    (rw c.deref.ensures.value at c.in-Some.ensures.found)
    (rw c.max.ensures at c.move_back.ensures)
