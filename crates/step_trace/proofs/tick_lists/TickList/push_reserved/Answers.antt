use Rattle.step_trace.proofs.KeptTicks.{numbers-pushed}
use Rattle.step_trace.proofs.tick_lists.TickList.push_reserved.Goals as goal

pub returns-then-is_next_number : goal.returns-then-is_next_number
returns-then-is_next_number c =
    let next = c.is_next_number.ensures.0 c.if-is_next_number.true in
    rw next.numbered (numbers-pushed c.args.self.now.by_number c.args.tick next.next)
