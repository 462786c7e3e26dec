use Rattle.std.proofs.Common.{◌-◌, IsTrue, set, sym, arith}
use Rattle.step_trace.specs.Processors.{has_proc}
use Rattle.suffix_staircase.specs.NextSteps.{AreNextTicks}
use Rattle.suffix_staircase.proofs.NextSteps.{AreNextTicks-back, IsLatest-kept, next_tick_above}
use Rattle.suffix_staircase.proofs.next_steps.NextSteps.step_back.Goals as goal
use Rattle.suffix_staircase.proofs.next_steps.NextSteps.step_back.Goals.{After-step_of}

-- the next steps with that of the processor whose step it is
known_next : (c : After-step_of) → AreNextTicks (λ p. IsTrue (has_proc c.args.set p)) c.args.trace.now
    (c.args.no - 1) (set c.args.self.now.by_processor.items c.step_of.result.now.proc c.args.tick)
known_next c =
    let proc = c.step_of.ensures.sound.procs c.args.no c.step_of.result.now c.step_of.ensures.step in
    rw c.requires.tick
    (AreNextTicks-back (λ p. IsTrue (has_proc c.args.set p)) c.args.trace.now c.requires.timed
    c.args.no c.step_of.result.now c.args.self.now.by_processor.items proc.0 proc.1 c.step_of.ensures.step c.requires.known.next)

pub index_mut-requires : goal.index_mut-requires
index_mut-requires c =
    let proc = c.step_of.ensures.sound.procs c.args.no c.step_of.result.now c.step_of.ensures.step in
    omega (arith, proc, c.requires.known.next.long, c.args.self.now.by_processor.ok.0)

pub returns-then-proc-self : goal.returns-then-proc-self
returns-then-proc-self c = record {
  next = known_next (goal.at.returns-then-proc-self c).After-step_of;
  latest = rw c.deref.ensures.value at c.latest_member-self.ensures;
}

pub returns-else-proc-self : goal.returns-else-proc-self
returns-else-proc-self c =
    let proc = c.step_of.ensures.sound.procs c.args.no c.step_of.result.now c.step_of.ensures.step in
    let known = c.requires.known.next in
    let later = next_tick_above c.args.trace.now c.requires.timed c.step_of.result.now.proc c.args.no _
    c.step_of.result.now c.step_of.ensures.step
    (known.each c.step_of.result.now.proc proc.0 proc.1
    (c.requires.member c.step_of.result.now c.step_of.ensures.step)) in
    record {
      next = known_next (goal.at.returns-else-proc-self c).After-step_of;
      latest = IsLatest-kept c.args.set c.args.self.now.latest c.step_of.result.now.proc c.args.tick c.args.self.now.by_processor.items
          (λ e. c.if-proc-self.false (sym e)) (omega (arith, proc, known.long)) (rw c.requires.tick later) c.requires.known.latest;
    }
