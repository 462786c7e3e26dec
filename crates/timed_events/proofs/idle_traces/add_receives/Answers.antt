use Rattle.std.proofs.Common.{◌+◌, take, sym, subst, arith}
use Rattle.timed_events.specs.IdleTraces.{IsGrown}
use Rattle.timed_events.proofs.IdleEvents.{grown-next}
use Rattle.timed_events.proofs.idle_traces.add_receives.Goals as goal

pub loop-idle-preserved : goal.loop-idle-preserved
loop-idle-preserved c = record {
  grown = subst (λ xs. IsGrown c.reserve.new.self.items (take (c.loop-idle.idle-index + 1) c.args.idles.now) xs)
      (sym c.push_reserved.ensures.items)
      (grown-next c.reserve.new.self.items c.loop-idle.events.items c.args.idles.now c.loop-idle.idle-index _
      c.receive_of_nothing.result c.loop-idle-test.true c.loop-idle.invariant.grown c.receive_of_nothing.ensures);
  len = (let a = c.push_reserved.ensures.len in let b = c.loop-idle.invariant.len in omega arith);
  room = (let a = c.push_reserved.ensures.capacity in let b = c.loop-idle.invariant.room in omega arith);
}
