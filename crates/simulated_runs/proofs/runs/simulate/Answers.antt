use Rattle.std.proofs.Common.{◌<◌, ◌∙◌, sym, subst, arith}
use Rattle.simulated_runs.proofs.Common.{Setup, IsSetup, StepBeforeCrashes}
use Rattle.step_buffers.specs.Progress.{Progress}
use Rattle.simulated_runs.proofs.LastTicks.{live-some}
use Rattle.simulated_runs.proofs.StepsMade.{HasRun-stepped, some-up, turns-up}
use Rattle.simulated_runs.proofs.KeptBounds.{DeltaHolds-kept, PhiHolds-kept}
use Rattle.simulated_runs.proofs.runs.simulate.Goals as goal

pub step-requires-clause-some : goal.step-requires-clause-some
step-requires-clause-some c =
    let o = c.args.options in
    let r = c.loop.invariant.run in
    let early : c.loop.counter < 1000000 = let room = o.room in omega arith in
    some-up o.config o.crashes.items o.bounds c.loop.simulation c.loop.counter r early
    (live-some o.config o.crashes.items (subst (λ (d : Setup). IsSetup d) r.config r.ready.setup) o.most)

pub step-requires-clause-turns : goal.step-requires-clause-turns
step-requires-clause-turns c =
    let o = c.args.options in
    let early : c.loop.counter < 1000000 = let room = o.room in omega arith in
    turns-up o.config o.crashes.items o.bounds c.loop.simulation c.loop.counter c.loop.invariant.run early

pub loop-preserved : goal.loop-preserved
loop-preserved c =
    let o = c.args.options in
    let e = c.in_ok-step.ensures in
    record {
      run = HasRun-stepped o.config o.crashes.items o.bounds
          c.loop.simulation c.step.new.self c.loop.counter c.loop.invariant.run e.stepped e.ready e.lasts e.gst e.phi e.bounds e.delta;
      limit = e.limit ∙ c.loop.invariant.limit;
    }

pub returns-clause-crashed : goal.returns-clause-crashed
returns-clause-crashed c = subst (λ (w : Progress). StepBeforeCrashes c.args.options.crashes.items w.trace.steps)
    (sym c.ended.ensures.world) c.loop.invariant.run.crashed

pub returns-clause-phi : goal.returns-clause-phi
returns-clause-phi c =
    let o = c.args.options in
    let s = c.loop.simulation in
    PhiHolds-kept o.config o.crashes.items o.bounds s.turns.queue.items c.ended.result.trace c.ended.ensures.one_per_tick
    (rw c.ended.ensures.world c.loop.invariant.run.phi)

pub returns-clause-delta : goal.returns-clause-delta
returns-clause-delta c = DeltaHolds-kept c.args.options.bounds
    c.loop.simulation.post.trays.items c.ended.result.trace c.ended.ensures.one_per_tick
    (rw c.ended.ensures.world c.loop.invariant.run.delta)
