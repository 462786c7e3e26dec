use Rattle.std.proofs.Common.{◌≡◌, ◌+◌, ap, subst}
use Rattle.std.specs.Prelude.{OnOk}
use Rattle.step_trace.specs.Traces.{Recorded}
use Rattle.step_trace.specs.Ticks.{IsTrace, with_step}
use Rattle.step_trace.proofs.TickReasons.{next_refusal-by_number, IsOnePerTick-appended}
use Rattle.step_trace.proofs.traces.Trace.push.Goals as goal

pub returns-clause-by_number : goal.returns-clause-by_number
returns-clause-by_number c = λ one. next_refusal-by_number c.args.self.now c.args.step
    (subst (λ t. IsTrace t) c.self.view_is c.self.invariant.0) one

pub returns-clause-one_per_tick : goal.returns-clause-one_per_tick
returns-clause-one_per_tick c = λ one.
    let last = ap (λ (t : Recorded). t.last) c.self.view_is in
    let appended = subst (λ n. OnOk c.push_at.result (c.push_at.new.self ≡ with_step c.args.self.now (n + 1) c.args.step))
    last c.push_at.ensures.appended in
    IsOnePerTick-appended c.args.self.now c.args.step
    (subst (λ t. IsTrace t) c.self.view_is c.self.invariant.0) one c.push_at.result c.push_at.new.self appended
