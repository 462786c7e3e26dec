use Rattle.std.proofs.Common.{◌≡◌, ap, subst}
use Rattle.step_trace.specs.Steps.{act_ids}
use Rattle.step_trace.specs.Ticks.{IsTrace}
use Rattle.step_trace.proofs.FittingTicks.{FitsIn-from_append}
use Rattle.step_trace.proofs.Growth.{IsIndex-push}
use Rattle.step_trace.proofs.TickReasons.{known_from_fits}
use Rattle.step_trace.proofs.traces.Trace.append.Goals as goal

pub append_flag-requires-clause-known : goal.append_flag-requires-clause-known
append_flag-requires-clause-known c =
    let ids : c.last_ids.result.now ≡ act_ids c.args.step.act =
    c.last_ids.ensures c.self.inside.placed.steps c.args.step (ap (λ p. p.steps) c.in_ok-push.ensures.ok) in
    let sound = subst IsTrace c.self.view_is c.self.invariant.0 in
    let fits = FitsIn-from_append c.args.self.now c.args.tick c.args.step sound c.requires in
    let known = rw (← c.self.view_is) at (known_from_fits c.args.self.now c.args.tick c.args.step fits) in
    rw (ids, c.in_ok-reserve.ensures.items, c.self.invariant.1.long) known

pub invariant_of-self-2 : goal.invariant_of-self-2
invariant_of-self-2 c =
    let ids : c.last_ids.result.now ≡ act_ids c.args.step.act =
    c.last_ids.ensures c.self.inside.placed.steps c.args.step (ap (λ p. p.steps) c.in_ok-push.ensures.ok) in
    let sound = rw (← c.self.view_is) at c.requires.sound in
    let flags = rw (c.in_ok-reserve.ensures.items, ids) at c.append_flag.ensures.flags in
    let len = rw c.in_ok-reserve.ensures.items at c.append_flag.ensures.len in
    let index = IsIndex-push c.self.inside.placed.steps
    c.args.step c.self.inside.taken.items c.append_flag.new.taken.items c.self.invariant.1 len flags in
    rw c.in_ok-push.ensures.ok (sound, index)
