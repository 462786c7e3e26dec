use Rattle.std.proofs.Common.{◌≤◌, inl, inr, arith}
use Rattle.step_trace.specs.declared.traces.TheConstants.{MAX_TICKS}
use Rattle.step_trace.specs.Cuts.{front_to}
use Rattle.step_trace.proofs.TraceFronts.{IsTrace-front, IsCutAt-front, one_cut}
use Rattle.step_trace.proofs.traces.Trace.until.Goals as goal

pub returns-clause-cut : goal.returns-clause-cut
returns-clause-cut c =
    let n = c.steps_until-count.result in
    let e = c.steps_until-count.ensures in
    let cut = IsCutAt-front c.args.self.now n c.args.tick e.sound e.inside c.requires e.after in
    rw (c.in-Ok.ensures.passed, c.in_ok-cut.ensures) cut

pub returns-clause-sound : goal.returns-clause-sound
returns-clause-sound c =
    let n = c.steps_until-count.result in
    let e = c.steps_until-count.ensures in
    let high : c.args.tick ≤ MAX_TICKS = (let l = c.requires in let m = e.sound.time.end in omega (arith, l, m)) in
    rw (c.in-Ok.ensures.passed, c.in_ok-cut.ensures) (IsTrace-front c.args.self.now n c.args.tick e.sound e.inside e.before high)

pub returns-clause-only : goal.returns-clause-only
returns-clause-only c = λ other time is.
    let n = c.steps_until-count.result in
    let e = c.steps_until-count.ensures in
    let high : c.args.tick ≤ MAX_TICKS = (let l = c.requires in let m = e.sound.time.end in omega (arith, l, m)) in
    let cut = IsCutAt-front c.args.self.now n c.args.tick e.sound e.inside c.requires e.after in
    let sound = IsTrace-front c.args.self.now n c.args.tick e.sound e.inside e.before high in
    rw (c.in-Ok.ensures.passed, c.in_ok-cut.ensures)
    (one_cut c.args.self.now other (front_to c.args.self.now n c.args.tick) c.args.tick time sound.time is cut)

pub unreachable-requires : goal.unreachable-requires
unreachable-requires c =
    let e = c.steps_until-count.ensures in
    let l = c.requires in let m = e.sound.time.end in let b = e.before in let r = c.in-Err.ensures.refused in
    let q = rw c.in_ok-cut.ensures at r in
    elim q [ inl x ↦ omega (arith, x, b) | inr x ↦ omega (arith, x, l, m) ]
