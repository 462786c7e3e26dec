use Rattle.std.proofs.Common.{sym, subst, ◌∙◌}
use Rattle.step_trace.specs.Ticks.{IsTrace}
use Rattle.step_trace.proofs.TickReasons.{CanAppend-from_none, IsAnswered-from_some}
use Rattle.step_trace.proofs.traces.Trace.push_at.Goals as goal

pub append-requires : goal.append-requires
append-requires c = CanAppend-from_none c.args.self.now c.args.tick c.args.step c.refusal.ensures.sound
    (sym c.refusal.ensures.exact ∙ c.in_default.is)

pub returns-in-Some-clause-justified : goal.returns-in-Some-clause-justified
returns-in-Some-clause-justified c = (IsAnswered-from_some c.args.self.now c.args.tick c.args.step c.in-Some.why c.refusal.ensures.sound
    (sym c.refusal.ensures.exact ∙ c.in-Some.is)).justified

pub returns-in-Some-clause-refused : goal.returns-in-Some-clause-refused
returns-in-Some-clause-refused c = (IsAnswered-from_some c.args.self.now c.args.tick c.args.step c.in-Some.why c.refusal.ensures.sound
    (sym c.refusal.ensures.exact ∙ c.in-Some.is)).refused

pub returns-in-Some-clause-least : goal.returns-in-Some-clause-least
returns-in-Some-clause-least c = (IsAnswered-from_some c.args.self.now c.args.tick c.args.step c.in-Some.why c.refusal.ensures.sound
    (sym c.refusal.ensures.exact ∙ c.in-Some.is)).least

pub returns-in-Err-clause-justified : goal.returns-in-Err-clause-justified
returns-in-Err-clause-justified c =
    CanAppend-from_none c.args.self.now c.args.tick c.args.step c.refusal.ensures.sound (sym c.refusal.ensures.exact ∙ c.in_default.is)

pub returns-in-Ok-clause-well_formed : goal.returns-in-Ok-clause-well_formed
returns-in-Ok-clause-well_formed c =
    let append = CanAppend-from_none c.args.self.now c.args.tick c.args.step c.refusal.ensures.sound
    (sym c.refusal.ensures.exact ∙ c.in_default.is) in
    subst IsTrace (sym c.in-Ok.ensures.appended) append.sound
