use Rattle.std.proofs.Common.{◌≡◌, sym, subst, ◌∙◌}
use Rattle.step_buffers.specs.Progress.{Progress}
use Rattle.locked_recorder.proofs.Answered.{IsShown-found, IsAnswer-made}
use Rattle.locked_recorder.proofs.PacedSeats.{IsPacedMove, IsPacedAnswer-made, IsPacedStepReason-shown}
use Rattle.locked_recorder.proofs.recorders.Recorder.make_paced.Goals as goal

pub returns-in-Ok-clause-answered : goal.returns-in-Ok-clause-answered
returns-in-Ok-clause-answered g c =
    let e = c.in-Ok.ensures in
    let own = c.is_world_of.ensures in
    let w = c.deref_mut.result.now in
    let same : w ≡ c.deref.result.now = c.deref_mut.ensures.value ∙ sym c.deref.ensures in
    let asked : c.deref-2.result.now ≡ w = c.deref-2.ensures ∙ sym c.deref_mut.ensures.value in
    let world = IsShown-found c.args.self.now _ c.deref.result.now w c.self.view_is same
    (own.same.0 c.if-not-is_world_of.false) own.run own.within own.bounded in
    let move = subst (λ (v : Progress). IsPacedMove v c.args.p c.args.pace.now c.next_move-step.new.pace c.next_move-step.result) asked
    (record { moved = c.next_move-step.ensures.moved; noted = c.next_move-step.ensures.pace }) in
    IsPacedAnswer-made c.args.self.now w c.args.p c.args.pace.now
    c.next_move-step.new.pace c.next_move-step.result c.in-Ok.done world move e.ok
    (IsAnswer-made c.args.self.now w c.step.new.self
    c.args.p c.next_move-step.result c.in-Ok.done world e.ok e.step e.made e.number e.round e.decision e.config)

pub returns-clause-refused : goal.returns-clause-refused
returns-clause-refused g c =
    let own = c.is_world_of.ensures in
    let w = c.deref_mut.result.now in
    let same : w ≡ c.deref.result.now = c.deref_mut.ensures.value ∙ sym c.deref.ensures in
    let asked : c.deref-2.result.now ≡ w = c.deref-2.ensures ∙ sym c.deref_mut.ensures.value in
    let world = IsShown-found c.args.self.now _ c.deref.result.now w c.self.view_is same
    (own.same.0 c.if-not-is_world_of.false) own.run own.within own.bounded in
    let move = subst (λ (v : Progress). IsPacedMove v c.args.p c.args.pace.now c.next_move-step.new.pace c.next_move-step.result) asked
    (record { moved = c.next_move-step.ensures.moved; noted = c.next_move-step.ensures.pace }) in
    IsPacedStepReason-shown c.args.self.now w c.args.p
    c.args.pace.now c.next_move-step.new.pace c.next_move-step.result c.in-Err.why world move c.in-Err.ensures.refused
