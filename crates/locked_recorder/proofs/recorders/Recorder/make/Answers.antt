use Rattle.std.proofs.Common.{◌≡◌, sym, subst, ◌∙◌, rules}
use Rattle.step_buffers.specs.declared.moves.Move.{Move}
use Rattle.locked_recorder.specs.Recordings.{IsAnswer}
use Rattle.locked_recorder.proofs.Answered.{IsShown-found, IsAnswer-made}
use Rattle.locked_recorder.proofs.SendsFirst.{nothing_to_send_after, IsChosenAnswer-first, IsChosenAnswer-otherwise, IsChosenStepReason-first, IsChosenStepReason-otherwise}
use Rattle.locked_recorder.proofs.recorders.Recorder.make.Goals as goal

pub returns-in-Ok-clause-answered : goal.returns-in-Ok-clause-answered
returns-in-Ok-clause-answered g c =
    let e = c.in-Ok.ensures in
    let own = c.is_world_of.ensures in
    let shown = c.deref.result.now in
    let same : c.deref_mut.result.now ≡ shown = c.deref_mut.ensures.value ∙ sym c.deref.ensures in
    let world = IsShown-found c.args.self.now _ shown c.deref_mut.result.now c.self.view_is same
    (own.same.0 c.if-not-is_world_of.false) own.run own.within own.bounded in
    let made = IsAnswer-made c.args.self.now c.deref_mut.result.now
    c.step.new.self c.args.p c.first_move-first.result c.in-Ok.done world e.ok e.step e.made e.number e.round e.decision e.config in
    IsChosenAnswer-first c.args.self.now c.args.p c.args.sends c.args.step c.in-Ok.done
    (subst (λ (m : Move). IsAnswer c.args.self.now c.args.p m c.in-Ok.done) c.first_move-first.ensures made.0)

pub returns-then-not-sends-clause-refused : goal.returns-then-not-sends-clause-refused
returns-then-not-sends-clause-refused g c =
    let own = c.is_world_of.ensures in
    let shown = c.deref.result.now in
    let same : c.deref_mut.result.now ≡ shown = c.deref_mut.ensures.value ∙ sym c.deref.ensures in
    let world = IsShown-found c.args.self.now _ shown c.deref_mut.result.now c.self.view_is same
    (own.same.0 c.if-not-is_world_of.false) own.run own.within own.bounded in
    IsChosenStepReason-first c.args.self.now c.deref_mut.result.now c.args.p c.args.sends c.args.step c.in-Err.why world
    (λ e n. let off = c.if-not-sends.true in cc)
    (rw c.first_move-first.ensures at c.in-Err.ensures.refused)

pub returns-then-ne-clause-refused : goal.returns-then-ne-clause-refused
returns-then-ne-clause-refused g c =
    let own = c.is_world_of.ensures in
    let shown = c.deref.result.now in
    let same : c.deref_mut.result.now ≡ shown = c.deref_mut.ensures.value ∙ sym c.deref.ensures in
    let world = IsShown-found c.args.self.now _ shown c.deref_mut.result.now c.self.view_is same
    (own.same.0 c.if-not-is_world_of.false) own.run own.within own.bounded in
    IsChosenStepReason-first c.args.self.now c.deref_mut.result.now c.args.p c.args.sends c.args.step c.in-Err.why world (λ e. search rules)
    (rw c.first_move-first.ensures at c.in-Err.ensures.refused)

pub returns-in-Ok-step-clause-answered : goal.returns-in-Ok-step-clause-answered
returns-in-Ok-step-clause-answered g c =
    let e = c.in-Ok-step.ensures in
    let own = c.is_world_of.ensures in
    let shown = c.deref.result.now in
    let still : c.deref_mut-2.result.now ≡ c.deref_mut.result.now = c.deref_mut-2.ensures.value ∙ c.in-Err.ensures.err in
    let same : c.deref_mut-2.result.now ≡ shown = still ∙ c.deref_mut.ensures.value ∙ sym c.deref.ensures in
    let world = IsShown-found c.args.self.now _ shown c.deref_mut-2.result.now c.self.view_is same
    (own.same.0 c.if-not-is_world_of.false) own.run own.within own.bounded in
    let send = rw (c.first_move-first.ensures, c.if-not-sends.false) at c.in-Err.ensures.refused in
    let nothing = nothing_to_send_after c.args.self.now c.deref_mut.result.now c.deref_mut-2.result.now c.args.p c.in-Err.why still world
    (search rules) send in
    rw c.if-not-sends.false
    (IsChosenAnswer-otherwise c.args.self.now c.args.p c.args.step c.in-Ok-step.done c.deref_mut-2.result.now.trace.steps nothing
    (IsAnswer-made c.args.self.now c.deref_mut-2.result.now
    c.step-2.new.self c.args.p c.args.step c.in-Ok-step.done world e.ok e.step e.made e.number e.round e.decision e.config))

pub returns-clause-refused : goal.returns-clause-refused
returns-clause-refused g c =
    let own = c.is_world_of.ensures in
    let shown = c.deref.result.now in
    let still : c.deref_mut-2.result.now ≡ c.deref_mut.result.now = c.deref_mut-2.ensures.value ∙ c.in-Err.ensures.err in
    let same : c.deref_mut-2.result.now ≡ shown = still ∙ c.deref_mut.ensures.value ∙ sym c.deref.ensures in
    let world = IsShown-found c.args.self.now _ shown c.deref_mut-2.result.now c.self.view_is same
    (own.same.0 c.if-not-is_world_of.false) own.run own.within own.bounded in
    let send = rw (c.first_move-first.ensures, c.if-not-sends.false) at c.in-Err.ensures.refused in
    let nothing = nothing_to_send_after c.args.self.now c.deref_mut.result.now c.deref_mut-2.result.now c.args.p c.in-Err.why still world
    (search rules) send in
    rw c.if-not-sends.false (IsChosenStepReason-otherwise c.args.self.now
    c.deref_mut-2.result.now c.args.p c.args.step c.in-Err-step.why world nothing c.in-Err-step.ensures.refused)
