use Rattle.std.proofs.Common.{ℕ, ◌<◌, ◌∙◌, length, refl, subst, arith}
use Rattle.std.proofs.lemmas.Grind.{get_or_default_zero}
use Rattle.step_trace.specs.MessageNotes.{AreNoted}
use Rattle.step_trace.proofs.StepPositions.{ids_bound, with_act}
use Rattle.certificate_checker.proofs.ReceiveNotes.{KnowsReceives-send, KnowsReceives-receive}
use Rattle.certificate_checker.proofs.receives.Receives.note.Goals as goal

pub note_messages-requires : goal.note_messages-requires
note_messages-requires c = rw c.as_slice.ensures (ids_bound c.args.trace.now.config
    c.args.trace.now.steps c.args.no _ c.args.self.now.before.items c.step_of-step.ensures.sound (with_act c.args.trace.now.steps
    c.args.no c.step_of-step.result.now _ c.step_of-step.ensures.step c.in-Receive.is) c.requires.known.before_long)

pub returns-in-Receive : goal.returns-in-Receive
returns-in-Receive c =
    let within = (c.step_of-step.ensures.sound.procs c.args.no c.step_of-step.result.now c.step_of-step.ensures.step).1 in
    let long = c.requires.known.last_long in
    let inside : c.step_of-step.result.now.proc < length c.args.self.now.last.items = omega (arith, within, long) in
    let value = c.index.ensures ∙ get_or_default_zero c.args.self.now.last.items c.step_of-step.result.now.proc c.index.result.now inside in
    let notes : AreNoted c.index.result.now c.in-Receive.ids c.args.self.now.before.items c.note_messages.new.notes.items =
    rw c.as_slice.ensures at c.note_messages.ensures.noted in
    KnowsReceives-receive c.args.trace.now c.args.no c.step_of-step.result.now.proc
    c.in-Receive.ids c.in-Receive.ends c.args.self.now _ c.step_of-step.ensures.sound within c.requires.low
    (with_act c.args.trace.now.steps c.args.no c.step_of-step.result.now _ c.step_of-step.ensures.step c.in-Receive.is)
    c.requires.known c.note_messages.ensures.long
    (subst (λ (m : ℕ). AreNoted m c.in-Receive.ids c.args.self.now.before.items c.note_messages.new.notes.items) value notes) refl

pub returns-in_default : goal.returns-in_default
returns-in_default c =
    KnowsReceives-send c.args.trace.now c.args.no c.step_of-step.result.now.proc c.in_default.field-0 c.args.self.now c.requires.low
    (with_act c.args.trace.now.steps c.args.no c.step_of-step.result.now _ c.step_of-step.ensures.step c.in_default.is) c.requires.known
