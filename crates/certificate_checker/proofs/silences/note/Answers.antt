use Rattle.std.proofs.Common.{IsTrue, ◌∙◌, refl, sym, length, arith}
use Rattle.std.proofs.lemmas.Option.{slice_get_read}
use Rattle.step_trace.proofs.StepPositions.{with_act}
use Rattle.certificate_checker.proofs.Common.{has_proc, IsStepOf}
use Rattle.certificate_checker.proofs.SilenceSteps.{KnowsSilence-own, KnowsSilences-note, KnowsSilences-other}
use Rattle.certificate_checker.proofs.silences.note.Goals as goal

pub returns-in_ok-note : goal.returns-in_ok-note
returns-in_ok-note c =
    let t = c.args.trace.now in
    let step = c.step_of-step.result.now in
    let silences = c.args.silences.now.items in
    let within = (c.step_of-step.ensures.sound.procs c.args.no step c.step_of-step.ensures.step).1 in
    let long = c.requires.known.long in
    let own : IsStepOf t.steps c.args.no step.proc =
    (step.act, with_act t.steps c.args.no step step.act c.step_of-step.ensures.step refl) in
    let member : IsTrue (has_proc c.args.set step.proc) = sym c.contains.ensures ∙ c.if-contains.true in
    let before = c.requires.known.each step.proc c.index_mut.result.now member (slice_get_read silences
    (length silences) step.proc c.index_mut.result.now refl (omega (arith, long, within)) c.index_mut.ensures.value) in
    KnowsSilences-note c.args.set t c.args.no step.proc silences c.note.new.self own
    (KnowsSilence-own t step.proc c.args.no c.tick.result
    c.index_mut.result.now c.note.new.self c.tick.ensures.timed own c.tick.ensures.value c.in_ok-note.ensures before)
    c.requires.known

pub returns-else-contains : goal.returns-else-contains
returns-else-contains c =
    let t = c.args.trace.now in
    let step = c.step_of-step.result.now in
    let own : IsStepOf t.steps c.args.no step.proc =
    (step.act, with_act t.steps c.args.no step step.act c.step_of-step.ensures.step refl) in
    KnowsSilences-other c.args.set t c.args.no step.proc c.args.silences.now.items own
    (λ member. cc (member, c.contains.ensures, c.if-contains.false)) c.requires.known
