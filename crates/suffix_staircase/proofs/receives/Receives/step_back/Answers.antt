use Rattle.std.proofs.Common.{◌∙◌, arith, sym}
use Rattle.step_trace.proofs.StepPositions.{ids_bound, with_act}
use Rattle.suffix_staircase.proofs.ReceivesLowered.{KnowsReceives-send, KnowsReceives-other}
use Rattle.suffix_staircase.proofs.ReceiveNotes.{KnowsReceives-receive}
use Rattle.suffix_staircase.proofs.LastMisses.{IsLastMissByNumber-from_known}
use Rattle.suffix_staircase.proofs.ReceiveBounds.{dest_bound, first_bound, taker_bound}
use Rattle.suffix_staircase.proofs.receives.Receives.step_back.Goals as goal

pub last_missed-requires-clause-to : goal.last_missed-requires-clause-to
last_missed-requires-clause-to c =
    let to = dest_bound c.args.trace.now.config c.args.trace.now.steps c.args.no c.step_of-step.result.now.proc
    c.in-Send.to c.step_of-step.ensures.sound
    (with_act c.args.trace.now.steps c.args.no c.step_of-step.result.now _ c.step_of-step.ensures.step
    c.in-Send.is) in
    omega (arith, to, c.requires.known.last_long)

pub last_missed-requires-clause-taken : goal.last_missed-requires-clause-taken
last_missed-requires-clause-taken c = taker_bound c.args.set c.args.trace.now c.args.no c.args.no c.in-Send.to c.args.self.now
    (sym c.contains-in-Send.ensures ∙ c.if-contains.true) (
      c.step_of-step.result.now.proc,
      with_act c.args.trace.now.steps c.args.no c.step_of-step.result.now _ c.step_of-step.ensures.step c.in-Send.is,
    ) c.requires.known

pub note-requires-clause-ids : goal.note-requires-clause-ids
note-requires-clause-ids c = rw c.as_slice.ensures
    (ids_bound c.args.trace.now.config c.args.trace.now.steps c.args.no _ c.args.self.now.links.items c.step_of-step.ensures.sound
    (with_act c.args.trace.now.steps c.args.no c.step_of-step.result.now _ c.step_of-step.ensures.step
    c.in-Receive.is) c.requires.known.links_long)

pub note-requires-clause-next : goal.note-requires-clause-next
note-requires-clause-next c = first_bound c.args.set c.args.trace.now c.args.no c.step_of-step.result.now.proc
    c.args.self.now c.requires.known
    (c.step_of-step.ensures.sound.procs c.args.no c.step_of-step.result.now c.step_of-step.ensures.step).1
    (sym c.contains.ensures ∙ c.if-not-contains.false)

pub returns-then-not-contains-clause-known : goal.returns-then-not-contains-clause-known
returns-then-not-contains-clause-known c = KnowsReceives-other
    c.args.set c.args.trace.now c.args.no c.step_of-step.result.now c.args.self.now c.step_of-step.ensures.sound c.step_of-step.ensures.step
    (λ member. cc (member, c.contains.ensures, c.if-not-contains.true)) c.requires.known

pub returns-then-contains-clause-known : goal.returns-then-contains-clause-known
returns-then-contains-clause-known c =
    KnowsReceives-send c.args.set c.args.trace.now c.args.no c.step_of-step.result.now.proc c.in-Send.to c.args.self.now
    (with_act c.args.trace.now.steps c.args.no c.step_of-step.result.now _ c.step_of-step.ensures.step c.in-Send.is)
    c.requires.known

pub returns-else-contains-clause-known : goal.returns-else-contains-clause-known
returns-else-contains-clause-known c =
    KnowsReceives-send c.args.set c.args.trace.now c.args.no c.step_of-step.result.now.proc c.in-Send.to c.args.self.now
    (with_act c.args.trace.now.steps c.args.no c.step_of-step.result.now _ c.step_of-step.ensures.step c.in-Send.is)
    c.requires.known

pub returns-then-contains-clause-missed : goal.returns-then-contains-clause-missed
returns-then-contains-clause-missed c =
    let sent = with_act c.args.trace.now.steps c.args.no c.step_of-step.result.now _ c.step_of-step.ensures.step c.in-Send.is in
    rw c.last_missed.ensures
    (IsLastMissByNumber-from_known c.args.set c.args.trace.now c.args.no c.in-Send.to c.args.self.now c.step_of-step.ensures.sound
    (dest_bound c.args.trace.now.config c.args.trace.now.steps
    c.args.no c.step_of-step.result.now.proc c.in-Send.to c.step_of-step.ensures.sound sent)
    (record {
      from = c.step_of-step.result.now.proc;
      sent = sent;
      sender = sym c.contains.ensures
          ∙ c.if-not-contains.false;
      receiver = sym c.contains-in-Send.ensures ∙ c.if-contains.true;
    }) c.requires.known)

pub returns-in-Receive-clause-known : goal.returns-in-Receive-clause-known
returns-in-Receive-clause-known c = KnowsReceives-receive c.args.set c.args.trace.now c.args.no
    c.step_of-step.result.now.proc c.in-Receive.ids c.in-Receive.ends c.args.self.now c.note.new.self
    c.step_of-step.ensures.sound (c.step_of-step.ensures.sound.procs c.args.no c.step_of-step.result.now c.step_of-step.ensures.step).1
    (sym c.contains.ensures ∙ c.if-not-contains.false) (with_act c.args.trace.now.steps c.args.no
    c.step_of-step.result.now _ c.step_of-step.ensures.step c.in-Receive.is) c.requires.known (rw c.as_slice.ensures at c.note.ensures)
