use Rattle.std.proofs.Common.{◌≡◌, ◌∙◌, None, Some, ◌&&◌, sym}
use Rattle.std.specs.Prelude.{is_some}
use Rattle.step_buffers.proofs.Common.{buffer, next_send, take_refusal}
use Rattle.step_buffers.proofs.RefusedTakes.{take_refusal-none}
use Rattle.step_buffers.proofs.RefusedTakes.{refusal-taken, IsDue-received}
use Rattle.step_buffers.proofs.NextSends.{refusal-send}
use Rattle.step_buffers.proofs.KeptProcessors.{IsProcessor-at}
use Rattle.step_buffers.proofs.steps.act_of.Goals as goal

pub next_send-requires : goal.next_send-requires
next_send-requires c = IsProcessor-at c.args.trace.now.config c.args.trace.now.steps
    c.args.processors.now c.args.p c.index-processors-p.result c.requires.processors c.requires.processor c.index-processors-p.is

pub chosen-requires : goal.chosen-requires
chosen-requires c =
    record {
      receiver = IsProcessor-at c.args.trace.now.config c.args.trace.now.steps c.args.processors.now c.args.p
          c.index-processors-p.result c.requires.processors c.requires.processor c.index-processors-p.is;
    }

pub returns-in-Some-clause-next : goal.returns-in-Some-clause-next
returns-in-Some-clause-next c =
    let due : next_send c.args.trace.now.config c.args.trace.now.steps c.args.p ≡ Some c.in-Some.to = sym c.next_send.ensures
    ∙ c.in-Some.is in
    record {
      proc = c.requires.processor;
      fits = refusal-send c.args.trace.now.config c.args.trace.now.steps c.args.p c.in-Some.to c.requires.room c.requires.processor due;
      due = due;
    }

pub returns-in_ok-ids-in-Receive-clause-next : goal.returns-in_ok-ids-in-Receive-clause-next
returns-in_ok-ids-in-Receive-clause-next c =
    let config = c.args.trace.now.config in
    let steps = c.args.trace.now.steps in
    let ends = c.in-Receive.ends in
    let chosen = c.in-Receive.take in
    let none : take_refusal chosen (buffer steps c.args.p) ≡ None =
    take_refusal-none (ends && is_some (next_send config steps c.args.p))
    (take_refusal chosen (buffer steps c.args.p)) c.in_ok-ids-in-Receive.ensures.ok in
    record {
      proc = c.requires.processor;
      fits = rw c.in_ok-ids-in-Receive.ensures.taken
          (refusal-taken config steps c.args.p ends chosen c.requires.room c.requires.processor none);
      due = IsDue-received (next_send config steps c.args.p) ends c.in_ok-ids-in-Receive.ids _ c.in_ok-ids-in-Receive.ensures.ok;
    }
