use Rattle.std.proofs.Common.{◌≡◌, ◌∙◌, Some, false, ◌&&◌, sym, ap}
use Rattle.std.specs.Prelude.{is_some}
use Rattle.step_buffers.proofs.Common.{buffer, next_send, take_refusal}
use Rattle.step_buffers.proofs.BufferSteps.{buffer-rises}
use Rattle.step_buffers.proofs.RefusedTakes.{IsStepRefusal-take}
use Rattle.step_buffers.proofs.receives.chosen.Goals as goal

pub take_refusal-requires : goal.take_refusal-requires
take_refusal-requires c =
    let waiting : c.as_slice.result.now ≡ buffer c.args.trace.now.steps c.args.p = c.as_slice.ensures.value ∙ c.requires.receiver.buffer in
    rw waiting (buffer-rises c.args.trace.now.steps c.args.p)

pub returns-in-Some-clause-refused : goal.returns-in-Some-clause-refused
returns-in-Some-clause-refused c =
    let config = c.args.trace.now.config in
    let steps = c.args.trace.now.steps in
    let p = c.args.p in
    let waiting : c.as_slice.result.now ≡ buffer steps p = c.as_slice.ensures.value ∙ c.requires.receiver.buffer in
    let early : (c.args.ends && is_some (next_send config steps p)) ≡ false = sym c.is_early.ensures ∙ c.if-is_early.false in
    let some : take_refusal c.args.take (buffer steps p) ≡ Some c.in-Some.why = ap (take_refusal c.args.take) (sym waiting)
    ∙ sym c.take_refusal.ensures ∙ c.in-Some.is in
    rw (early, some) (IsStepRefusal-take c.args.take (buffer steps p) c.in-Some.why some)
