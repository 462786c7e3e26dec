use Rattle.std.proofs.Common.{◌≡◌, ◌+◌, ◌∙◌, length, Some, refl, ap, arith}
use Rattle.std.specs.Prelude.{slice_get}
use Rattle.std.proofs.lemmas.List.{length_push}
use Rattle.std.proofs.lemmas.Option.{slice_get_read}
use Rattle.step_buffers.proofs.KeptProcessors.{AreCopied-push, AreProcessors-copied}
use Rattle.step_buffers.proofs.copies.copied_processors.Goals as goal

pub loop-processor-preserved : goal.loop-processor-preserved
loop-processor-preserved c =
    let kept = c.args.processors.now in
    let copies = c.loop-processor.copy.items in
    let count = c.loop-processor.invariant.0 in
    let at : slice_get kept c.loop-processor.processor-index ≡ Some c.processor-item.result =
    slice_get_read kept (length kept) c.loop-processor.processor-index c.processor-item.result refl
    c.loop-processor-test.true c.processor-item.is in (
      ap length c.in_ok-push.ensures.items ∙ length_push copies _ ∙ ap (λ n. n + 1) count,
      rw c.in_ok-push.ensures.items (AreCopied-push kept copies c.processor-item.result _ c.loop-processor.invariant.1
          (ap (slice_get kept) count ∙ at) c.in_ok-copied_processor.ensures),
    )

pub returns : goal.returns
returns c = λ config steps are.
    let count = c.loop-processor.invariant.0 in
    let end = c.loop-processor.auto.processor-index-end in
    let over = c.loop-processor-test.false in
    AreProcessors-copied config steps c.args.processors.now c.loop-processor.copy.items (omega arith) c.loop-processor.invariant.1 are
