use Rattle.std.proofs.Common.{◌∙◌, Bool, [], refl, sym}
use Rattle.shared_reading.proofs.PartsRead.{faults-kept, no-fault, part-refused, part-taken}
use Rattle.shared_reading.proofs.device_texts.take_part.Goals as goal

pub returns-in-Ok-clause-goes_on : goal.returns-in-Ok-clause-goes_on
returns-in-Ok-clause-goes_on g c = λ known h. part-taken known _ c.args.progress.now _ c.in-Ok.cut refl c.remove_front.ensures.items
    (rw (c.in-Ok.is, c.deref.ensures.value) at c.take_front.ensures) h

pub returns-in_ok-skip_rest-in-Err-clause-goes_on : goal.returns-in_ok-skip_rest-in-Err-clause-goes_on
returns-in_ok-skip_rest-in-Err-clause-goes_on g c = λ known h. part-refused known _ _ [] c.args.progress.now c.take_front.new.stage _
    (rw (c.in-Err.is, c.deref.ensures.value) at c.take_front.ensures) c.in_ok-skip_rest-in-Err.ensures.whole h

pub returns-in_ok-skip_rest-in-Err-clause-faults : goal.returns-in_ok-skip_rest-in-Err-clause-faults
returns-in_ok-skip_rest-in-Err-clause-faults g c =
    let other = no-fault c.args.progress.now.stage c.take_front.new.stage c.deref.result.now c.in-Err.why
    (rw c.in-Err.is at c.take_front.ensures) in
    c.in_ok-skip_rest-in-Err.ensures.faults ∙ sym (faults-kept Bool c.in-Err.why _ other)
