use Rattle.std.proofs.Common.{◌∙◌, refl, sym}
use Rattle.std.proofs.lemmas.Result.{err_from_is_err_and}
use Rattle.step_trace.specs.Traces.{Recorded}
use Rattle.shared_reading.proofs.PartsRead.{begins, given-faults, given-read, given-refusal, given-within, on-ok, refused-known, refused-within}
use Rattle.shared_reading.proofs.device_texts.read_parts_from.Goals as goal

pub returns-in_err-read_parts-clause-refused : goal.returns-in_err-read_parts-clause-refused
returns-in_err-read_parts-clause-refused g c =
    let p = err_from_is_err_and c.from_residual.result c.from_residual.ensures.1 in
    rw (p.1, p.2) (refused-known _ _ _ (c.in_err-read_parts.ensures.goes_on _ (begins _ _ refl refl c.new.ensures.items)))

pub returns-in_err-read_parts-clause-within : goal.returns-in_err-read_parts-clause-within
returns-in_err-read_parts-clause-within g c =
    let p = err_from_is_err_and c.from_residual.result c.from_residual.ensures.1 in
    rw (p.1, p.2) (refused-within Recorded _ _ _ (c.in_err-read_parts.ensures.goes_on _ (begins _ _ refl refl c.new.ensures.items)))

pub returns-clause-read : goal.returns-clause-read
returns-clause-read g c = given-read _ _ (c.read_rest.ensures _ _
    (c.in_ok-read_parts.ensures.goes_on _ (begins _ _ refl refl c.new.ensures.items)) c.in_ok-read_parts.ensures.end)

pub returns-clause-end : goal.returns-clause-end
returns-clause-end g c = on-ok _ _ c.in_ok-read_parts.ensures.end

pub returns-clause-refused : goal.returns-clause-refused
returns-clause-refused g c = given-refusal _ _ (c.read_rest.ensures _ _
    (c.in_ok-read_parts.ensures.goes_on _ (begins _ _ refl refl c.new.ensures.items)) c.in_ok-read_parts.ensures.end)

pub returns-clause-within : goal.returns-clause-within
returns-clause-within g c = λ _. given-within _ _ _ (c.read_rest.ensures _ _
    (c.in_ok-read_parts.ensures.goes_on _ (begins _ _ refl refl c.new.ensures.items)) c.in_ok-read_parts.ensures.end)

pub returns-clause-faults : goal.returns-clause-faults
returns-clause-faults g c = c.in_ok-read_parts.ensures.faults ∙ sym (given-faults _ c.read_rest.result _ (c.read_rest.ensures _ _
    (c.in_ok-read_parts.ensures.goes_on _ (begins _ _ refl refl c.new.ensures.items)) c.in_ok-read_parts.ensures.end))
