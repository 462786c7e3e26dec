use Rattle.std.proofs.Common.{◌∙◌, ◌≤◌, length, sym, arith}
use Rattle.trace_text.specs.declared.byte_loops.TheConstants.{MAX_TEXT_BYTES}
use Rattle.front.proofs.ReportAnswers.{stands-from, complete-from, refused-from, faultless-from, stands-one}
use Rattle.front.proofs.report_reading.read_report.Goals as goal

pub returns-in-Ok-clause-stands : goal.returns-in-Ok-clause-stands
returns-in-Ok-clause-stands g c = stands-from (λ v. v.items) c.rows_of_text.result _ c.deref.result.now c.rows_of_text.ensures
    (rw c.deref.ensures.value c.in-Ok.ensures.text)

pub returns-in-Ok-clause-complete : goal.returns-in-Ok-clause-complete
returns-in-Ok-clause-complete g c = complete-from (λ v. v.items) c.rows_of_text.result _ c.deref.result.now c.rows_of_text.ensures
    (rw c.deref.ensures.value c.in-Ok.ensures.text)

pub returns-in-Ok-clause-refused : goal.returns-in-Ok-clause-refused
returns-in-Ok-clause-refused g c =
    let short : length c.in-Ok.text.items ≤ MAX_TEXT_BYTES = omega (arith, c.in-Ok.ensures.limit, c.in-Ok.text.ok.0) in
    refused-from (λ v. v.items) c.rows_of_text.result _ c.deref.result.now _ _
    (rw (sym c.deref.ensures.value) at short) c.rows_of_text.ensures (rw c.deref.ensures.value c.in-Ok.ensures.text)

pub returns-in-Ok-clause-faults : goal.returns-in-Ok-clause-faults
returns-in-Ok-clause-faults g c = c.in-Ok.ensures.faults
    ∙ sym (faultless-from (λ v. v.items) c.rows_of_text.result c.deref.result.now _ c.rows_of_text.ensures)

pub returns-in-Ok-clause-unique : goal.returns-in-Ok-clause-unique
returns-in-Ok-clause-unique g c = stands-one

pub returns-in-Err-TooLarge-clause-unique : goal.returns-in-Err-TooLarge-clause-unique
returns-in-Err-TooLarge-clause-unique g c = stands-one

pub returns-in-Err-Read-clause-unique : goal.returns-in-Err-Read-clause-unique
returns-in-Err-Read-clause-unique g c = stands-one

pub returns-in-Err-Memory-clause-unique : goal.returns-in-Err-Memory-clause-unique
returns-in-Err-Memory-clause-unique g c = stands-one
