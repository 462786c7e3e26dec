use Rattle.std.proofs.Common.{◌≤◌, length, Some, refl, arith}
use Rattle.trace_text.specs.Records.{records_of_text}
use Rattle.trace_text.specs.declared.byte_loops.TheConstants.{MAX_TEXT_BYTES}
use Rattle.front.specs.ReportRefusals.{rows_of_records}
use Rattle.front.proofs.ReportAnswers.{stands-from, refused-from}
use Rattle.text_verdicts.proofs.ClaimedTexts.{rows_under, kept-stands, kept-refused, unfaulted}
use Rattle.text_verdicts.proofs.certificate_texts.certificate_of_text.Goals as goal

pub returns-clause-kept : goal.returns-clause-kept
returns-clause-kept c =
    let short : length c.args.text.now ≤ MAX_TEXT_BYTES = omega (arith, c.if-text-gt-MAX_TEXT_BYTES.false) in
    let rows = rows_under c.args.last c.claimed_in.result (rows_of_records (records_of_text c.args.text.now)) c.claimed_in.ensures in
    kept-stands c.args.last c.claimed_in.result rows.0 c.args.text.now rows.2
    (stands-from (λ v. v) rows.0 (Some c.args.text.now) c.args.text.now rows.1 refl) short

pub returns-clause-refused : goal.returns-clause-refused
returns-clause-refused c =
    let short : length c.args.text.now ≤ MAX_TEXT_BYTES = omega (arith, c.if-text-gt-MAX_TEXT_BYTES.false) in
    let rows = rows_under c.args.last c.claimed_in.result (rows_of_records (records_of_text c.args.text.now)) c.claimed_in.ensures in
    unfaulted c.args.text.now c.claimed_in.result (kept-refused c.args.last c.claimed_in.result rows.0 _ rows.2
    (refused-from (λ v. v) rows.0 (Some c.args.text.now) c.args.text.now 0 0 short rows.1 refl))
