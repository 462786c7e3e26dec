use Rattle.std.proofs.lemmas.Result.{err_from_is_err_and}
use Rattle.trace_text.specs.Records.{records_of_text}
use Rattle.text_verdicts.proofs.ClaimedTexts.{ended-gives, ended-refused}
use Rattle.text_verdicts.proofs.certificate_texts.claimed_in.Goals as goal

pub returns-in_err-read_records : goal.returns-in_err-read_records
returns-in_err-read_records c =
    let p = err_from_is_err_and c.from_residual.result c.from_residual.ensures.1 in
    rw (p.1, p.2) (ended-refused c.args.last (records_of_text c.args.text.now) _ c.in_err-read_records.ensures)

pub returns : goal.returns
returns c =
    ended-gives c.args.last (records_of_text c.args.text.now) _ c.rows_at_end.result c.in_ok-read_records.ensures c.rows_at_end.ensures
