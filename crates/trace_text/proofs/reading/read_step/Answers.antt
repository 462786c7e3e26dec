use Rattle.std.proofs.Common.{rules, ◌≡◌, ◌+◌, length, true}
use Rattle.csv.specs.Records.{fields_of}
use Rattle.trace_text.specs.TextRefusals.{is_numbered}
use Rattle.trace_text.proofs.JudgedIds.{step-judged}
use Rattle.trace_text.proofs.KeptRecords.{wants-numbered}
use Rattle.trace_text.proofs.reading.read_step.Goals as goal

pub returns-in_err-tick-clause-stage : goal.returns-in_err-tick-clause-stage
returns-in_err-tick-clause-stage c = rw (← step-judged c.args.version c.args.trace.now (fields_of c.args.fields.now)) (search rules)

pub returns-in_err-tick-clause-more : goal.returns-in_err-tick-clause-more
returns-in_err-tick-clause-more c =
    let numbered : is_numbered c.args.version (length c.args.trace.now.steps + 1) (fields_of c.args.fields.now) ≡ true = search rules in
    wants-numbered c.args.version c.args.trace.now (fields_of c.args.fields.now) c.from_residual.result numbered (search rules)

pub returns-in-Ok-clause-stage : goal.returns-in-Ok-clause-stage
returns-in-Ok-clause-stage c = rw (← step-judged c.args.version c.args.trace.now (fields_of c.args.fields.now)) (search rules)

pub returns-in-Err-Memory-clause-more : goal.returns-in-Err-Memory-clause-more
returns-in-Err-Memory-clause-more c = rw (← step-judged c.args.version c.args.trace.now (fields_of c.args.fields.now)) (search rules)

pub returns-in-Err : goal.returns-in-Err
returns-in-Err c = rw (← step-judged c.args.version c.args.trace.now (fields_of c.args.fields.now)) (search rules)
