use Rattle.trace_text.proofs.WrittenRecords.{All-fit}
use Rattle.trace_text.proofs.writing.push_front.Goals as goal

-- a value has 64 bits
pub returns-clause-numbers : goal.returns-clause-numbers
returns-clause-numbers c = All-fit c.args.values.now c.type_inv.values

pub returns-in_err-push_header-clause-numbers : goal.returns-in_err-push_header-clause-numbers
returns-in_err-push_header-clause-numbers c = All-fit c.args.values.now c.type_inv.values
