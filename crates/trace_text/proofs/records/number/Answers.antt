use Rattle.std.proofs.Common.{rules}
use Rattle.trace_text.proofs.Numbers.{number_of-read}
use Rattle.trace_text.proofs.records.number.Goals as goal

pub returns : goal.returns
returns c = number_of-read c.args.field.now c.read_number.result (search rules) c.read_number.ensures.some c.read_number.ensures.none
