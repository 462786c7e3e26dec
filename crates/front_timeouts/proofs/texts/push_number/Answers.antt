use Rattle.std.proofs.Common.{arith}
use Rattle.trace_text.proofs.PlainFields.{IsPlain-decimal}
use Rattle.front_timeouts.proofs.texts.push_number.Goals as goal

pub returns-clause-plain : goal.returns-clause-plain
returns-clause-plain c = IsPlain-decimal c.args.n (omega arith)
