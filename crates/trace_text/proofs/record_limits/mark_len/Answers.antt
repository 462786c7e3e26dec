use Rattle.std.proofs.Common.{◌∙◌, sym}
use Rattle.trace_text.proofs.TextFronts.{marked, unmarked}
use Rattle.trace_text.proofs.record_limits.mark_len.Goals as goal

pub returns-then-starts_with-clause-rest : goal.returns-then-starts_with-clause-rest
returns-then-starts_with-clause-rest c = marked c.args.text.now (sym c.starts_with.ensures.value ∙ c.if-starts_with.true)

pub returns-clause-rest : goal.returns-clause-rest
returns-clause-rest c = unmarked c.args.text.now (sym c.starts_with.ensures.value ∙ c.if-starts_with.false)
