use Rattle.std.proofs.Common.{◌∙◌, sym}
use Rattle.shared_reading.proofs.PieceLemmas.{quoteless-by}
use Rattle.log_windows.proofs.seams.seam_len.Goals as goal

pub returns-clause-closed : goal.returns-clause-closed
returns-clause-closed c = c.lines_len.ensures.closed
    (quoteless-by c.args.text.now c.memchr.result c.memchr.ensures (sym c.is_some.ensures ∙ c.if-is_some.false))
