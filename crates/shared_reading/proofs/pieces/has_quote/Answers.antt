use Rattle.std.proofs.Common.{◌∙◌, sym}
use Rattle.shared_reading.proofs.PieceLemmas.{quoteless-by}
use Rattle.shared_reading.proofs.pieces.has_quote.Goals as goal

pub returns : goal.returns
returns c = λ e. quoteless-by c.args.bytes.now c.memchr.result c.memchr.ensures (sym c.is_some.ensures ∙ e)
