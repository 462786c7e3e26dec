use Rattle.shared_reading.proofs.PieceLemmas.{unmarked-before}
use Rattle.shared_reading.proofs.pieces.begins_unmarked.Goals as goal

pub returns : goal.returns
returns c = unmarked-before c.args.bytes.now c.if-bytes-eq0.false
