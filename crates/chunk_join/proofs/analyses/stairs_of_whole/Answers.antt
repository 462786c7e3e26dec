use Rattle.chunk_join.specs.Summaries.{Whole}
use Rattle.chunk_join.proofs.analyses.stairs_of_whole.Goals as goal

pub returns-in-Ok-clause-stairs : goal.returns-in-Ok-clause-stairs
returns-in-Ok-clause-stairs c =
    let sound = c.requires.sound in
    let whole : Whole = record { set = c.args.set; trace = c.args.trace.now; sound = sound } in
    c.in-Ok.ensures.whole whole (c.requires.digest sound)
