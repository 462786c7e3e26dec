use Rattle.suffix_staircase.proofs.RowLaws.{AreStarts-starts}
use Rattle.suffix_staircase.proofs.staircases.Stairs.start.Goals as goal

pub returns-clause-starts : goal.returns-clause-starts
returns-clause-starts c = AreStarts-starts c.args.self.now
