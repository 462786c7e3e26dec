use Rattle.node_runs.proofs.ToldLines.{followed_nothing}
use Rattle.node_runs.proofs.runs.world_made.Goals as goal

pub returns-in_err-copy-clause-followed : goal.returns-in_err-copy-clause-followed
returns-in_err-copy-clause-followed g c = followed_nothing g.E.Write.contents c.args.config.now c.args.follower.now

pub returns-in_err-recorder-clause-followed : goal.returns-in_err-recorder-clause-followed
returns-in_err-recorder-clause-followed g c = followed_nothing g.E.Write.contents c.args.config.now c.args.follower.now

pub returns-in_err-company-clause-followed : goal.returns-in_err-company-clause-followed
returns-in_err-company-clause-followed g c = followed_nothing g.E.Write.contents c.args.config.now c.args.follower.now
