use Rattle.event_log.proofs.SoundLogs.{gives-sound}
use Rattle.event_log.proofs.Stages.{gives-staged}
use Rattle.event_log.proofs.logs.events_of_log.Goals as goal

pub returns-clause-exact : goal.returns-clause-exact
returns-clause-exact g c = gives-staged c.args.unit c.args.listed c.args.nodes c.args.text.now c.read_log.result c.read_log.ensures.exact

pub returns-clause-sound : goal.returns-clause-sound
returns-clause-sound g c = gives-sound c.args.unit c.args.listed c.args.nodes c.args.text.now c.read_log.result c.read_log.ensures.exact
