use Rattle.event_log.proofs.AlignedLogs.{sound-moved}
use Rattle.event_log.proofs.alignments.moved_log.Goals as goal

pub returns-in-Ok-clause-sound : goal.returns-in-Ok-clause-sound
returns-in-Ok-clause-sound c = sound-moved c.args.log.kind
    c.args.log.nodes c.args.log.events.items c.in-Ok.events.items c.args.offsets c.requires.sound c.in-Ok.ensures.moved
