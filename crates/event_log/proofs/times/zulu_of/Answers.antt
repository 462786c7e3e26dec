use Rattle.std.proofs.Common.{◌∙◌, ap}
use Rattle.event_log.specs.Times.{stamp_of}
use Rattle.event_log.proofs.TimeTexts.{zulu-text}
use Rattle.event_log.proofs.times.zulu_of.Goals as goal

pub returns : goal.returns
returns c = c.stamp_of.ensures ∙ ap stamp_of (rw c.copy_from_slice.ensures.after (zulu-text c.args.field.now c.requires))
