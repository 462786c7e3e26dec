use Rattle.event_log.proofs.MeantEvents.{are-meant}
use Rattle.event_log.proofs.alignments.offsets_of.Goals as goal

pub clock_offsets-requires-clause-meant : goal.clock_offsets-requires-clause-meant
clock_offsets-requires-clause-meant c = rw (c.as_slice.ensures.value, c.len.ensures)
    (are-meant _ c.args.log.now.events.items c.requires.sound.within)
