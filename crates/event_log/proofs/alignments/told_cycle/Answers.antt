use Rattle.event_log.proofs.AlignedLogs.{cycle-inside, few-events}
use Rattle.event_log.proofs.alignments.told_cycle.Goals as goal

pub clock_lines-requires : goal.clock_lines-requires
clock_lines-requires c = cycle-inside c.args.log.now.events.items c.in_ok-cycle.cycle
    (few-events c.args.log.now.kind c.args.log.now.nodes c.args.log.now.events.items c.requires.sound) c.in_ok-cycle.ensures.cycle
