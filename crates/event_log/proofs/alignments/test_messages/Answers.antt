use Rattle.event_log.proofs.AlignedLogs.{few-events, some-events, of-processors, fault-place, fault-cycle}
use Rattle.event_log.proofs.alignments.test_messages.Goals as goal

pub check_messages-requires : goal.check_messages-requires
check_messages-requires c = record {
  processors = rw c.as_slice.ensures.value
      (of-processors c.args.log.now.kind c.args.log.now.nodes c.args.log.now.events.items c.requires.sound);
}

pub error_of-requires-clause-place : goal.error_of-requires-clause-place
error_of-requires-clause-place c =
    fault-place c.args.log.now.events.items c.in-Err.why
    (some-events c.args.log.now.kind c.args.log.now.nodes c.args.log.now.events.items c.requires.sound)
    (few-events c.args.log.now.kind c.args.log.now.nodes c.args.log.now.events.items c.requires.sound)
    (rw c.as_slice.ensures.value at c.in-Err.ensures)

pub error_of-requires-clause-processors : goal.error_of-requires-clause-processors
error_of-requires-clause-processors c = rw c.as_slice-in-Err.ensures.value
    (of-processors c.args.log.now.kind c.args.log.now.nodes c.args.log.now.events.items c.requires.sound)

pub error_of-requires-clause-behind : goal.error_of-requires-clause-behind
error_of-requires-clause-behind c = rw c.as_slice-in-Err.ensures.value
    (fault-cycle c.args.log.now.events.items c.in-Err.why (rw c.as_slice.ensures.value at c.in-Err.ensures))
