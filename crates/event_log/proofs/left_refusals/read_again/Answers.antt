use Rattle.std.proofs.Common.{refl}
use Rattle.event_log.specs.Logs.{seen_log}
use Rattle.event_log.proofs.left_refusals.read_again.Goals as goal

pub returns-clause-again : goal.returns-clause-again
returns-clause-again g c = record {
  log = seen_log c.in_ok-log.log;
  events = c.in_ok-log.log.events.items;
  read = c.in_ok-log.ensures.read;
  same = refl;
  offsets = c.in_ok-aligned.aligned.offsets;
  clocks = c.in_ok-aligned.ensures.aligned;
  nodes_are = c.in_ok-aligned.ensures.nodes;
}
