use Rattle.std.proofs.Common.{heap_items, heap_len}
use Rattle.std.specs.BinaryHeap.{IsHeap}
use Rattle.step_buffers.specs.Inboxes.{earlier_first, IsMoved}
use Rattle.step_buffers.proofs.inboxes.Inbox.gather.Given as goal

abbrev pub invariant-loop-self : goal.invariant-loop-self
invariant-loop-self l = record {
  moved : IsMoved l.fn.self l.self-inside.near.items (heap_items l.self-inside.later);
  ordered : IsHeap earlier_first (heap_items l.self-inside.later);
}

abbrev pub decreases-loop-self : goal.decreases-loop-self
decreases-loop-self l = heap_len l.self-inside.later
