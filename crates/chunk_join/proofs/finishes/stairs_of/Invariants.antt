use Rattle.std.proofs.Common.{◌+◌, ◌≤◌}
use Rattle.chunk_join.specs.Finishes.{IsGoneOver}
use Rattle.chunk_join.proofs.finishes.stairs_of.Given as goal

-- the ticks from `next` on are scanned
abbrev pub invariant-loop-next : goal.invariant-loop-next
invariant-loop-next l = record {
  low : 1 ≤ l.next;
  from : l.from ≤ l.part.to + 1 → l.from ≤ l.next;
  known : IsGoneOver l.part l.next l.messages l.silences l.level l.builder;
}

abbrev pub decreases-loop-next : goal.decreases-loop-next
decreases-loop-next l = l.next
