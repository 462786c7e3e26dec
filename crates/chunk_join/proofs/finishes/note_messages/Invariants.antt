use Rattle.std.proofs.Common.{ℕ, ◌≡◌, ◌<◌, ◌≤◌, Some}
use Rattle.std.specs.Prelude.{slice_get}
use Rattle.suffix_staircase.specs.Levels.{StandsBefore}
use Rattle.chunk_join.specs.declared.summaries.Message.{Message}
use Rattle.chunk_join.specs.Finishes.{KeepsMisses}
use Rattle.chunk_join.proofs.finishes.note_messages.Given as goal

-- the messages from number `k` on are of the tick or later, and the level has their misses
abbrev pub invariant-loop-k : goal.invariant-loop-k
invariant-loop-k l = record {
  within : l.k ≤ l.count;
  falling : StandsBefore l.level l.fn.level;
  phi : l.level.phi ≡ l.fn.level.phi;
  gap : l.level.gap ≡ l.fn.level.gap;
  later : (j : ℕ) (m : Message) → l.k ≤ j → j < l.count → slice_get l.part.sent j ≡ Some m → l.g ≤ m.sent.tick;
  misses : KeepsMisses l.part l.count l.fn.level l.k l.level;
}
