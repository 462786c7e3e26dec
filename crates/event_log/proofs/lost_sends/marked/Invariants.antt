use Rattle.std.proofs.Common.{◌≡◌, ◌==◌, ◌<◌, ℕ, false, length, take}
use Rattle.std.specs.Prelude.{slice_index_or}
use Rattle.std.specs.List.{list_any}
use Rattle.event_log.proofs.lost_sends.marked.Given as goal

-- the places of the hops so far are marked
abbrev pub invariant-loop-hop : goal.invariant-loop-hop
invariant-loop-hop l = record {
  long : length l.marks.items ≡ l.count;
  marked : (s : ℕ) → s < l.count → slice_index_or l.marks.items s false ≡ list_any (λ hop. hop.message == s) (take l.hop-index l.hops);
}
