use Rattle.std.proofs.Common.{◌∷◌, heap_items, subst}
use Rattle.std.specs.List.Sorted.{IsPermutation}
use Rattle.std.proofs.lemmas.List.Sorted.{IsPermutation-sym, IsPermutation-map, IsPermutation-pop_more, Contains-permutation}
use Rattle.step_buffers.proofs.Common.{Contains-rest, Entry, ids_of}
use Rattle.step_buffers.proofs.inboxes.Inbox.gather.Goals as goal

pub loop-self-preserved : goal.loop-self-preserved
loop-self-preserved c =
    let due = c.in-Some.ensures.due in
    let later = heap_items c.loop-self.self-inside.later in
    let rest = heap_items c.next_due.new.later in
    let is = c.loop-self.invariant.moved in
    let first : IsPermutation (ids_of later) (c.in-Some.id ∷ ids_of rest) =
    subst (λ s. IsPermutation (ids_of later) (s ∷ ids_of rest)) due.1
    (IsPermutation-map (λ (e : Entry). e.0.1) later (due.0 ∷ rest) due.2) in
    record {
      moved = record {
        same = rw (c.push_reserved.ensures.items, c.in_ok-reserve.ensures.items)
            (IsPermutation-pop_more _ _ _ _ c.in-Some.id is.same first);
        entries =
            λ e d. is.entries e (Contains-permutation (due.0 ∷ rest) later e (IsPermutation-sym _ _ due.2) (Contains-rest due.0 e rest d));
      };
      ordered = c.in-Some.ensures.order;
    }
