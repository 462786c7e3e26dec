use Rattle.std.proofs.Common.{◌∙◌, heap_items, subst}
use Rattle.std.specs.List.Sorted.{IsPermutation}
use Rattle.std.proofs.lemmas.List.Sorted.{IsPermutation-sym, IsPermutation-map, IsPermutation-append_right, Contains-permutation}
use Rattle.step_buffers.specs.Inboxes.{Entry, ids_of}
use Rattle.step_buffers.proofs.inboxes.Inbox.copy.Goals as goal

pub returns : goal.returns
returns c =
    let near = c.self.inside.near.items in
    let old = heap_items c.self.inside.later in
    let new = heap_items c.from.result in
    let same : IsPermutation old new = subst (λ es. IsPermutation es new)
    (c.in_ok-from_slice-2.ensures.items ∙ c.as_slice.ensures.value) c.from.ensures.1 in
    rw (← c.self.view_is, c.in_ok-from_slice.ensures.items, c.deref.ensures.value) (record {
      moved = record {
        same = IsPermutation-append_right near (ids_of old) (ids_of new) (IsPermutation-map (λ (e : Entry). e.0.1) old new same);
        entries = λ e d. Contains-permutation new old e (IsPermutation-sym old new same) d;
      };
    })
