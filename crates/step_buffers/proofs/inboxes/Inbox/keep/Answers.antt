use Rattle.std.proofs.Common.{ℕ, List, ◌++◌, ◌∷◌, [], heap_items, inl, inr, subst, ap, ◌∙◌, append_assoc}
use Rattle.std.specs.List.Sorted.{IsPermutation}
use Rattle.std.proofs.lemmas.List.Sorted.{IsPermutation-sym, IsPermutation-map, IsPermutation-middle, IsPermutation-append_right, IsPermutation-trans, Contains-permutation}
use Rattle.lock_phases.proofs.Membership.{Contains-cons_cases}
use Rattle.step_buffers.specs.Inboxes.{Entry, ids_of}
use Rattle.step_buffers.proofs.inboxes.Inbox.keep.Goals as goal

-- an element at the front of both of two lists
to_front : (xs ys : List ℕ) (x : ℕ) → IsPermutation (x ∷ (xs ++ ys)) (xs ++ x ∷ ys)
to_front xs ys x = IsPermutation-sym (xs ++ x ∷ ys) (x ∷ (xs ++ ys)) (IsPermutation-middle xs x ys)

pub returns-then-sent-round-clause-kept : goal.returns-then-sent-round-clause-kept
returns-then-sent-round-clause-kept c =
    let near = c.self.inside.near.items in
    let later = ids_of (heap_items c.self.inside.later) in
    let id = c.args.id in
    rw (← c.self.view_is, c.push_reserved.ensures.items, append_assoc near (id ∷ []) later) (to_front near later id)

pub returns-else-sent-round-clause-kept : goal.returns-else-sent-round-clause-kept
returns-else-sent-round-clause-kept c =
    let near = c.args.self.now.near in
    let old = c.args.self.now.later in
    let new = c.keep_for_later.new.self.later in
    let id = c.args.id in
    let added = c.keep_for_later.ensures.later in
    let mapped : IsPermutation (id ∷ ids_of old) (ids_of new) =
    subst (λ s. IsPermutation (s ∷ ids_of old) (ids_of new))
    (ap (λ (x : ℕ × ℕ). x.1) added.1) (IsPermutation-map (λ (e : Entry). e.0.1) (added.0 ∷ old) new added.2) in
    rw c.keep_for_later.ensures.near
    (IsPermutation-trans (id ∷ (near ++ ids_of old)) (near ++ id ∷ ids_of old)
    (near ++ ids_of new) (to_front near (ids_of old) id) (IsPermutation-append_right near (id ∷ ids_of old) (ids_of new) mapped))

pub returns-else-sent-round-clause-entries : goal.returns-else-sent-round-clause-entries
returns-else-sent-round-clause-entries c = λ e d.
    let old = c.args.self.now.later in
    let new = c.keep_for_later.new.self.later in
    let added = c.keep_for_later.ensures.later in
    elim (Contains-cons_cases added.0 e old (Contains-permutation new (added.0 ∷ old) e (IsPermutation-sym _ _ added.2) d)) [
      | inl same ↦ inr (c.if-sent-round.false, ap (λ (x : Entry). x.0) same ∙ added.1)
      | inr before ↦ inl before
    ]
