use Rattle.std.proofs.Common.{◌≡◌, ◌∙◌, ◌+◌, ◌++◌, ap, refl, List, None, take, map, filter, Contains, subst, sym, rules}
use Rattle.step_trace.specs.declared.rows.Gap.{Gap}
use Rattle.chunk_join.specs.Summaries.{Summary, IsConsistent}
use Rattle.chunk_join.specs.Parts.{parts_refusal, settle, reach_take, is_older, later_each, stops, reach_back}
use Rattle.chunk_join.specs.Laws.PiecesJoined.{same_summary}
use Rattle.chunk_join.proofs.Consistency.{IsConsistent-joined, seam_of}
use Rattle.chunk_join.proofs.parts.join_parts.Goals as goal

pub join_silences-requires-clause-ended : goal.join_silences-requires-clause-ended
join_silences-requires-clause-ended c = λ w k. c.ended_before-start.ensures.ended w
    (subst (λ (xs : List Gap). Contains (take c.ended_before-start.result xs) w) (c.make_room.ensures.silent ∙ sym c.deref.ensures.value) k)

pub invariant_of-left-2 : goal.invariant_of-left-2
invariant_of-left-2 c =
    let none : parts_refusal c.args.left c.args.right ≡ None = search rules in
    let sent : c.join_messages.new.sent.items ≡ map
    (settle c.right.inside.taken.items c.left.inside.last.items) c.left.inside.sent.items ++ c.right.inside.sent.items = search rules in
    let taken : c.append_older.new.taken.items ≡ c.left.inside.taken.items ++ map
    (reach_take c.left.inside.last.items) (filter (is_older c.left.inside.from) c.right.inside.taken.items) = search rules in
    let last : c.replace_last.new.left.items ≡ later_each c.left.inside.last.items c.right.inside.last.items = search rules in
    let silent : c.join_silences.new.left.items ≡ filter (stops c.left.inside.to c.right.inside.silent.items)
    c.left.inside.silent.items ++ map (reach_back c.left.inside.to c.left.inside.silent.items)
    c.right.inside.silent.items = search rules in
    let seam : c.left.inside.to + 1 ≡ c.right.inside.from = ap (λ (s : Summary). s.to + 1) c.left.view_is
    ∙ seam_of c.args.left c.args.right none ∙ sym (ap (λ (s : Summary). s.from) c.right.view_is) in
    subst IsConsistent (sym (same_summary _ _ refl refl refl sent taken last silent))
    (IsConsistent-joined _ _ seam c.left.invariant c.right.invariant)
