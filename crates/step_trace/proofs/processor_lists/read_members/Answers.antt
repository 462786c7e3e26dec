use Rattle.std.proofs.Common.{◌∙◌, sym, arith, lit<}
use Rattle.std.proofs.lemmas.List.{map-append}
use Rattle.std.proofs.lemmas.Iterator.Consumers.{YieldsList-turn, YieldsList-end}
use Rattle.std.proofs.lemmas.Iterator.Splits.{YieldsList-from_str_split}
use Rattle.step_trace.proofs.NumberLists.{part_is_member, unread_is_no_member, outside_is_no_member, nothing_read, one_more_read, all_read}
use Rattle.step_trace.proofs.processor_lists.read_members.Goals as goal

pub loop-piece-init : goal.loop-piece-init
loop-piece-init c = nothing_read _ c.empty-set.ensures

pub returns-in_default-clause-refused : goal.returns-in_default-clause-refused
returns-in_default-clause-refused c = λ numbers list.
    let turn = YieldsList-turn (YieldsList-from_str_split 44 c.args.text.now (lit< tt) (cc) (cc) (cc))
    c.loop-piece.yielded _ c.loop-piece.yielded_by _ _ c.in-Some.piece c.in-Some.is c.next.ensures.steps in
    unread_is_no_member _ _ c.as_bytes.ensures.value c.in_default.ensures.none (part_is_member _ numbers _ _ list turn)

pub returns-then-p-lt1-clause-refused : goal.returns-then-p-lt1-clause-refused
returns-then-p-lt1-clause-refused c = λ numbers list.
    let turn = YieldsList-turn (YieldsList-from_str_split 44 c.args.text.now (lit< tt) (cc) (cc) (cc))
    c.loop-piece.yielded _ c.loop-piece.yielded_by _ _ c.in-Some.piece c.in-Some.is c.next.ensures.steps in
    outside_is_no_member _ c.in-Some-read_number.p (omega arith)
    (sym c.as_bytes.ensures.value ∙ c.in-Some-read_number.ensures.some) c.then-p-lt1.either (part_is_member _ numbers _ _ list turn)

pub loop-piece-preserved : goal.loop-piece-preserved
loop-piece-preserved c =
    rw (map-append)
    (one_more_read _ _ _ _ c.in-Some-read_number.p c.loop-piece.invariant
    (sym c.as_bytes.ensures.value ∙ c.in-Some-read_number.ensures.some) c.if-p-lt1.false c.if-p-gt-MAX_MEMBER.false
    c.with-set.ensures.added c.with-set.ensures.others)

pub returns-clause-members : goal.returns-clause-members
returns-clause-members c =
    let end = YieldsList-end (YieldsList-from_str_split 44 c.args.text.now (lit< tt) (cc) (cc) (cc))
    c.loop-piece.yielded _ c.loop-piece.yielded_by _ _ c.in-None.is c.next.ensures.steps in
    all_read _ _ _ c.loop-piece.invariant end.0
