use Rattle.std.proofs.Common.{◌∙◌, sym, arith, lit<, decimal}
use Rattle.std.proofs.lemmas.List.{map-append}
use Rattle.std.proofs.lemmas.Iterator.Consumers.{YieldsList-turn, YieldsList-end}
use Rattle.std.proofs.lemmas.Iterator.Splits.{YieldsList-from_str_split}
use Rattle.command_line.proofs.CommaLists.{all_read, decimal_no_comma, none_read, one_more_read, unread_is_no_item}
use Rattle.command_line.proofs.ValueLists.{Is64}
use Rattle.command_line.proofs.jobs.value_lists.read_values.Goals as goal

pub loop-piece-init : goal.loop-piece-init
loop-piece-init c = rw c.new-values.ensures.items (none_read Is64 decimal)

pub returns-in_default-clause-refused : goal.returns-in_default-clause-refused
returns-in_default-clause-refused c = λ values list.
    let turn = YieldsList-turn (YieldsList-from_str_split 44 c.args.text.now (lit< tt) (cc) (cc) (cc))
    c.loop-piece.yielded _ c.loop-piece.yielded_by _ _ c.in-Some.piece c.in-Some.is c.next.ensures.steps in
    unread_is_no_item Is64 decimal decimal_no_comma _ values _ _
    (λ n small e. c.in_default.ensures.none n small (c.as_bytes.ensures.value ∙ e)) turn list

pub loop-piece-preserved : goal.loop-piece-preserved
loop-piece-preserved c = rw (c.in_ok-push.ensures.items, map-append) (one_more_read Is64 decimal _ _
    _ c.in-Some-read_number.value c.loop-piece.invariant (sym c.as_bytes.ensures.value ∙ c.in-Some-read_number.ensures.some) (omega arith))

pub returns-clause-values : goal.returns-clause-values
returns-clause-values c =
    let end = YieldsList-end (YieldsList-from_str_split 44 c.args.text.now (lit< tt) (cc) (cc) (cc))
    c.loop-piece.yielded _ c.loop-piece.yielded_by _ _ c.in-None.is c.next.ensures.steps in
    all_read Is64 decimal _ _ _ c.loop-piece.invariant end.0
