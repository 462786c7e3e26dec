use Rattle.std.proofs.Common.{lit<}
use Rattle.std.proofs.lemmas.List.{map-append}
use Rattle.std.proofs.lemmas.Iterator.Consumers.{YieldsList-turn, YieldsList-end}
use Rattle.std.proofs.lemmas.Iterator.Splits.{YieldsList-from_str_split}
use Rattle.command_line.specs.CrashLists.{IsCrash64, crash_text}
use Rattle.command_line.proofs.CommaLists.{all_read, none_read, one_more_read, unread_is_no_item}
use Rattle.command_line.proofs.CrashLists.{crash_no_comma}
use Rattle.command_line.proofs.jobs.crash_lists.read_crashes.Goals as goal

pub loop-piece-init : goal.loop-piece-init
loop-piece-init c = rw c.new-crashes.ensures.items (none_read IsCrash64 crash_text)

pub returns-in_default-clause-refused : goal.returns-in_default-clause-refused
returns-in_default-clause-refused c = λ crashes list.
    let turn = YieldsList-turn (YieldsList-from_str_split 44 c.args.text.now (lit< tt) (cc) (cc) (cc))
    c.loop-piece.yielded _ c.loop-piece.yielded_by _ _ c.in-Some.piece c.in-Some.is c.next.ensures.steps in
    unread_is_no_item IsCrash64 crash_text crash_no_comma _ crashes _ _ c.in_default.ensures.none turn list

pub loop-piece-preserved : goal.loop-piece-preserved
loop-piece-preserved c = rw (c.in_ok-push.ensures.items, map-append) (one_more_read IsCrash64
    crash_text _ _ _ c.in-Some-read_crash.crash c.loop-piece.invariant c.in-Some-read_crash.ensures.some c.in-Some-read_crash.ensures.small)

pub returns-clause-crashes : goal.returns-clause-crashes
returns-clause-crashes c =
    let end = YieldsList-end (YieldsList-from_str_split 44 c.args.text.now (lit< tt) (cc) (cc) (cc))
    c.loop-piece.yielded _ c.loop-piece.yielded_by _ _ c.in-None.is c.next.ensures.steps in
    all_read IsCrash64 crash_text _ _ _ c.loop-piece.invariant end.0
