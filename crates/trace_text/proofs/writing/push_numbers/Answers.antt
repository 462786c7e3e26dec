use Rattle.std.proofs.Common.{sym}
use Rattle.std.proofs.lemmas.List.{append-nil}
use Rattle.trace_text.proofs.WrittenRecords.{numbers-turn, numbers-end}
use Rattle.trace_text.proofs.writing.push_numbers.Goals as goal

pub loop-number-init : goal.loop-number-init
loop-number-init c = sym (append-nil c.args.text.now.items)

pub loop-number-preserved : goal.loop-number-preserved
loop-number-preserved c = rw (c.in_ok-push_number.ensures, c.loop-number.invariant)
    (numbers-turn c.args.text.now.items c.args.between c.in-Some.front.now c.loop-number.number-index c.loop-number-test.true)

pub returns : goal.returns
returns c =
    let end = numbers-end c.args.text.now.items c.args.between c.args.numbers.now
    c.in-Some.front.now c.in-Some.last.now c.loop-number.number-index c.in-Some.ensures.cases.0 c.loop-number-test.false in
    rw (c.loop-number.invariant, end) at c.push_number-2.ensures
