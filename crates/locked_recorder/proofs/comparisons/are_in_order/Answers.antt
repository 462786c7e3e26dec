use Rattle.std.proofs.Common.{◌∙◌, refl, ap, arith}
use Rattle.locked_recorder.specs.Seats.{Turns}
use Rattle.locked_recorder.proofs.SeatOrder.{AreInOrder-first, length-in_order, place-in_order}
use Rattle.locked_recorder.proofs.comparisons.are_in_order.Goals as goal

pub returns-then-seats-n : goal.returns-then-seats-n
returns-then-seats-n c = (
  λ e. cc e,
  λ order. absurd (let count = length-in_order c.args.config.now c.args.seats.now order in
      let n = c.n.ensures.value in c.if-seats-n.true (omega arith)),
)

pub returns-then-proc-i : goal.returns-then-proc-i
returns-then-proc-i c =
    let at = c.index-seats-i.result in (
      λ e. cc e,
      λ order. absurd (c.if-proc-i.true (c.proc.ensures ∙ ap (λ (s : Turns). s.proc) c.index-seats-i.is
          ∙ place-in_order c.args.config.now c.args.seats.now c.loop-i.i at order c.loop-i-test.true)),
    )

pub returns : goal.returns
returns c =
    let n = c.n.ensures.value in
    let count = c.if-seats-n.false in
    let last = c.loop-i-test.false in
    (λ _. AreInOrder-first c.args.config.now c.args.seats.now (omega arith) (λ k d l. c.loop-i.invariant k d (omega arith)), λ _. refl)
