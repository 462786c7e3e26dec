use Rattle.std.proofs.Common.{arith, sym}
use Rattle.step_trace.specs.DeliveryIndex.{flag_of}
use Rattle.step_trace.proofs.TickReasons.{refusal_in_receive}
use Rattle.step_trace.proofs.push_refusals.step_refusal.Goals as goal

pub returns-in-Receive : goal.returns-in-Receive
returns-in-Receive c =
    rw (c.ids_refusal.ensures, c.as_slice.ensures)
    (refusal_in_receive
    (record {
      config = c.args.config.now;
      steps = c.args.so_far.now.steps;
      ticks = c.args.so_far.now.ticks;
      last = c.args.last;
    }) c.args.tick c.args.step.now c.in-Receive.ids c.in-Receive.ends
    (flag_of c.args.taken.now) (let l = c.len.ensures in let m = c.if-len-ge-MAX_STEPS.false in omega (arith, l, m))
    (omega arith) (omega arith) (omega arith) (sym c.if-not-is_processor.ensures)
    (sym c.if-not-comes_after_last.ensures) c.in-Receive.is c.requires.index.each)
