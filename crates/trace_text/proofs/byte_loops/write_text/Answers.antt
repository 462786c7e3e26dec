use Rattle.std.proofs.Common.{◌∙◌, arith, length, ap, length-drop}
use Rattle.trace_text.proofs.Bytes.{wrote_more, not_idle, rest_of_text}
use Rattle.trace_text.proofs.byte_loops.write_text.Goals as goal

pub loop-written-preserved : goal.loop-written-preserved
loop-written-preserved g c =
    let text = c.args.text.now in
    let written = c.loop-written.written in record {
      limit =
          omega (arith, c.in-Ok.ensures.bound, ap length (rest_of_text text written), length-drop written text, c.loop-written-test.true);
      front = wrote_more _ _ _ text written c.in-Ok.taken c.loop-written.invariant.front c.in-Ok.ensures.bytes;
      faults = c.in-Ok.ensures.faults ∙ c.loop-written.invariant.faults;
      idle_writes = not_idle c.in-Ok.taken _ _ _ c.if-taken-eq0.false c.in-Ok.ensures.idle_writes ∙ c.loop-written.invariant.idle_writes;
    }
