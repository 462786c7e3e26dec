use Rattle.std.proofs.Common.{refl}
use Rattle.step_buffers.proofs.KeptProcessors.{IsProcessor-alike}
use Rattle.step_buffers.proofs.copies.copied_processor.Goals as goal

pub returns : goal.returns
returns c = λ config steps p is. IsProcessor-alike config steps p c.args.processor.now _
    (record {
      round = refl;
      last = refl;
      node = c.in_ok-copy.ensures;
      since = refl;
      buffer = c.in_ok-copy-2.ensures.items;
      inbox = c.in_ok-copy-3.ensures.moved;
      said = c.in_ok-share.ensures;
    })
    is
