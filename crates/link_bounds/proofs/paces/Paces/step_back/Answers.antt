use Rattle.std.proofs.Common.{◌≤◌, ◌∙◌}
use Rattle.std.proofs.lemmas.List.{length-set}
use Rattle.suffix_staircase.proofs.NextSteps.{AreNextTicks-back}
use Rattle.link_bounds.proofs.OwnGaps.{bounds_back}
use Rattle.link_bounds.proofs.paces.Paces.step_back.Goals as goal

pub returns : goal.returns
returns c =
    let t = c.args.trace.now in
    let s = c.step_of.result.now in
    let old = c.args.self.now in
    let known = c.requires.known in
    let proc = c.step_of.ensures.sound.procs c.args.no s c.step_of.ensures.step in
    record {
      sound = known.sound;
      few = known.few;
      next = rw c.tick-tick.ensures.value (AreNextTicks-back (λ p. 1 ≤ p)
          t known.sound.time c.args.no s old.next_steps.items proc.0 proc.1 c.step_of.ensures.step known.next);
      long = length-set old.bounds.items s.proc c.bound_from.result ∙ known.long;
      each = λ p low high. rw (c.bound_from.ensures, c.tick-tick.ensures.value)
          (bounds_back t known.sound.time c.args.no s c.step_of.ensures.step proc.0 proc.1 old known p low high);
    }
