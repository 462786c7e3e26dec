use Rattle.std.proofs.Common.{ℕ, ◌<◌, ◌≤◌, ◌∙◌, ◌&&◌, ◌==◌, length, refl, arith}
use Rattle.run_story.specs.MessageCounts.{is_lost}
use Rattle.run_story.specs.Messages.{receiver_of}
use Rattle.run_story.proofs.CountedMessages.{count-next, few-next}
use Rattle.run_story.proofs.losses.lost_counts.Goals as goal

pub note_lost-requires : goal.note_lost-requires
note_lost-requires c = λ p l.
    let within : p ≤ c.args.trace.now.config.n = omega (arith, l, c.loop-i.invariant.len) in
    let few = c.loop-i.invariant.few p within in
    omega (arith, few, c.loop-i-test.true, c.len-i-end.ensures.limit)

pub loop-i-preserved : goal.loop-i-preserved
loop-i-preserved c =
    let inside : (p : ℕ) → p ≤ c.args.trace.now.config.n
    → p < length c.loop-i.counts.items = λ p within. omega (arith, within, c.loop-i.invariant.len) in
    record {
      len = c.note_lost.ensures.len ∙ c.loop-i.invariant.len;
      each = λ p within. count-next (λ s. is_lost c.args.set c.args.trace.now s && receiver_of c.args.trace.now.steps s == p) c.loop-i.i _ _
          (c.is_lost-lost.result && c.receiver_of.result == p) (rw (c.is_lost-lost.ensures, c.receiver_of.ensures) refl)
          (c.loop-i.invariant.each p within) (c.note_lost.ensures.counts p (inside p within));
      few = λ p within. few-next c.loop-i.i _ _ (c.is_lost-lost.result && c.receiver_of.result == p)
          (c.loop-i.invariant.few p within) (c.note_lost.ensures.counts p (inside p within));
    }
