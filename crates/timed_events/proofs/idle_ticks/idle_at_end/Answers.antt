use Rattle.std.proofs.Common.{◌≡◌, ◌+◌, refl, sym, subst, arith}
use Rattle.timed_events.specs.IdleWalks.{HaveEnded}
use Rattle.timed_events.proofs.IdleEnds.{ended-next}
use Rattle.timed_events.proofs.idle_ticks.idle_at_end.Goals as goal

pub loop-processor-preserved : goal.loop-processor-preserved
loop-processor-preserved c = subst
    (λ xs. HaveEnded c.args.n c.args.events.now c.args.ticks.now c.args.lasts.now c.args.last c.args.limit
    (c.loop-processor.processor + 1) xs) (sym c.in_ok-note_silence.ensures)
    (ended-next c.args.n c.args.events.now c.args.ticks.now c.args.lasts.now c.args.last c.args.limit
    c.loop-processor.processor _ c.loop-processor.idles.items (omega arith) refl c.loop-processor.invariant)

pub returns : goal.returns
returns c =
    let e : c.loop-processor.processor ≡ c.args.n = omega arith in
    subst (λ k. HaveEnded c.args.n c.args.events.now
    c.args.ticks.now c.args.lasts.now c.args.last c.args.limit k c.loop-processor.idles.items) e c.loop-processor.invariant
