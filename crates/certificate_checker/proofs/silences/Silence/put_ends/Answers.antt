use Rattle.std.proofs.Common.{ℕ, ◌<◌, ◌∙◌, List, length, get_or, ap, arith}
use Rattle.certificate_checker.proofs.ClosedTicks.{PutsEnds-tick, PutsEnds-last}
use Rattle.certificate_checker.proofs.silences.Silence.put_ends.Goals as goal

pub loop-tick-preserved : goal.loop-tick-preserved
loop-tick-preserved c =
    let t = c.args.trace.now in
    let s = c.args.self.now in
    let i = c.loop-tick.tick-index in
    let known = c.loop-tick.invariant in
    let at = ap (λ (xs : List ℕ). get_or xs i 0) c.deref-tick-items.ensures.value in
    let size = ap (λ (xs : List ℕ). length xs) c.deref-tick-items.ensures.value in
    let inside : i < length s.ticks.items = omega (arith, c.loop-tick-test.true, size) in
    let tick = c.from-from.ensures in
    record {
      long = c.raise.ensures.long ∙ known.long;
      before = λ p own k upto. (let rise = own.rising k i 0 (omega (arith, upto)) inside in omega (arith, rise, at, tick));
      puts = λ p own.
          rw tick (PutsEnds-tick t p i c.loop-tick.from _ s c.args.ends.now.items c.loop-tick.ends.items
          c.raise.new.ends.items c.last_tick.ensures.timed own c.requires
          (known.before p own) inside at (known.puts p own) c.raise.ensures);
    }

pub returns : goal.returns
returns c = λ p own.
    let size = ap (λ (xs : List ℕ). length xs) c.deref-tick-items.ensures.value in
    PutsEnds-last c.args.trace.now p c.loop-tick.from
    c.args.self.now c.args.ends.now.items c.loop-tick.ends.items c.raise-2.new.ends.items own c.requires
    (λ k below. c.loop-tick.invariant.before p own k (omega (arith, below, size, c.loop-tick-test.false)))
    (c.loop-tick.invariant.puts p own) (rw c.last_tick.ensures.value at c.raise-2.ensures)
