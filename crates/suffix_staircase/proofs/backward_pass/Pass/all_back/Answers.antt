use Rattle.std.proofs.Common.{ℕ, ◌≡◌, ◌+◌, ◌-◌, ◌∙◌, sym, subst, arith}
use Rattle.suffix_staircase.proofs.Common.{tick_of, KnowsStepsAfter, KnowsTicksFrom}
use Rattle.suffix_staircase.proofs.LevelBounds.{AreLevels-from_first, KnowsTicksFrom-step}
use Rattle.suffix_staircase.proofs.TickBorders.{AreIdleUpTo-last, AreIdleUpTo-step}
use Rattle.suffix_staircase.proofs.backward_pass.Pass.all_back.Goals as goal

pub ticks_back-requires-clause-idle : goal.ticks_back-requires-clause-idle
ticks_back-requires-clause-idle c = rw (c.len-len.ensures.value, c.last_tick.ensures.value)
    (AreIdleUpTo-last c.args.trace.now c.last_tick.ensures.timed)

pub ticks_back-requires-clause-known : goal.ticks_back-requires-clause-known
ticks_back-requires-clause-known c = rw (c.len-len.ensures.value, c.last_tick.ensures.value) c.requires.known

pub loop-no-init : goal.loop-no-init
loop-no-init c =
    let last : c.len-len.result + 1 - 1 ≡ c.len-len.result = omega arith in
    record {
      start = omega arith;
      end = omega (arith, c.len-len.ensures.value);
      tick = rw last c.in_ok-tick.ensures.tick;
      known = rw last c.in_ok-tick.ensures.known;
    }

pub step_back-requires-clause-known : goal.step_back-requires-clause-known
step_back-requires-clause-known c =
    let steps = c.loop-no.invariant.known.steps in
    subst (λ (s : ℕ). KnowsStepsAfter s c.args.trace.now (c.loop-no.no - 1) c.loop-no.self) (sym steps.members) steps

pub ticks_back-requires-in-loop-no-clause-within : goal.ticks_back-requires-in-loop-no-clause-within
ticks_back-requires-in-loop-no-clause-within c =
    rw (c.step_back.ensures.known.members, c.loop-no.invariant.known.steps.members) c.requires.within

pub ticks_back-requires-in-loop-no-clause-idle : goal.ticks_back-requires-in-loop-no-clause-idle
ticks_back-requires-in-loop-no-clause-idle c = rw c.loop-no.invariant.tick (AreIdleUpTo-step c.args.trace.now c.last_tick.ensures.timed
    (c.loop-no.no - 1) (omega (arith, c.loop-no-test.true)) (omega (arith, c.loop-no.invariant.end)))

pub ticks_back-requires-in-loop-no-clause-known : goal.ticks_back-requires-in-loop-no-clause-known
ticks_back-requires-in-loop-no-clause-known c =
    let t = c.args.trace.now in
    let k = c.loop-no.no - 1 in
    let inv = c.loop-no.invariant.known in
    let back = c.step_back.ensures in
    let known = subst (λ (s : ℕ). KnowsTicksFrom s t k (tick_of t k + 1) c.loop-no.self c.loop-no.builder) (sym inv.steps.members) inv in
    rw c.loop-no.invariant.tick
    (subst (λ (s : ℕ). KnowsTicksFrom s t (k - 1) (tick_of t k + 1) c.step_back.new.self c.loop-no.builder) (sym back.known.members)
    (KnowsTicksFrom-step c.loop-no.self.set t k (tick_of t k + 1)
    c.loop-no.self c.step_back.new.self c.loop-no.builder known back.known back.falling back.phi back.gap))

pub loop-no-preserved : goal.loop-no-preserved
loop-no-preserved c =
    let k = c.loop-no.no - 1 - 1 in
    record {
      start = omega (arith, c.loop-no-test.true);
      end = omega (arith, c.loop-no.invariant.end);
      tick = c.in_ok-tick-2.ensures.tick;
      known = subst (λ (s : ℕ). KnowsTicksFrom s c.args.trace.now k
          (tick_of c.args.trace.now k + 1) c.ticks_back-in-loop-no.new.self c.ticks_back-in-loop-no.new.builder)
          (c.step_back.ensures.known.members ∙ c.loop-no.invariant.known.steps.members) c.in_ok-tick-2.ensures.known;
    }

pub returns : goal.returns
returns c =
    let first : c.loop-no.no ≡ 1 = omega (arith, c.loop-no.invariant.start, c.loop-no-test.false) in
    record {
      levels = AreLevels-from_first c.args.self.now.set c.args.trace.now c.loop-no.builder
          (rw first at c.loop-no.invariant.known).each;
    }
