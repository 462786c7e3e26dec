use Rattle.std.proofs.Common.{◌≡◌, ◌+◌, ◌-◌, ◌∙◌, List, ◌∷◌, ap, sym, subst, arith}
use Rattle.suffix_staircase.proofs.Common.{tick_of, Level, KnowsTicksFrom}
use Rattle.suffix_staircase.proofs.GapBounds.{phi_positive}
use Rattle.suffix_staircase.proofs.LevelBounds.{TickLowered, TickLowered-with_gap}
use Rattle.suffix_staircase.proofs.backward_pass.Pass.ticks_back.Goals as goal
use Rattle.suffix_staircase.proofs.backward_pass.Pass.ticks_back.Goals.{After-tick_back}

pub tick_back-requires-clause-positive : goal.tick_back-requires-clause-positive
tick_back-requires-clause-positive c = phi_positive
    c.args.self.now.set c.args.trace.now c.loop-g.g c.loop-g.self.level.phi c.loop-g.self.level.gap c.loop-g.invariant.known.gaps.named

pub tick_back-requires-clause-latest : goal.tick_back-requires-clause-latest
tick_back-requires-clause-latest c = c.loop-g.invariant.known.steps.next_steps.latest.within

-- one tick back by the longest gap that begins there
lowered : (c : After-tick_back)
    → TickLowered c.args.self.now.set c.args.trace.now c.args.done (c.loop-g.g - 1) c.tick_back.new.self c.loop-g.builder
lowered c =
    let g = c.loop-g.g - 1 in
    let next : c.loop-g.g ≡ g + 1 = omega (arith, c.loop-g-test.true) in
    TickLowered-with_gap c.args.self.now.set c.args.trace.now c.args.done c.args.high g c.loop-g.self c.tick_back.new.self c.loop-g.builder
    c.requires.timed c.requires.within c.requires.done c.requires.idle
    (omega (arith, c.loop-g-test.true, c.tick_at-tick.ensures.value))
    (omega (arith, c.loop-g.invariant.high, c.loop-g-test.true)) (rw next at c.loop-g.invariant.known)
    (record { set = c.tick_back.ensures.set; receives = c.tick_back.ensures.receives; next_steps = c.tick_back.ensures.next_steps })
    (c.tick_back.ensures.kept ∙ c.tick_back.ensures.level)

pub lower-requires-clause-room : goal.lower-requires-clause-room
lower-requires-clause-room c =
    omega (arith, c.loop-g.invariant.known.each.count, c.requires.timed.end, c.loop-g-test.true)

pub lower-requires-clause-falling : goal.lower-requires-clause-falling
lower-requires-clause-falling c = rw c.tick_back.ensures.kept at (lowered c).falling

pub loop-g-preserved : goal.loop-g-preserved
loop-g-preserved c =
    record {
      low = omega (arith, c.loop-g-test.true, c.tick_at-tick.ensures.value);
      high = omega (arith, c.loop-g.invariant.high);
      known = subst (λ (levels : List Level). KnowsTicksFrom c.args.self.now.set c.args.trace.now c.args.done
          (c.loop-g.g - 1) c.tick_back.new.self levels) (ap (λ (l : Level). l ∷ c.loop-g.builder) c.tick_back.ensures.kept
          ∙ sym c.in_ok-lower.ensures.ok) (lowered (goal.at.loop-g-preserved c).After-tick_back).known;
    }

pub returns : goal.returns
returns c =
    let first : c.loop-g.g ≡ tick_of c.args.trace.now c.args.done + 1 =
    omega (arith, c.loop-g.invariant.low, c.tick_at-tick.ensures.value, c.loop-g-test.false) in
    record { known = rw first at c.loop-g.invariant.known; tick = c.tick_at-tick.ensures.value }
