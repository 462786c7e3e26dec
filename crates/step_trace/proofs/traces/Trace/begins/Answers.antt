use Rattle.std.proofs.Common.{◌≡◌, ◌≢◌, ◌+◌, ◌<◌, ◌≤◌, length, inl, refl, eq-eqb, arith}
use Rattle.std.proofs.lemmas.Bool.Decides.{nat_tests}
use Rattle.step_trace.specs.Traces.{Recorded}
use Rattle.step_trace.specs.Ticks.{tick_of}
use Rattle.step_trace.proofs.ExtendedTraces.{Extends-by_first, further_from_first}
use Rattle.step_trace.proofs.SamePrefixes.{begins_from_same}
use Rattle.step_trace.proofs.traces.Trace.begins.Goals as goal

pub returns-then-len : goal.returns-then-len
returns-then-len c =
    let longer : Recorded = record {
      config = c.self.inside.config;
      steps = c.self.inside.placed.steps;
      ticks = c.self.inside.placed.ticks;
      last = c.self.inside.last;
    } in
    let shorter : Recorded = record {
      config = c.other.inside.config;
      steps = c.other.inside.placed.steps;
      ticks = c.other.inside.placed.ticks;
      last = c.other.inside.last;
    } in
    let config : c.self.inside.config ≡ c.other.inside.config = c.if-not-is_same.ensures.0 refl in
    let a = c.len.ensures.steps in let past = c.if-first_difference-len.false in
    let after : length shorter.steps < c.first_difference.result = grind (arith, nat_tests) in
    let before = rw (← c.self.view_is, ← c.other.view_is) at c.first_difference.ensures.before in
    let begins =
    begins_from_same longer shorter c.self.invariant.0.time.each c.other.invariant.0.time.each c.first_difference.result after before in
    let last : c.other.inside.last ≤ c.self.inside.last = omega arith in
    let b = c.len-2.ensures.steps in let d = c.len-3.ensures.steps in let e = c.if-len.true in
    let equal : length longer.steps ≡ length shorter.steps = grind (arith, nat_tests) in
    rw (← c.self.view_is, ← c.other.view_is) (
      λ _. record {
        config = config;
        steps = begins.0;
        ticks = begins.1;
        last = last;
        later = further_from_first longer shorter c.self.invariant.0.time (inl equal);
      },
      λ _. eq-eqb _ _ e,
    )

pub returns-else-len : goal.returns-else-len
returns-else-len c =
    let longer : Recorded = record {
      config = c.self.inside.config;
      steps = c.self.inside.placed.steps;
      ticks = c.self.inside.placed.ticks;
      last = c.self.inside.last;
    } in
    let shorter : Recorded = record {
      config = c.other.inside.config;
      steps = c.other.inside.placed.steps;
      ticks = c.other.inside.placed.ticks;
      last = c.other.inside.last;
    } in
    let config : c.self.inside.config ≡ c.other.inside.config = c.if-not-is_same.ensures.0 refl in
    let a = c.len.ensures.steps in let past = c.if-first_difference-len.false in
    let after : length shorter.steps < c.first_difference.result = grind (arith, nat_tests) in
    let before = rw (← c.self.view_is, ← c.other.view_is) at c.first_difference.ensures.before in
    let begins =
    begins_from_same longer shorter c.self.invariant.0.time.each c.other.invariant.0.time.each c.first_difference.result after before in
    let last : c.other.inside.last ≤ c.self.inside.last = omega arith in
    let b = c.len-2.ensures.steps in let d = c.len-3.ensures.steps in
    let other : length longer.steps ≢ length shorter.steps = λ e. (let f = c.if-len.false in grind (arith, nat_tests)) in
    let tick : c.tick.result ≡ tick_of longer (length shorter.steps + 1) = rw c.len-else-len.ensures.steps at c.tick.ensures in
    let both = Extends-by_first longer shorter c.tick.result c.self.invariant.0.time config begins.0 begins.1 last other tick in
    rw (← c.self.view_is, ← c.other.view_is) (λ t. both.0 (grind (arith, nat_tests)), λ e. let l = both.1 e in grind (arith, nat_tests))
