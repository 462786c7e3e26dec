use Rattle.std.proofs.Common.{ℕ, ◌≡◌, ◌+◌, ◌-◌, ◌<◌, List, length, get_or, Option, subst, arith}
use Rattle.certificate_checker.proofs.Common.{Miss, Row, Recorded, DeltaFails, Stands, KnowsMissesAfter}
use Rattle.certificate_checker.proofs.RowSearches.{no_row, row_at_next}
use Rattle.certificate_checker.proofs.LongerWitnesses.{HasSpan-of_miss}
use Rattle.certificate_checker.proofs.FailingRows.{FoundAfter, found_here, found_passed, found_all, from_below, delta_row_low, delta_fails, delta_stands_none, delta_stands_short}
use Rattle.certificate_checker.proofs.bounds.first_failing_delta.Goals as goal

-- row k fails with this miss
abbrev Fails : ℕ → Recorded → List Row → ℕ → Miss → Type 0
Fails set t rows k m = Stands set t rows (DeltaFails k m)

pub misses_from-longest-requires-clause-above : goal.misses_from-longest-requires-clause-above
misses_from-longest-requires-clause-above c =
    let i = c.loop-k.k - 1 in
    let some = c.loop-k-test.true in
    let end = c.loop-k.invariant.end in
    c.loop-k.invariant.above (i + 1) (get_or c.args.rows.now i no_row)
    (omega (arith, some)) (row_at_next c.args.rows.now i no_row (omega (arith, some, end)))

pub span-requires : goal.span-requires
span-requires c = HasSpan-of_miss c.args.set c.args.trace.now c.in-Some.miss (subst (λ (o : Option Miss). KnowsMissesAfter
    c.args.set c.args.trace.now c.misses_from-longest.result.after o) c.in-Some.is c.misses_from-longest.ensures.known).miss

pub loop-k-preserved-then-rows-k : goal.loop-k-preserved-then-rows-k
loop-k-preserved-then-rows-k c =
    let i = c.loop-k.k - 1 in
    let inside : i < length c.args.rows.now = omega (arith, c.loop-k-test.true, c.loop-k.invariant.end) in
    let long = c.if-rows-k.true in
    let span = c.span.ensures in
    let longest = subst (λ (o : Option Miss). KnowsMissesAfter c.args.set c.args.trace.now c.misses_from-longest.result.after o)
    c.in-Some.is c.misses_from-longest.ensures.known in
    record {
      end = omega (arith, c.loop-k.invariant.end);
      high = omega (arith, c.misses_from-longest.ensures.high, c.loop-k.invariant.high);
      known = c.misses_from-longest.ensures.known;
      above = from_below c.args.trace.now c.args.rows.now
          i c.misses_from-longest.result.after c.requires.order inside c.misses_from-longest.ensures.above;
      found = found_here (Fails c.args.set c.args.trace.now c.args.rows.now) i c.in-Some.miss
          (delta_fails c.args.set c.args.trace.now c.args.rows.now i c.misses_from-longest.result.after c.in-Some.miss
          inside longest c.misses_from-longest.ensures.above c.misses_from-longest.ensures.below
          (omega (arith, long, span)));
    }

pub loop-k-preserved-else-rows-k : goal.loop-k-preserved-else-rows-k
loop-k-preserved-else-rows-k c =
    let i = c.loop-k.k - 1 in
    let inside : i < length c.args.rows.now = omega (arith, c.loop-k-test.true, c.loop-k.invariant.end) in
    let next : c.loop-k.k ≡ i + 1 = omega (arith, c.loop-k-test.true) in
    let short = c.if-rows-k.false in
    let span = c.span.ensures in
    let longest = subst (λ (o : Option Miss). KnowsMissesAfter c.args.set c.args.trace.now c.misses_from-longest.result.after o)
    c.in-Some.is c.misses_from-longest.ensures.known in
    record {
      end = omega (arith, c.loop-k.invariant.end);
      high = omega (arith, c.misses_from-longest.ensures.high, c.loop-k.invariant.high);
      known = c.misses_from-longest.ensures.known;
      above = from_below c.args.trace.now c.args.rows.now
          i c.misses_from-longest.result.after c.requires.order inside c.misses_from-longest.ensures.above;
      found = found_passed (Fails c.args.set c.args.trace.now c.args.rows.now) i c.loop-k.found
          (delta_stands_short c.args.set c.args.trace.now c.args.rows.now i
          c.misses_from-longest.result.after c.in-Some.miss longest c.misses_from-longest.ensures.below (omega (arith, short, span))) (subst
          (λ (k : ℕ). FoundAfter (Fails c.args.set c.args.trace.now c.args.rows.now) k c.loop-k.found) next c.loop-k.invariant.found);
    }

pub loop-k-preserved : goal.loop-k-preserved
loop-k-preserved c =
    let i = c.loop-k.k - 1 in
    let inside : i < length c.args.rows.now = omega (arith, c.loop-k-test.true, c.loop-k.invariant.end) in
    let next : c.loop-k.k ≡ i + 1 = omega (arith, c.loop-k-test.true) in
    let none = subst (λ (o : Option Miss). KnowsMissesAfter c.args.set c.args.trace.now c.misses_from-longest.result.after o)
    c.in_default.is c.misses_from-longest.ensures.known in
    record {
      end = omega (arith, c.loop-k.invariant.end);
      high = omega (arith, c.misses_from-longest.ensures.high, c.loop-k.invariant.high);
      known = c.misses_from-longest.ensures.known;
      above = from_below c.args.trace.now c.args.rows.now
          i c.misses_from-longest.result.after c.requires.order inside c.misses_from-longest.ensures.above;
      found = found_passed (Fails c.args.set c.args.trace.now c.args.rows.now) i c.loop-k.found (delta_stands_none c.args.set
          c.args.trace.now c.args.rows.now i c.misses_from-longest.result.after none c.misses_from-longest.ensures.below) (subst
          (λ (k : ℕ). FoundAfter (Fails c.args.set c.args.trace.now c.args.rows.now) k c.loop-k.found) next c.loop-k.invariant.found);
    }

pub returns : goal.returns
returns c =
    let zero_left : c.loop-k.k ≡ 0 = omega (arith, c.loop-k-test.false) in
    found_all (Fails c.args.set c.args.trace.now c.args.rows.now) c.loop-k.found (delta_row_low c.args.set c.args.trace.now c.args.rows.now)
    (subst (λ (k : ℕ). FoundAfter (Fails c.args.set c.args.trace.now c.args.rows.now) k c.loop-k.found) zero_left c.loop-k.invariant.found)
