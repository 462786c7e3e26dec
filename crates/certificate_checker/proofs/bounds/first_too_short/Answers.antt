use Rattle.std.proofs.Common.{ℕ, ◌≡◌, ◌+◌, ◌-◌, ◌<◌, length, get_or, subst, arith}
use Rattle.certificate_checker.specs.LongestSilences.{IsTooShort}
use Rattle.certificate_checker.proofs.RowSearches.{no_row, row_at_next}
use Rattle.certificate_checker.proofs.FailingRows.{FoundAfter, found_here, found_passed, found_all, gst_below}
use Rattle.certificate_checker.proofs.LongestSilences.{too_short_low, too_short_here, too_short_not}
use Rattle.certificate_checker.proofs.bounds.first_too_short.Goals as goal
use Rattle.certificate_checker.proofs.bounds.first_too_short.Goals.{else-length-gt0-via-then-length-gt0+else-rows-k, else-length-gt0-via-else-length-gt0}

pub loop-k-preserved-then-rows-k : goal.loop-k-preserved-then-rows-k
loop-k-preserved-then-rows-k c =
    let i = c.loop-k.k - 1 in
    let rows = c.args.rows.now in
    let closings = c.args.closings.now in
    let inside : i < length rows = omega (arith, c.loop-k-test.true, c.loop-k.invariant.end) in
    record {
      end = omega (arith, c.loop-k.invariant.end);
      high = omega (arith, c.requires.order.end (i + 1) (get_or rows i no_row) (row_at_next rows i no_row inside));
      known = c.silence_from-longest.ensures;
      above = λ j r. gst_below rows (length closings - 1) i j r c.requires.order inside;
      found = found_here (IsTooShort closings rows) i c.silence_from-longest.result
          (too_short_here closings rows i c.silence_from-longest.result inside c.silence_from-longest.ensures
          c.if-length-gt0.true c.if-rows-k.true);
    }

pub loop-k-preserved : goal.loop-k-preserved
loop-k-preserved c =
    let i = c.loop-k.k - 1 in
    let rows = c.args.rows.now in
    let closings = c.args.closings.now in
    let longest = c.silence_from-longest.result in
    let inside : i < length rows = omega (arith, c.loop-k-test.true, c.loop-k.invariant.end) in
    let next : c.loop-k.k ≡ i + 1 = omega (arith, c.loop-k-test.true) in
    let long : 0 < longest.end - longest.start → longest.end - longest.start < (get_or rows i no_row).phi = elim c.else-length-gt0.branch [
      | else-length-gt0-via-then-length-gt0+else-rows-k w ↦ λ _. w.if-rows-k.false
      | else-length-gt0-via-else-length-gt0 w ↦ λ l. absurd (let none = w.if-length-gt0.false in omega (arith, l, none))
    ] in
    record {
      end = omega (arith, c.loop-k.invariant.end);
      high = omega (arith, c.requires.order.end (i + 1) (get_or rows i no_row) (row_at_next rows i no_row inside));
      known = c.silence_from-longest.ensures;
      above = λ j r. gst_below rows (length closings - 1) i j r c.requires.order inside;
      found = found_passed (IsTooShort closings rows) i c.loop-k.found (too_short_not closings rows i longest c.silence_from-longest.ensures
          long) (subst (λ (k : ℕ). FoundAfter (IsTooShort closings rows) k c.loop-k.found) next c.loop-k.invariant.found);
    }

pub returns : goal.returns
returns c =
    let zero_left : c.loop-k.k ≡ 0 = omega (arith, c.loop-k-test.false) in
    found_all (IsTooShort c.args.closings.now c.args.rows.now) c.loop-k.found (too_short_low c.args.closings.now c.args.rows.now)
    (subst (λ (k : ℕ). FoundAfter (IsTooShort c.args.closings.now c.args.rows.now) k c.loop-k.found) zero_left c.loop-k.invariant.found)
