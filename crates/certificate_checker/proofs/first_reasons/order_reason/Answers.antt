use Rattle.std.proofs.Common.{ℕ, get_or, Some, None, refl, arith}
use Rattle.certificate_checker.proofs.Common.{Recorded, FirstNotOne, NotRising, BeyondEnd, NotNonIncreasing, SameAsBefore}
use Rattle.certificate_checker.proofs.RowSearches.{no_row, row_at_next}
use Rattle.certificate_checker.proofs.ReasonOrder.{first_after, some_rows, first_is_one, none_in, first_in}
use Rattle.certificate_checker.proofs.first_reasons.order_reason.Goals as goal

pub returns-then-rows-ne1 : goal.returns-then-rows-ne1
returns-then-rows-ne1 c = λ (set : ℕ) (t : Recorded) e. first_after set t c.args.rows.now 1 1 2 2
    (Some FirstNotOne) refl (some_rows set t c.args.rows.now c.if-rows-eq0.false) (first_in set t c.args.rows.now FirstNotOne (
      record {
        row = get_or c.args.rows.now 0 no_row;
        here =
            row_at_next c.args.rows.now 0 no_row (let n = c.if-rows-eq0.false in omega (arith, n));
      },
      c.if-rows-ne1.true,
    ) (λ s. omega arith))

pub returns-in-Some : goal.returns-in-Some
returns-in-Some c = λ (set : ℕ) (t : Recorded) e. first_after set t c.args.rows.now 1 2 3 3
    (Some (NotRising c.in-Some.row)) refl (first_is_one set t c.args.rows.now c.if-rows-eq0.false c.if-rows-ne1.false)
    (first_in set t c.args.rows.now (NotRising c.in-Some.row) c.in-Some.ensures.0 c.in-Some.ensures.1)

pub returns-in-Some-first_beyond : goal.returns-in-Some-first_beyond
returns-in-Some-first_beyond c = λ (set : ℕ) (t : Recorded) e. let s = c.in-Some-first_beyond.ensures in
    first_after set t c.args.rows.now 1 3 4 4 (Some (BeyondEnd c.in-Some-first_beyond.row)) refl
    (first_after set t c.args.rows.now 1 2 3 3 None refl
    (first_is_one set t c.args.rows.now c.if-rows-eq0.false c.if-rows-ne1.false)
    (none_in set t c.args.rows.now 3 c.in_default.ensures))
    (first_in set t c.args.rows.now (BeyondEnd c.in-Some-first_beyond.row)
    (s.0.0, (let l = s.0.1 in omega (arith, l, e))) (λ j h. s.1 j (h.0, (let l = h.1 in omega (arith, l, e)))))

pub returns-in-Some-first_above : goal.returns-in-Some-first_above
returns-in-Some-first_above c = λ (set : ℕ) (t : Recorded) e.
    first_after set t c.args.rows.now 1 4 5 5 (Some (NotNonIncreasing c.in-Some-first_above.row)) refl
    (first_after set t c.args.rows.now 1 3 4 4 None refl (first_after set t c.args.rows.now 1 2 3 3 None refl
    (first_is_one set t c.args.rows.now c.if-rows-eq0.false c.if-rows-ne1.false) (none_in set t c.args.rows.now 3 c.in_default.ensures))
    (none_in set t c.args.rows.now 4 (λ k s. c.in_default-first_beyond.ensures k (s.0, (let l = s.1 in omega (arith, l, e)))))) (first_in
    set t c.args.rows.now (NotNonIncreasing c.in-Some-first_above.row) c.in-Some-first_above.ensures.0 c.in-Some-first_above.ensures.1)

pub returns-in-Some-first_repeated : goal.returns-in-Some-first_repeated
returns-in-Some-first_repeated c = λ (set : ℕ) (t : Recorded) e. let s = c.in-Some-first_repeated.ensures in
    first_after set t c.args.rows.now 1 5 6 6 (Some (SameAsBefore c.in-Some-first_repeated.row)) refl
    (first_after set t c.args.rows.now 1 4 5 5 None refl
    (first_after set t c.args.rows.now 1 3 4 4 None refl
    (first_after set t c.args.rows.now 1 2 3 3 None refl
    (first_is_one set t c.args.rows.now c.if-rows-eq0.false c.if-rows-ne1.false)
    (none_in set t c.args.rows.now 3 c.in_default.ensures))
    (none_in set t c.args.rows.now 4
    (λ k s. c.in_default-first_beyond.ensures k (s.0, (let l = s.1 in omega (arith, l, e))))))
    (none_in set t c.args.rows.now 5 c.in_default-first_above.ensures))
    (first_in set t c.args.rows.now (SameAsBefore c.in-Some-first_repeated.row) (s.0.0, s.0.1.0, s.0.1.1) (λ j h. s.1 j (h.0, (h.1, h.2))))

pub returns : goal.returns
returns c = λ (set : ℕ) (t : Recorded) e.
    (first_after set t c.args.rows.now 1 5 6 6 None refl
    (first_after set t c.args.rows.now 1 4 5 5 None refl
    (first_after set t c.args.rows.now 1 3 4 4 None refl
    (first_after set t c.args.rows.now 1 2 3 3 None refl
    (first_is_one set t c.args.rows.now c.if-rows-eq0.false c.if-rows-ne1.false)
    (none_in set t c.args.rows.now 3 c.in_default.ensures))
    (none_in set t c.args.rows.now 4
    (λ k s. c.in_default-first_beyond.ensures k (s.0, (let l = s.1 in omega (arith, l, e))))))
    (none_in set t c.args.rows.now 5 c.in_default-first_above.ensures))
    (none_in set t c.args.rows.now 6 (λ k s. c.in_default-first_repeated.ensures k (s.0, (s.1, s.2)))))
