use Rattle.std.proofs.Common.{◌≡◌, ◌<◌, get_or, subst, ◌∙◌, ap, arith, inl, inr}
use Rattle.std.specs.Char.{digit_value}
use Rattle.std.specs.Str.Parse.{AllDigits, digits_value}
use Rattle.std.proofs.lemmas.List.{take_all}
use Rattle.std.proofs.lemmas.Int.Digits.{digits_value_more, digits_more}
use Rattle.std.proofs.lemmas.Bool.Decides.{nat_tests}
use Rattle.std.proofs.lemmas.Fmt.{decimal_nonempty}
use Rattle.step_trace.proofs.Digits.{digits-decimal, decimal-digit, decimal-first_digits, decimal-leading_zero}
use Rattle.step_trace.proofs.numbers.read_number.Goals as goal

pub returns-then-field-eq0-clause-none : goal.returns-then-field-eq0-clause-none
returns-then-field-eq0-clause-none c = λ n h e. let some = rw (← e) at (decimal_nonempty n h) in omega (arith, some, c.if-field-eq0.true)

pub returns-then-field-gt1-clause-none : goal.returns-then-field-gt1-clause-none
returns-then-field-gt1-clause-none c = λ n h e. let one = decimal-leading_zero n _ h e c.if-field-eq48.true in
    omega (arith, one, c.if-field-gt1.true)

pub returns-then-not-is_ascii_digit-clause-none : goal.returns-then-not-is_ascii_digit-clause-none
returns-then-not-is_ascii_digit-clause-none c = λ n h e.
    let digit = decimal-digit n _ c.loop-byte.byte-index h e c.loop-byte-test.true in grind (arith, nat_tests)

pub returns-in_err-checked_mul-clause-none : goal.returns-in_err-checked_mul-clause-none
returns-in_err-checked_mul-clause-none c = rw c.from_residual.ensures (λ n h e.
    let first = decimal-first_digits n _ c.loop-byte.byte-index h e c.loop-byte-test.true in
    omega (arith, first, c.in_err-checked_mul.ensures, c.loop-byte.invariant.1))

pub returns-in_err-number-clause-none : goal.returns-in_err-number-clause-none
returns-in_err-number-clause-none c = rw c.from_residual-in_err-number.ensures (λ n h e.
    let digit : digit_value (get_or c.args.field.now c.loop-byte.byte-index 0) ≡ c.from.result = grind (arith, nat_tests) in
    let first = decimal-first_digits n _ c.loop-byte.byte-index h e c.loop-byte-test.true in
    omega (arith, first, digit, c.in_err-number.ensures, c.in_ok-checked_mul.ensures.1, c.loop-byte.invariant.1))

pub loop-byte-preserved : goal.loop-byte-preserved
loop-byte-preserved c =
    let i = c.loop-byte.byte-index in
    let field = c.args.field.now in
    let inside = c.loop-byte-test.true in
    let digit : digit_value (get_or field i 0) ≡ c.from.result = grind (arith, nat_tests) in
    let small : digit_value (get_or field i 0) < 10 = grind (arith, nat_tests) in (
      digits_more 10 field i inside c.loop-byte.invariant.0 small,
      omega (
        arith,
        digits_value_more 10 field i inside,
        digit,
        c.in_ok-number.ensures.1,
        c.in_ok-checked_mul.ensures.1,
        c.loop-byte.invariant.1,
      ),
      omega (arith, c.in_ok-number.ensures.0, c.in_ok-number.ensures.1),
    )

pub returns-clause-some : goal.returns-clause-some
returns-clause-some c =
    let all = take_all c.loop-byte.byte-index c.args.field.now c.loop-byte-test.false in
    digits-decimal c.args.field.now c.loop-byte.number
    (subst (AllDigits 10) all c.loop-byte.invariant.0) (c.loop-byte.invariant.1 ∙ ap (digits_value 10) all) c.loop-byte.invariant.2
    (omega (arith, c.if-field-eq0.false))
    (λ lead. elim c.else-field-eq48.either [ inl p ↦ omega (arith, p.1, c.if-field-eq0.false) | inr p ↦ absurd (p lead) ])
