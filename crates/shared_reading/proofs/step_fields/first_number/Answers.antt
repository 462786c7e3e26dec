use Rattle.std.proofs.Common.{◌≡◌, ◌<◌, ◌∙◌, get_or, length, take, length-take, get_or-take, sym, ap, arith, rules}
use Rattle.std.specs.Char.{digit_value}
use Rattle.std.proofs.lemmas.Int.Digits.{digits_value_more, digits_more}
use Rattle.std.proofs.lemmas.Bool.Decides.{nat_tests}
use Rattle.step_trace.proofs.Digits.{digits-decimal}
use Rattle.trace_text.specs.Records.{number_of}
use Rattle.trace_text.proofs.Numbers.{number_of-decimal}
use Rattle.shared_reading.proofs.step_fields.first_number.Goals as goal
use Rattle.shared_reading.proofs.step_fields.first_number.Goals.{else-digits-gt1-via-then-digits-gt1+else-bytes-eq48, else-digits-gt1-via-else-digits-gt1}

pub loop-byte-preserved : goal.loop-byte-preserved
loop-byte-preserved c =
    let i = c.loop-byte.digits in
    let bytes = c.args.bytes.now in
    let kept = c.loop-byte.invariant in
    let inside : i < length bytes = search rules in
    let digit : digit_value (get_or bytes i 0) ≡ c.from.result = grind (arith, nat_tests) in
    let small : digit_value (get_or bytes i 0) < 10 = grind (arith, nat_tests) in (
      omega (arith, inside),
      digits_more 10 bytes i inside kept.1 small,
      omega (arith, digits_value_more 10 bytes i inside, digit, c.in_ok-number.ensures.1, c.in_ok-checked_mul.ensures.1, kept.2),
      omega (c.in_ok-number.ensures.0, c.in_ok-number.ensures.1, arith),
    )

pub returns : goal.returns
returns c =
    let bytes = c.args.bytes.now in
    let kept = c.loop-byte.invariant in
    let front = take c.loop-byte.digits bytes in
    let len : length front ≡ c.loop-byte.digits = omega (arith, length-take c.loop-byte.digits bytes, kept.0) in
    let some = c.if-digits-eq0.false in
    let lead : get_or front 0 0 ≡ 48 → length front ≡ 1 = λ zero. elim c.else-digits-gt1.branch [
      | else-digits-gt1-via-then-digits-gt1+else-bytes-eq48 w ↦ absurd
          (w.if-bytes-eq48.false (sym (get_or-take c.loop-byte.digits bytes 0 0 (omega (arith, some))) ∙ zero))
      | else-digits-gt1-via-else-digits-gt1 w ↦ omega (arith, len, some, w.if-digits-gt1.false)
    ] in
    record {
      digits = kept.0;
      number = ap number_of (digits-decimal front c.loop-byte.number kept.1 kept.2 kept.3 (omega (arith, len, some)) lead)
          ∙ number_of-decimal c.loop-byte.number kept.3;
    }
