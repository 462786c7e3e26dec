-- The numbers that words are, as the program reads them and as its definition says.
use Rattle.std.proofs.Common.{◌≡◌, ◌<◌, ◌≤◌, ◌^◌, ap, sym, refl, Bool, true, false, ℕ, Some, None, arith}
use Rattle.std.specs.Prelude.{if◌then◌else◌}
use Rattle.std.specs.Str.Parse.{IsNumeral, digits_value, without_leading_plus}
use Rattle.clap.proofs.ValueTestLemmas.{Accepts-accepts, accepts-Accepts}
use Rattle.clap.specs.ValueTests.{is_unsigned_in}
use Rattle.clap.specs.Walk.{Text}
use Rattle.clap.specs.declared.builder.value_parser.ValueParser.TheVariants as vp
use Rattle.command_line.specs.Arguments.{number_of}

-- a text that is no numeral of 64 bits, or whose number lies outside the bounds, is no number
pub no_number : (least most : ℕ) (text : Text)
    → ¬ (IsNumeral 10 (without_leading_plus text) × (digits_value 10 (without_leading_plus text) < 2 ^ 64)
    × (least ≤ digits_value 10 (without_leading_plus text)) × (digits_value 10 (without_leading_plus text) ≤ most))
    → number_of least most text ≡ None
no_number least most text none = go (is_unsigned_in least most text) refl
  where
    go : (t : Bool) → is_unsigned_in least most text ≡ t → (if t then Some (digits_value 10 (without_leading_plus text)) else None) ≡ None
    go true e = absurd (none (accepts-Accepts false (vp.Unsigned least most) text e))
    go false e = refl

-- and else it is that number
pub one_number : (least most : ℕ) (text : Text) (value : ℕ)
    → IsNumeral 10 (without_leading_plus text) → digits_value 10 (without_leading_plus text) < 2 ^ 64
    → value ≡ digits_value 10 (without_leading_plus text) → least ≤ value → value ≤ most → number_of least most text ≡ Some value
one_number least most text value numeral small e low high = rw (Accepts-accepts false
    (vp.Unsigned least most) text (numeral, small, omega (arith, e, low), omega (arith, e, high))) (ap (λ n. Some n) (sym e))
