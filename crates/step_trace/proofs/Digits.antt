-- Digits and the number that they write in decimal.
use Rattle.std.proofs.Common.{◌≡◌, ◌<◌, ◌≤◌, ◌+◌, ◌*◌, ◌^◌, ℕ, zero, suc, List, length, decimal, get_or, take, sym, subst, refl, arith}
use Rattle.std.specs.Char.{digit_value}
use Rattle.std.specs.Int.{IsInRange}
use Rattle.std.specs.Str.Parse.{AllDigits, digits_value}
use Rattle.std.proofs.lemmas.Str.Parse.{IsNumeralModel, digit_at, digits_value-take-le}
use Rattle.std.proofs.lemmas.Int.Digits.{digits_value_more}
use Rattle.std.proofs.lemmas.Fmt.{decimal-digits_value, digits_decimal, digits_value-decimal, first_decimal, decimal_digit}

-- the digits of base 10, as std's laws of numerals want them
pub decimal_digits : IsNumeralModel (AllDigits 10) (digits_value 10)
decimal_digits = record { to = λ ds h. h; from = λ ds h. h; same = λ ds h. refl }

-- digits with no leading zero are the text of their number
pub digits-decimal : (bs : List ℕ) (n : ℕ) → AllDigits 10 bs
    → n ≡ digits_value 10 bs → n < 2 ^ 64 → 0 < length bs → (get_or bs 0 0 ≡ 48 → length bs ≡ 1) → bs ≡ decimal n
digits-decimal bs n digits e h some lead = rw e (sym (decimal-digits_value decimal_digits bs digits some lead (rw (← e) h)))

-- a number's text has only digits
pub decimal-digit : (n : ℕ) (bs : List ℕ) (i : ℕ) → n < 2 ^ 64 → bs ≡ decimal n → i < length bs → IsInRange 48 57 (get_or bs i 0)
decimal-digit n bs i h e inside = digit_at bs i (subst (AllDigits 10) (sym e) (digits_decimal decimal_digits n h)) inside

-- its first digits write no greater number
pub decimal-first_digits : (n : ℕ) (bs : List ℕ) (i : ℕ)
    → n < 2 ^ 64 → bs ≡ decimal n → i < length bs → digits_value 10 (take i bs) * 10 + digit_value (get_or bs i 0) ≤ n
decimal-first_digits n bs i h e inside =
    let whole : digits_value 10 bs ≡ n = rw e (digits_value-decimal decimal_digits n h) in
    omega (arith, digits_value_more 10 bs i inside, digits_value-take-le 10 bs (i + 1) (omega arith), whole)

-- zero has one digit
zero-text : length (decimal 0) ≡ 1
zero-text = rw (decimal_digit 0 (omega arith)) refl

-- its first digit is no zero if there are more
pub decimal-leading_zero : (n : ℕ) (bs : List ℕ) → n < 2 ^ 64 → bs ≡ decimal n → get_or bs 0 0 ≡ 48 → length bs ≡ 1
decimal-leading_zero zero bs h e k = rw e zero-text
decimal-leading_zero (suc n) bs h e k = let f = first_decimal (suc n) (omega arith) h in
    let same = rw e at k in absurd (omega (arith, same, f))
