-- The number of a field is the number below 2^64 whose text the field is.
use Rattle.std.proofs.Common.{ℕ, ◌≡◌, ◌≢◌, ◌<◌, ◌^◌, ◌==◌, ◌∙◌, List, Option, Some, None, Bool, true, false, ◌&&◌, cond, refl, sym, ap, arith, decimal, eq-eqb}
use Rattle.std.specs.Prelude.{nat_lt, IfSome, IfNone}
use Rattle.std.specs.Str.{bytes_eq}
use Rattle.std.specs.Str.Parse.{digits_value}
use Rattle.std.proofs.lemmas.Fmt.{digits_value-decimal}
use Rattle.std.proofs.lemmas.Slice.Eq.{bytes_eq-Decides}
use Rattle.std.proofs.lemmas.Bool.{eqb-true}
use Rattle.std.proofs.lemmas.Bool.Decides.{nat_tests}
use Rattle.step_trace.proofs.Digits.{decimal_digits}
use Rattle.trace_text.specs.Records.{number_of}

-- text that is the same is equal
pub bytes_eq-same : (a b : List ℕ) → a ≡ b → bytes_eq a b ≡ true
bytes_eq-same a b e = (bytes_eq-Decides a b).1 e

pub same-from_bytes_eq : (a b : List ℕ) → bytes_eq a b ≡ true → a ≡ b
same-from_bytes_eq a b e = (bytes_eq-Decides a b).0 e

pub bytes_eq-other : (a b : List ℕ) → a ≢ b → bytes_eq a b ≡ false
bytes_eq-other a b n = go (bytes_eq a b) refl where
  go : (t : Bool) → bytes_eq a b ≡ t → t ≡ false
  go true e = absurd (n (same-from_bytes_eq a b e))
  go false e = refl

-- the number of a number's text
pub number_of-decimal : (n : ℕ) → n < 2 ^ 64 → number_of (decimal n) ≡ Some n
unfolding number_of
number_of-decimal n h =
    let value = digits_value-decimal decimal_digits n h in
    let small : nat_lt n (2 ^ 64) ≡ true = grind (arith, nat_tests) in
    rw (value, small, bytes_eq-same (decimal n) (decimal n) refl) refl

some-cond : (b d : Bool) (v n : ℕ) → cond (b && d) (Some v) None ≡ Some n → (b ≡ true) × (d ≡ true) × (v ≡ n)
some-cond true true v n h = (refl, refl, cc)
some-cond true false v n h = cc
some-cond false d v n h = cc

-- if there is a number, the field is its text
pub number_of-some : (field : List ℕ) (n : ℕ) → number_of field ≡ Some n → (field ≡ decimal n) × (n < 2 ^ 64)
unfolding number_of
number_of-some field n h =
    let s = some-cond (nat_lt (digits_value 10 field) (2 ^ 64))
    (bytes_eq field (decimal (digits_value 10 field))) (digits_value 10 field) n h in
    let same : field ≡ decimal (digits_value 10 field) = same-from_bytes_eq field _ s.1 in
    let small : digits_value 10 field < 2 ^ 64 = let t = s.0 in grind (arith, nat_tests) in
    (rw (← s.2) same, rw (← s.2) small)

-- what reads a field's number so reads `number_of`
pub number_of-read : (field : List ℕ) (r : Option ℕ) → IfSome r (λ n. n < 2 ^ 64)
    → IfSome r (λ n. field ≡ decimal n) → IfNone r ((n : ℕ) → n < 2 ^ 64 → field ≢ decimal n) → r ≡ number_of field
number_of-read field (Some n) small some none = sym (ap number_of some ∙ number_of-decimal n small)
number_of-read field None small some none = go (number_of field) refl where
  go : (o : Option ℕ) → number_of field ≡ o → None ≡ o
  go None e = refl
  go (Some n) e = let s = number_of-some field n e in absurd (none n s.1 s.0)

-- a field is the text of a number if that is its number
pub bytes_eq-decimal : (field : List ℕ) (n m : ℕ) → n < 2 ^ 64 → number_of field ≡ Some m → (m == n) ≡ bytes_eq field (decimal n)
bytes_eq-decimal field n m h e = go (m == n) refl where
  go : (t : Bool) → (m == n) ≡ t → t ≡ bytes_eq field (decimal n)
  go true k = sym (bytes_eq-same field (decimal n) ((number_of-some field m e).0 ∙ ap decimal (eqb-true m n k)))
  go false k = sym (bytes_eq-other field (decimal n) (λ same.
      let value = sym e ∙ ap number_of same ∙ number_of-decimal n h in
      let equal : m ≡ n = cc in
      let test = eq-eqb m n equal in
      cc))

pub bytes_eq-no_number : (field : List ℕ) (n : ℕ) → n < 2 ^ 64 → number_of field ≡ None → false ≡ bytes_eq field (decimal n)
bytes_eq-no_number field n h e =
    sym (bytes_eq-other field (decimal n) (λ same. let value = sym e ∙ ap number_of same ∙ number_of-decimal n h in cc))
