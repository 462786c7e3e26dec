-- Words of formulas: which number they write, and where they have white space around them.
use Rattle.std.proofs.Common.{ℕ, ◌≡◌, ◌≢◌, ◌^◌, ◌<◌, List, [], ◌∷◌, length, Bool, true, false, ◌&&◌, refl, sym, ap, ◌∙◌, arith}
use Rattle.std.specs.Prelude.{Some, None, decimal, nat_lt, bytes_eq, if◌then◌else◌}
use Rattle.std.specs.Str.{IsTrimAscii}
use Rattle.std.specs.Str.Parse.{digits_value}
use Rattle.std.proofs.lemmas.Bool.Decides.{nat_tests}
use Rattle.std.proofs.lemmas.Fmt.{decimal_is_IsNumeral}
use Rattle.std.proofs.lemmas.Slice.Eq.{bytes_eq-Decides}
use Rattle.std.proofs.lemmas.Str.Ascii.{trim_ascii_is}
use Rattle.decision_claims.specs.FormulaTexts.{number_of, word_between, word_lexeme, worded}

-- the number whose decimal a word is
pub number_written : (word : List ℕ) (k : ℕ) → k < 2 ^ 64 → word ≡ decimal k → number_of word ≡ Some k
unfolding number_of
number_written word k small e =
    let value : digits_value 10 word ≡ k = ap (digits_value 10) e ∙ (decimal_is_IsNumeral k small).1 in
    let same : bytes_eq (decimal k) word ≡ true = (bytes_eq-Decides (decimal k) word).1 (sym e) in
    let fits : nat_lt k (2 ^ 64) ≡ true = grind (arith, nat_tests) in
    rw (value, same, fits) refl

-- a word that is no decimal writes none
pub no_number : (word : List ℕ) → ((n : ℕ) → n < 2 ^ 64 → word ≢ decimal n) → number_of word ≡ None
unfolding number_of
no_number word none = go (bytes_eq (decimal (digits_value 10 word)) word) (nat_lt (digits_value 10 word) (2 ^ 64)) refl refl where
  go : (a b : Bool) → bytes_eq (decimal (digits_value 10 word)) word ≡ a → nat_lt (digits_value 10 word) (2 ^ 64) ≡ b
      → (if (a && b) then Some (digits_value 10 word) else None) ≡ None
  go true true e f =
      absurd (none (digits_value 10 word) (grind (arith, nat_tests)) (sym ((bytes_eq-Decides (decimal (digits_value 10 word)) word).0 e)))
  go true false e f = refl
  go false b e f = refl

worded-some : (word : List ℕ) → (length word ≡ 0 → ⊥) → worded word ≡ word_lexeme word ∷ []
worded-some [] some = absurd (some refl)
worded-some (x ∷ word) some = refl

worded-none : (word : List ℕ) → length word ≡ 0 → worded word ≡ []
worded-none [] none = refl
worded-none (x ∷ word) none = absurd (omega (arith, none))

-- what is between two signs, by its word without white space
pub word_there : (piece word : List ℕ) → IsTrimAscii piece word → (length word ≡ 0 → ⊥) → word_between piece ≡ word_lexeme word ∷ []
unfolding word_between
word_there piece word is some = ap worded (sym (trim_ascii_is piece word _ refl is)) ∙ worded-some word some

pub no_word : (piece word : List ℕ) → IsTrimAscii piece word → length word ≡ 0 → word_between piece ≡ []
unfolding word_between
no_word piece word is none = ap worded (sym (trim_ascii_is piece word _ refl is)) ∙ worded-none word none
