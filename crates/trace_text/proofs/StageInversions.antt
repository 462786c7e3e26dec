-- What an accepted record says: the parts of the table that were passed.
use Rattle.std.proofs.Common.{ℕ, suc, ◌≡◌, List, [], ◌∷◌, ◌++◌, length, drop, Option, Some, None, Result, Ok, Err, Bool, true, false, cond, refl, ap, arith}
use Rattle.std.specs.Option.{ok_or}
use Rattle.csv.specs.Records.{field_at}
use Rattle.trace_text.specs.declared.refusals.TextError.{TextError}
use Rattle.trace_text.specs.Records.{field_of, ◌>>=◌}

-- a test that was passed
pub passed : {A : Type 0} (b : Bool) (r : Result A TextError) (e : TextError) (x : A) → cond b r (Err e) ≡ Ok x → (b ≡ true) × (r ≡ Ok x)
passed true r e x h = (refl, h)
passed false r e x h = cc h

-- a part that was read, and what was made of it
pub read_part : {A B : Type 0} (o : Option A) (e : TextError) (f : A → Result B TextError) (x : B)
    → ok_or o e >>= f ≡ Ok x → (a : A) × (o ≡ Some a) × (f a ≡ Ok x)
read_part (Some a) e f x h = (a, refl, h)
read_part None e f x h = cc h

pub read_result : {A B : Type 0} (r : Result A TextError) (f : A → Result B TextError) (x : B)
    → r >>= f ≡ Ok x → (a : A) × (r ≡ Ok a) × (f a ≡ Ok x)
read_result (Ok a) f x h = (a, refl, h)
read_result (Err e) f x h = cc h

-- a record of so many fields is their list
four_fields : (fields : List (List ℕ)) → length fields ≡ 4
    → fields ≡ field_of fields 0 ∷ field_of fields 1 ∷ field_of fields 2 ∷ field_of fields 3 ∷ []
unfolding field_at
four_fields [] h = absurd (omega (arith, h))
four_fields (a ∷ []) h = absurd (omega (arith, h))
four_fields (a ∷ b ∷ []) h = absurd (omega (arith, h))
four_fields (a ∷ b ∷ c ∷ []) h = absurd (omega (arith, h))
four_fields (a ∷ b ∷ c ∷ d ∷ []) h = refl
four_fields (a ∷ b ∷ c ∷ d ∷ e ∷ more) h = let l : suc (suc (suc (suc (suc (length more))))) ≡ 4 = h in absurd (omega (arith, l))

two_fields : (fields : List (List ℕ)) → length fields ≡ 2 → fields ≡ field_of fields 0 ∷ field_of fields 1 ∷ []
unfolding field_at
two_fields [] h = absurd (omega (arith, h))
two_fields (a ∷ []) h = absurd (omega (arith, h))
two_fields (a ∷ b ∷ []) h = refl
two_fields (a ∷ b ∷ c ∷ more) h = let l : suc (suc (suc (length more))) ≡ 2 = h in absurd (omega (arith, l))

pub four_are : (fields : List (List ℕ)) (a b c d : List ℕ) → length fields ≡ 4 → field_of fields 0 ≡ a
    → field_of fields 1 ≡ b → field_of fields 2 ≡ c → field_of fields 3 ≡ d → fields ≡ a ∷ b ∷ c ∷ d ∷ []
four_are fields a b c d l p q r s = let e = four_fields fields l in cc

five_fields : (fields : List (List ℕ)) → length fields ≡ 5
    → fields ≡ field_of fields 0 ∷ field_of fields 1 ∷ field_of fields 2 ∷ field_of fields 3 ∷ field_of fields 4 ∷ []
unfolding field_at
five_fields [] h = absurd (omega (arith, h))
five_fields (a ∷ []) h = absurd (omega (arith, h))
five_fields (a ∷ b ∷ []) h = absurd (omega (arith, h))
five_fields (a ∷ b ∷ c ∷ []) h = absurd (omega (arith, h))
five_fields (a ∷ b ∷ c ∷ d ∷ []) h = absurd (omega (arith, h))
five_fields (a ∷ b ∷ c ∷ d ∷ e ∷ []) h = refl
five_fields (a ∷ b ∷ c ∷ d ∷ e ∷ f ∷ more) h = let l : suc (suc (suc (suc (suc (suc (length more)))))) ≡ 5 = h in absurd (omega (arith, l))

pub five_are : (fields : List (List ℕ)) (a b c d e : List ℕ) → length fields ≡ 5 → field_of fields 0 ≡ a
    → field_of fields 1 ≡ b → field_of fields 2 ≡ c → field_of fields 3 ≡ d → field_of fields 4 ≡ e → fields ≡ a ∷ b ∷ c ∷ d ∷ e ∷ []
five_are fields a b c d e l p q r s t = let f = five_fields fields l in cc

pub two_are : (fields : List (List ℕ)) (a b : List ℕ)
    → length fields ≡ 2 → field_of fields 0 ≡ a → field_of fields 1 ≡ b → fields ≡ a ∷ b ∷ []
two_are fields a b l p q = let e = two_fields fields l in cc

-- one record more, after records that are known
pub append_one : (records before : List (List (List ℕ))) (fields r : List (List ℕ))
    → records ≡ before → fields ≡ r → records ++ fields ∷ [] ≡ before ++ r ∷ []
append_one records before fields r e f = rw (e, f) refl

-- a record whose first field isn't empty is that field and the others
pub first_field : (fields : List (List ℕ)) (b : ℕ) (bs : List ℕ) → field_of fields 0 ≡ b ∷ bs → fields ≡ (b ∷ bs) ∷ drop 1 fields
unfolding field_at
first_field [] b bs h = cc h
first_field (f ∷ fields) b bs h = ap (λ g. g ∷ fields) h
