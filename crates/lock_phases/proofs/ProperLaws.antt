-- Which values are in PROPER after each PROPER that was heard is taken in.
use Rattle.std.proofs.Common.{ℕ, ◌≡◌, ◌⊎◌, inl, inr, Bool, true, false, cond, ltb, eqb, List, [], ◌∷◌, refl, sym, ◌∙◌, subst, zero, arith}
use Rattle.std.specs.Prelude.{Contains}
use Rattle.std.proofs.lemmas.Bool.{eqb-true}
use Rattle.lock_phases.proofs.Common.{Contains-head, Contains-rest, Contains-nil, Message, body_of, insert_value, insert_values, take_in}
use Rattle.lock_phases.proofs.Membership.{Contains-cons_cases}

-- a value is the new one, or was there
pub Contains-insert_value_cases : (v : ℕ) (xs : List ℕ) (z : ℕ) → Contains (insert_value v xs) z
    → (z ≡ v) ⊎ Contains xs z
Contains-insert_value_cases v [] z c = Contains-cons_cases v z [] c
Contains-insert_value_cases v (x ∷ xs) z c = go (ltb v x) (eqb v x) c (Contains-insert_value_cases v xs z)
  where
    go : (b d : Bool) → Contains (cond b (v ∷ x ∷ xs) (cond d (x ∷ xs) (x ∷ insert_value v xs))) z
        → (Contains (insert_value v xs) z → (z ≡ v) ⊎ Contains xs z) → (z ≡ v) ⊎ Contains (x ∷ xs) z
    go true d h f = Contains-cons_cases v z (x ∷ xs) h
    go false true h f = inr h
    go false false h f = elim (Contains-cons_cases x z (insert_value v xs) h) [
      | inl first ↦ inr (zero, omega arith, sym first)
      | inr later ↦ elim (f later) [ inl new ↦ inl new | inr old ↦ inr (Contains-rest x z xs old) ]
    ]

-- and each of these is there
Contains-insert_value : (v : ℕ) (xs : List ℕ) (z : ℕ) → (z ≡ v) ⊎ Contains xs z → Contains (insert_value v xs) z
Contains-insert_value v [] z (inl new) = (zero, omega arith, sym new)
Contains-insert_value v [] z (inr old) = absurd (Contains-nil z old)
Contains-insert_value v (x ∷ xs) z h = go (ltb v x) (eqb v x) refl h (Contains-insert_value v xs z)
  where
    go : (b d : Bool) → eqb v x ≡ d → (z ≡ v) ⊎ Contains (x ∷ xs) z
        → ((z ≡ v) ⊎ Contains xs z → Contains (insert_value v xs) z)
        → Contains (cond b (v ∷ x ∷ xs) (cond d (x ∷ xs) (x ∷ insert_value v xs))) z
    go true d e (inl new) f = (zero, omega arith, sym new)
    go true d e (inr old) f = Contains-rest v z (x ∷ xs) old
    go false true e (inl new) f = (zero, omega arith, sym (new ∙ eqb-true v x e))
    go false true e (inr old) f = old
    go false false e (inl new) f = Contains-rest x z (insert_value v xs) (f (inl new))
    go false false e (inr old) f = elim (Contains-cons_cases x z xs old) [
      | inl first ↦ (zero, omega arith, sym first)
      | inr later ↦ Contains-rest x z (insert_value v xs) (f (inr later))
    ]

-- a value was there, or is one of those put in
Contains-insert_values_cases : (known vs : List ℕ) (z : ℕ) → Contains (insert_values known vs) z
    → Contains known z ⊎ Contains vs z
Contains-insert_values_cases known [] z c = inl c
Contains-insert_values_cases known (v ∷ vs) z c = elim (Contains-insert_values_cases (insert_value v known) vs z c) [
  | inl h ↦ elim (Contains-insert_value_cases v known z h) [
    | inl new ↦ inr (zero, omega arith, sym new)
    | inr old ↦ inl old
  ]
  | inr h ↦ inr (Contains-rest v z vs h)
]

-- a value that was there stays with all of them
Contains-insert_values_old : (known vs : List ℕ) (z : ℕ) → Contains known z → Contains (insert_values known vs) z
Contains-insert_values_old known [] z c = c
Contains-insert_values_old known (v ∷ vs) z c =
    Contains-insert_values_old (insert_value v known) vs z (Contains-insert_value v known z (inr c))

-- each value that is put in is there
Contains-insert_values_new : (known vs : List ℕ) (z : ℕ) → Contains vs z → Contains (insert_values known vs) z
Contains-insert_values_new known [] z c = absurd (Contains-nil z c)
Contains-insert_values_new known (v ∷ vs) z c = elim (Contains-cons_cases v z vs c) [
  | inl new ↦ Contains-insert_values_old (insert_value v known) vs z (Contains-insert_value v known z (inl new))
  | inr later ↦ Contains-insert_values_new (insert_value v known) vs z later
]

-- a PROPER value was there, or in a PROPER that was heard
pub Contains-take_in_cases : (known : List ℕ) (heard : List Message) (z : ℕ) → Contains (take_in known heard) z
    → Contains known z ⊎ ((m : Message) × Contains heard m × Contains (body_of m).proper z)
Contains-take_in_cases known [] z c = inl c
Contains-take_in_cases known (m ∷ rest) z c =
    elim (Contains-take_in_cases (insert_values known (body_of m).proper) rest z c) [
      | inl h ↦ elim (Contains-insert_values_cases known (body_of m).proper z h) [
        | inl old ↦ inl old
        | inr new ↦ inr (m, Contains-head m rest, new)
      ]
      | inr h ↦ inr (h.0, Contains-rest m h.0 rest h.1, h.2)
    ]

-- a PROPER value stays
pub Contains-take_in_old : (known : List ℕ) (heard : List Message) (z : ℕ) → Contains known z
    → Contains (take_in known heard) z
Contains-take_in_old known [] z c = c
Contains-take_in_old known (m ∷ rest) z c = Contains-take_in_old
    (insert_values known (body_of m).proper) rest z (Contains-insert_values_old known (body_of m).proper z c)

-- a value of a PROPER that was heard is taken in
pub Contains-take_in_heard : (known : List ℕ) (heard : List Message) (m : Message) (z : ℕ) → Contains heard m
    → Contains (body_of m).proper z → Contains (take_in known heard) z
Contains-take_in_heard known [] m z h c = absurd (Contains-nil m h)
Contains-take_in_heard known (n ∷ rest) m z h c = elim (Contains-cons_cases n m rest h) [
  | inl first ↦ Contains-take_in_old (insert_values known (body_of n).proper) rest z
      (Contains-insert_values_new known (body_of n).proper z
      (subst (λ (x : Message). Contains (body_of x).proper z) first c))
  | inr later ↦ Contains-take_in_heard (insert_values known (body_of n).proper) rest m z later c
]
