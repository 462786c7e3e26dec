-- The value that an owner proposes: the least of those that are in enough of the lists that it heard.
use Rattle.std.proofs.Common.{ℕ, ◌≡◌, ◌≤◌, ◌⊎◌, inl, inr, true, List, [], ◌∷◌, Some, None, fold, filter, min, refl, sym, subst, zero, arith}
use Rattle.std.specs.Prelude.{Contains, count_by, ◌==◌}
use Rattle.std.specs.List.{flat_map}
use Rattle.std.proofs.lemmas.Bool.{eqb-true, leb-true, le-leb, cases_lt}
use Rattle.std.proofs.Common.{eq-eqb}
use Rattle.lock_phases.proofs.Common.{Contains-rest, Contains-nil, Contains-filter, Contains-from_filter}
use Rattle.lock_phases.proofs.Common.{list_any-found, list_any-at, Message, listed_values, body_of, lists, has_quorum}
use Rattle.lock_phases.proofs.Common.{lesser, least, least_listed, IsLeastListed}
use Rattle.lock_phases.proofs.Membership.{Contains-cons_cases, count_by-found, Contains-flat_map, Contains-from_flat_map}

-- a message lists v if v is in its list
pub Contains-from_lists : (m : Message) (v : ℕ) → lists m v ≡ true → Contains (listed_values (body_of m).kind) v
Contains-from_lists m v e =
    let f = list_any-found (λ x. x == v) (listed_values (body_of m).kind) e in
    subst (λ n. Contains (listed_values (body_of m).kind) n) (eqb-true f.0 v f.2) f.1

-- the converse
pub lists-from_Contains : (m : Message) (v : ℕ) → Contains (listed_values (body_of m).kind) v → lists m v ≡ true
lists-from_Contains m v c = list_any-at (λ x. x == v) (listed_values (body_of m).kind) v c (eq-eqb v v refl)

-- the least of a value and a list of them
record IsLeastFrom (a : ℕ) (xs : List ℕ) (v : ℕ) : Type 0 where
  member : (v ≡ a) ⊎ Contains xs v
  below : v ≤ a
  each : (u : ℕ) → Contains xs u → v ≤ u

-- the fold that starts with a value gives the least
fold-lesser : (a : ℕ) (xs : List ℕ) (v : ℕ) → fold lesser (Some a) xs ≡ Some v → IsLeastFrom a xs v
fold-lesser a [] v e = let same : v ≡ a = cc in record { member = inl same; below = omega arith; each = λ u c. absurd (Contains-nil u c) }
fold-lesser a (x ∷ xs) v e =
    let r = fold-lesser (min a x) xs v e in
    record {
      member = place r.member;
      below = (let l = r.below in omega arith);
      each = λ u c. bound u r.below r.each (Contains-cons_cases x u xs c);
    }
  where
    place : (v ≡ min a x) ⊎ Contains xs v → (v ≡ a) ⊎ Contains (x ∷ xs) v
    place (inr h) = inr (Contains-rest x v xs h)
    place (inl h) = elim (cases_lt a x) [ inl l ↦ inl (omega arith) | inr l ↦ inr (let s : x ≡ v = omega arith in (zero, omega arith, s)) ]

    bound : (u : ℕ) → v ≤ min a x → ((w : ℕ) → Contains xs w → v ≤ w) → (u ≡ x) ⊎ Contains xs u → v ≤ u
    bound u l f (inl h) = omega arith
    bound u l f (inr h) = f u h

-- it gives some value
fold-lesser-not_None : (a : ℕ) (xs : List ℕ) → fold lesser (Some a) xs ≡ None → ⊥
fold-lesser-not_None a [] e = cc
fold-lesser-not_None a (x ∷ xs) e = fold-lesser-not_None (min a x) xs e

-- the least of some values is one of them
least-member : (xs : List ℕ) (v : ℕ) → least xs ≡ Some v → Contains xs v
least-member [] v e = cc
least-member (x ∷ xs) v e = elim ((fold-lesser x xs v e).member) [ inl h ↦ (zero, omega arith, sym h) | inr h ↦ Contains-rest x v xs h ]

-- and at most each of them
least-each : (xs : List ℕ) (v u : ℕ) → least xs ≡ Some v → Contains xs u → v ≤ u
least-each [] v u e c = absurd (Contains-nil u c)
least-each (x ∷ xs) v u e c =
    let r = fold-lesser x xs v e in
    elim (Contains-cons_cases x u xs c) [ inl h ↦ (let l = r.below in omega arith) | inr h ↦ r.each u h ]

-- only no values have no least one
least-none : (xs : List ℕ) → least xs ≡ None → xs ≡ []
least-none [] e = refl
least-none (x ∷ xs) e = absurd (fold-lesser-not_None x xs e)

-- a value in enough lists is among those of which the least is taken
candidate : (quorum : ℕ) (heard : List Message) (u : ℕ) → 1 ≤ quorum → quorum ≤ count_by (λ m. lists m u) heard
    → Contains (filter (has_quorum quorum heard) (flat_map (λ m. listed_values (body_of m).kind) heard)) u
candidate quorum heard u l q =
    let m = count_by-found (λ m. lists m u) heard (omega arith) in
    Contains-filter (has_quorum quorum heard) (flat_map (λ m. listed_values (body_of m).kind) heard) u
    (Contains-flat_map (λ n. listed_values (body_of n).kind) heard m.0 u m.1 (Contains-from_lists m.0 u m.2))
    (le-leb quorum (count_by (λ m. lists m u) heard) q)

-- what an owner finds is the least that is in enough lists
pub IsLeastListed-from_some : (quorum : ℕ) (heard : List Message) (v : ℕ)
    → 1 ≤ quorum → least_listed quorum heard ≡ Some v → IsLeastListed quorum heard v
IsLeastListed-from_some quorum heard v l e =
    let values = filter (has_quorum quorum heard) (flat_map (λ m. listed_values (body_of m).kind) heard) in
    let passes = Contains-from_filter (has_quorum quorum heard)
    (flat_map (λ m. listed_values (body_of m).kind) heard) v (least-member values v e) in
    record {
      quorum_lists = leb-true quorum (count_by (λ m. lists m v) heard) passes.1;
      no_lesser = λ u q. least-each values v u e (candidate quorum heard u l q);
    }

-- if some value is in enough lists, there is a least one
pub least_listed-not_None : (quorum : ℕ) (heard : List Message) (u : ℕ)
    → 1 ≤ quorum → quorum ≤ count_by (λ m. lists m u) heard → least_listed quorum heard ≡ None → ⊥
least_listed-not_None quorum heard u l q e =
    let values = filter (has_quorum quorum heard) (flat_map (λ m. listed_values (body_of m).kind) heard) in
    Contains-nil u (subst (λ xs. Contains xs u) (least-none values e) (candidate quorum heard u l q))

-- a proposed value is in a list that was heard
pub least_listed-listed : (quorum : ℕ) (heard : List Message) (v : ℕ)
    → least_listed quorum heard ≡ Some v → (m : Message) × Contains heard m × Contains (listed_values (body_of m).kind) v
least_listed-listed quorum heard v e =
    let values = flat_map (λ m. listed_values (body_of m).kind) heard in
    Contains-from_flat_map (λ m. listed_values (body_of m).kind) heard v
    (Contains-from_filter (has_quorum quorum heard) values v (least-member (filter (has_quorum quorum heard) values) v e)).0
