-- The ids that a trace's steps take are no more than its steps: none occurs twice, and each is the number of a step.
use Rattle.std.proofs.Common.{ℕ, zero, suc, ◌≡◌, ◌≤◌, List, [], ◌∷◌, ◌++◌, length, Some, Bool, true, false, ◌||◌, inl, inr, refl, sym, arith}
use Rattle.std.specs.Prelude.{slice_get, Contains}
use Rattle.std.specs.List.{AllByRecursion, IsDistinct, flat_map, list_any}
use Rattle.std.specs.List.Sorted.{IsStrictlyIncreasing}
use lib.Dec.{eqb}
use Rattle.std.proofs.lemmas.Bool.{eqb-true, ne_eqb}
use Rattle.std.proofs.lemmas.List.Elements.{Contains-append_cases}
use Rattle.std.proofs.lemmas.Map.Steps.{length-le_from_distinct_below}
use Rattle.step_trace.specs.declared.steps.Step.{Step}
use Rattle.step_trace.specs.Steps.{act_ids}
use Rattle.step_trace.specs.Configurations.{Setup}
use Rattle.step_trace.specs.Traces.{IsWellFormed}
use Rattle.step_trace.proofs.StepPositions.{step_at_within}
use Rattle.step_trace.proofs.ListMembers.{Contains-head, Contains-rest, Contains-nil, rising-first, rising-tail}

-- the ids of all Receives, one step after the other
abbrev pub taken_ids : List Step → List ℕ
taken_ids steps = flat_map (λ x. act_ids x.act) steps

-- a step of a list takes the message
TakenIn : List Step → ℕ → Type 0
TakenIn steps s = (k : ℕ) × (x : Step) × (slice_get steps k ≡ Some x) × Contains (act_ids x.act) s

taken-in : (steps : List Step) (s : ℕ) → Contains (taken_ids steps) s → TakenIn steps s
unfolding TakenIn
taken-in [] s c = absurd (Contains-nil s c)
taken-in (x ∷ xs) s c = elim (Contains-append_cases (act_ids x.act) (taken_ids xs) s c) [
  | inl here ↦ (zero, x, refl, here)
  | inr later ↦ (let m = taken-in xs s later in (suc m.0, m.1, m.2, m.3))
]

-- a number that isn't in a list differs from each number there
apart : (n : ℕ) (ns : List ℕ) → (Contains ns n → ⊥) → AllByRecursion (λ m. eqb n m ≡ false) ns
apart n [] none = tt
apart n (m ∷ ns) none = (ne_eqb n m (λ e. none (0, omega arith, sym e)), apart n ns (λ c. none (Contains-rest m n ns c)))

-- lists with no number twice, and none in common
distinct-append : (ns ms : List ℕ) → IsStrictlyIncreasing ns
    → IsDistinct eqb ms → ((n : ℕ) → Contains ns n → Contains ms n → ⊥) → IsDistinct eqb (ns ++ ms)
unfolding IsDistinct
distinct-append [] ms rising distinct none = distinct
distinct-append (n ∷ ns) ms rising distinct none = (
  apart n (ns ++ ms) (λ c. elim (Contains-append_cases ns ms n c) [
    | inl here ↦ absurd (let less = rising-first n ns rising n here in omega (arith, less))
    | inr there ↦ none n (Contains-head n ns) there
  ]),
  distinct-append ns ms (rising-tail n ns rising) distinct (λ m c d. none m (Contains-rest n m ns c) d),
)

-- steps whose ids rise, and of which no two take one message
record AreApart (steps : List Step) : Type 0 where
  rising : (k : ℕ) (x : Step) → slice_get steps k ≡ Some x → IsStrictlyIncreasing (act_ids x.act)
  once : (j k s : ℕ) (x y : Step) → slice_get steps j ≡ Some x
      → slice_get steps k ≡ Some y → Contains (act_ids x.act) s → Contains (act_ids y.act) s → j ≡ k

distinct-ids : (steps : List Step) → AreApart steps → IsDistinct eqb (taken_ids steps)
unfolding TakenIn IsDistinct
distinct-ids [] h = tt
distinct-ids (x ∷ xs) h = distinct-append (act_ids x.act) (taken_ids xs) (h.rising 0 x refl)
    (distinct-ids xs (record {
      rising = λ k y e. h.rising (suc k) y e;
      once = λ j k s y z e f a b. let same = h.once (suc j) (suc k) s y z e f a b in omega (arith, same);
    }))
    (λ s here later. let m = taken-in xs s later in absurd (let same = h.once 0 (suc m.0) s x m.1 refl m.2 here m.3 in omega (arith, same)))

found : (n : ℕ) (ns : List ℕ) → list_any (eqb n) ns ≡ true → Contains ns n
found n [] h = cc h
found n (m ∷ ns) h = go (eqb n m) refl (λ k. found n ns k) h where
  go : (t : Bool) → eqb n m ≡ t → (list_any (eqb n) ns ≡ true → Contains ns n) → (t || list_any (eqb n) ns) ≡ true → Contains (m ∷ ns) n
  go true e more k = (0, omega arith, sym (eqb-true n m e))
  go false e more k = Contains-rest m n ns (more k)

-- so many ids at most
pub length-taken_ids : (c : Setup) (steps : List Step) → IsWellFormed c steps → length (taken_ids steps) ≤ length steps
unfolding TakenIn
length-taken_ids c steps w = length-le_from_distinct_below (taken_ids steps) (length steps)
    (distinct-ids steps (record {
      rising = λ k x e. w.rising (suc k) x e;
      once = λ j k s x y e f a b. let same = w.once (suc j) (suc k) s (x, e, a) (y, f, b) in omega (arith, same);
    }))
    (λ s h.
    let m = taken-in steps s (found s (taken_ids steps) h) in
    let before = (w.earlier (suc m.0) s m.1 m.2 m.3).0 in
    let within = (step_at_within steps (suc m.0) m.1 m.2).1 in
    omega (arith, before, within))
