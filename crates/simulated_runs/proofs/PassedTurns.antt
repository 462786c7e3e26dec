-- What becomes of the turns when a processor steps.
use Rattle.std.proofs.Common.{ℕ, zero, suc, ◌≡◌, ◌≢◌, ◌+◌, ◌<◌, ◌≤◌, ◌⊎◌, inl, inr, List, [], ◌∷◌, ◌++◌, Some, length}
use Rattle.std.proofs.Common.{max, remove, slice_get, refl, sym, ap, ◌∙◌, subst, OnOk, Result, Ok, Err, arith}
use Rattle.std.proofs.Common.{length-append}
use Rattle.std.proofs.lemmas.Bool.{cases_lt}
use Rattle.std.proofs.lemmas.List.Edits.{length-remove}
use Rattle.std.proofs.lemmas.Option.{same_Some}
use Rattle.simulated_runs.proofs.Common.{slice_get-push_cases, slice_get-push_old, slice_get-last, Turn, AreInTime, ArePassed, HasTurn, IsFirstTurn, IsTurnIn, MayStep, next_turn}

-- what is left of a list was before the place that was taken out, or behind it
pub removed-place : {X : Type 0} (xs : List X) (j k : ℕ) (x : X) → slice_get (remove xs j) k ≡ Some x
    → ((k < j) × (slice_get xs k ≡ Some x)) ⊎ ((j ≤ k) × (slice_get xs (suc k) ≡ Some x))
removed-place [] zero k x h = cc
removed-place [] (suc j) k x h = cc
removed-place (y ∷ ys) zero k x h = inr (omega arith, h)
removed-place (y ∷ ys) (suc j) zero x h = inl (omega arith, h)
removed-place (y ∷ ys) (suc j) (suc k) x h = elim (removed-place ys j k x h) [
  | inl w ↦ inl (let l = w.0 in omega arith, w.1)
  | inr w ↦ inr (let l = w.0 in omega arith, w.1)
]

-- and each other one is left
pub removed-kept : {X : Type 0} (xs : List X) (j k : ℕ) (x : X) → slice_get xs k ≡ Some x → k ≢ j
    → (i : ℕ) × (slice_get (remove xs j) i ≡ Some x)
removed-kept [] j k x h other = cc
removed-kept (y ∷ ys) zero zero x h other = absurd (other refl)
removed-kept (y ∷ ys) zero (suc k) x h other = (k, h)
removed-kept (y ∷ ys) (suc j) zero x h other = (zero, h)
removed-kept (y ∷ ys) (suc j) (suc k) x h other =
    let w = removed-kept ys j k x h (λ e. other (ap suc e)) in
    (suc w.0, w.1)

-- the turns after p's first one went behind the others
pub ArePassed-moved : (gst phi x p place : ℕ) (old : List Turn) → place < length old → IsFirstTurn old p place
    → ArePassed gst phi old (remove old place ++ next_turn gst phi x p ∷ []) x p
ArePassed-moved gst phi x p place old within found = record {
  count = let a = length-append (remove old place) (turn ∷ []) in let b : length (remove old place) + 1 ≡ length old = left in omega arith;
  each = λ t w. each t w.0 (slice_get-push_cases (remove old place) turn t w.0 w.1);
  kept = λ q w. kept q w.0 w.1.0 w.1.1 w.2 (cases_lt w.1.0 place) (cases_lt place w.1.0);
  in_time = λ before e few may timed k t h. in_time before e few may timed k t (slice_get-push_cases (remove old place) turn t k h);
}
  where
    turn : Turn
    turn = next_turn gst phi x p

    left : length (remove old place) + 1 ≡ length old
    left = length-remove old place within

    own : HasTurn old p
    own = (found.turn, (place, found.at), found.own)

    each : (t : Turn) (k : ℕ) → (slice_get (remove old place) k ≡ Some t) ⊎ ((k ≡ length (remove old place)) × (turn ≡ t))
        → IsTurnIn old t ⊎ (HasTurn old p × (t ≡ turn))
    each t k (inl h) = elim (removed-place old place k t h) [
      | inl w ↦ inl (k, w.1)
      | inr w ↦ inl (suc k, w.1)
    ]
    each t k (inr w) = inr (own, sym w.1)

    last : HasTurn (remove old place ++ turn ∷ []) p
    last = (turn, (length (remove old place), slice_get-last (remove old place) turn), refl)

    moved : (q : ℕ) (t : Turn) → (i : ℕ) × (slice_get (remove old place) i ≡ Some t)
        → t.proc ≡ q → HasTurn (remove old place ++ turn ∷ []) q
    moved q t w e = (t, (w.0, slice_get-push_old (remove old place) turn t w.0 w.1), e)

    kept : (q : ℕ) (t : Turn) (k : ℕ) → slice_get old k ≡ Some t → t.proc ≡ q → (k < place) ⊎ (place ≤ k) → (place < k) ⊎ (k ≤ place)
        → HasTurn (remove old place ++ turn ∷ []) q
    kept q t k h e (inl l) o = moved q t (removed-kept old place k t h (λ same. absurd (omega arith))) e
    kept q t k h e (inr l) (inl m) = moved q t (removed-kept old place k t h (λ same. absurd (omega arith))) e
    kept q t k h e (inr l) (inr m) =
        let same : k ≡ place = omega arith in
        let at : slice_get old place ≡ Some t = subst (λ i. slice_get old i ≡ Some t) same h in
        let one : t ≡ found.turn = same_Some t found.turn (sym at ∙ found.at) in
        subst (λ i. HasTurn (remove old place ++ turn ∷ []) i) (sym found.own ∙ ap (λ (z : Turn). z.proc) (sym one) ∙ e) last

    in_time : (before : ℕ) → before + 1 ≡ x → length old ≤ phi → MayStep old x p → AreInTime old before → (k : ℕ) (t : Turn)
        → (slice_get (remove old place) k ≡ Some t) ⊎ ((k ≡ length (remove old place)) × (turn ≡ t)) → x + k < t.deadline
    in_time before e few may timed k t (inl h) = elim (removed-place old place k t h) [
      | inl w ↦ let l = w.0 in may k t w.1 (λ j u m g. found.first j u (omega arith) g)
      | inr w ↦ let l = timed (suc k) t w.1 in omega arith
    ]
    in_time before e few may timed k t (inr w) =
        let at : k ≡ length (remove old place) = w.0 in
        let count : length (remove old place) + 1 ≡ length old = left in
        let due : t.deadline ≡ max x gst + phi = ap (λ (z : Turn). z.deadline) (sym w.1) in
        omega arith

-- the same of what a call left
pub ArePassed-made : {R E : Type 0} (gst phi x p place : ℕ) (old new : List Turn) (result : Result R E) → place < length old → IsFirstTurn
    old p place → OnOk result (new ≡ remove old place ++ next_turn gst phi x p ∷ []) → OnOk result (ArePassed gst phi old new x p)
ArePassed-made gst phi x p place old new (Ok v) within found e =
    subst (λ queue. ArePassed gst phi old queue x p) (sym e) (ArePassed-moved gst phi x p place old within found)
ArePassed-made gst phi x p place old new (Err v) within found e = tt
