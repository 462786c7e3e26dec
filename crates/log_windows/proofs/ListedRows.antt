-- The records of an event, one for each node that it sends to.
use Rattle.std.proofs.Common.{◌≡◌, ◌∙◌, ℕ, zero, suc, ◌<◌, arith, List, [], ◌∷◌, ◌++◌, length, take, get_or, map, Bor, Result, Ok, Err, Bool, ap, sym, refl}
use Rattle.std.specs.Prelude.{MatchBool, ⊤}
use Rattle.std.proofs.lemmas.List.{map-append}
use Rattle.trace_text.specs.Records.{after_records}
use Rattle.trace_text.proofs.TakenRecords.{after_records-more, after_records-refused}

-- one more record
pub part-more : {S E : Type 0} (next : S → List (List ℕ) → Result S E) (start at to : S) (F : List ℕ → List (List ℕ))
    (done : List (Bor (List ℕ))) (x : Bor (List ℕ)) → after_records next start (map F (map (λ y. y.now) done)) ≡ Ok at
    → next at (F x.now) ≡ Ok to → after_records next start (map F (map (λ y. y.now) (done ++ x ∷ []))) ≡ Ok to
part-more next start at to F done x h k = rw (map-append (λ y. y.now) done (x ∷ []), map-append F (map (λ y. y.now) done) (x.now ∷ []))
    (after_records-more next start at to (map F (map (λ y. y.now) done)) (F x.now) h k)

cut : (xs : List (List ℕ)) (k : ℕ) (d : List ℕ) → k < length xs → (rest : List (List ℕ)) × (xs ≡ (take k xs ++ get_or xs k d ∷ []) ++ rest)
cut [] k d lt = absurd (omega (arith, lt))
cut (x ∷ xs) zero d lt = (xs, refl)
cut (x ∷ xs) (suc k) d lt = let r = cut xs k d (omega (arith, lt)) in (r.0, ap (λ ys. x ∷ ys) r.1)

-- one that is refused
pub part-refused : {S E : Type 0} (may : E → Bool) (next : S → List (List ℕ) → Result S E)
    (start at : S) (why : E) (F : List ℕ → List (List ℕ)) (all done : List (List ℕ)) (x : List ℕ) (k : ℕ)
    → done ≡ take k all → k < length all → x ≡ get_or all k x → after_records next start (map F done) ≡ Ok at
    → MatchBool (may why) ⊤ (next at (F x) ≡ Err why) → MatchBool (may why) ⊤ (after_records next start (map F all) ≡ Err why)
part-refused may next start at why F all done x k front lt is h r =
    let c = cut all k x lt in
    let same : all ≡ (done ++ x ∷ []) ++ c.0 = c.1
    ∙ ap (λ ys. (ys ++ get_or all k x ∷ []) ++ c.0) (sym front) ∙ ap (λ y. (done ++ y ∷ []) ++ c.0) (sym is) in
    after_records-refused may next start at why (map F done) (map F c.0) (map F all) (F x) h r
    (ap (map F) same ∙ map-append F (done ++ x ∷ []) c.0 ∙ ap (λ ys. ys ++ map F c.0) (map-append F done (x ∷ [])))
