-- Records taken one after the other: where a front of them leads, and the first refusal.
use Rattle.std.proofs.Common.{◌≡◌, ◌∙◌, ℕ, List, [], ◌∷◌, ◌++◌, Result, Ok, Err, Bool, true, false, ap, append_assoc}
use Rattle.std.specs.Prelude.{MatchBool, ⊤}
use Rattle.trace_text.specs.Records.{after_records, ◌>>=◌}

append-go : {S E : Type 0} (next : S → List (List ℕ) → Result S E) (b : S) (xs ys : List (List (List ℕ)))
    → ((s : S) → after_records next s xs ≡ Ok b → after_records next s (xs ++ ys) ≡ after_records next b ys) → (r : Result S E)
    → r >>= (λ s. after_records next s xs) ≡ Ok b → r >>= (λ s. after_records next s (xs ++ ys)) ≡ after_records next b ys
append-go next b xs ys more (Ok s) e = more s e
append-go next b xs ys more (Err f) e = cc e

-- records that were accepted, and then others
pub after_records-append : {S E : Type 0} (next : S → List (List ℕ) → Result S E) (a b : S) (xs ys : List (List (List ℕ)))
    → after_records next a xs ≡ Ok b → after_records next a (xs ++ ys) ≡ after_records next b ys
after_records-append next a b [] ys h = ap (λ r. r >>= λ s. after_records next s ys) h
after_records-append next a b (x ∷ xs) ys h = append-go next b xs ys (λ s e. after_records-append next s b xs ys e) (next a x) h

-- one more record
pub after_records-more : {S E : Type 0} (next : S → List (List ℕ) → Result S E) (a b c : S) (xs : List (List (List ℕ))) (x : List (List ℕ))
    → after_records next a xs ≡ Ok b → next b x ≡ Ok c → after_records next a (xs ++ x ∷ []) ≡ Ok c
after_records-more next a b c xs x h k = after_records-append next a b xs (x ∷ []) h ∙ ap (λ r. r >>= λ s. after_records next s []) k

-- a record that is refused
after_records-stops : {S E : Type 0} (next : S → List (List ℕ) → Result S E)
    (a b : S) (f : E) (xs rest all : List (List (List ℕ))) (x : List (List ℕ))
    → after_records next a xs ≡ Ok b → next b x ≡ Err f → all ≡ (xs ++ x ∷ []) ++ rest → after_records next a all ≡ Err f
after_records-stops next a b f xs rest all x h k e =
    rw (e, append_assoc xs (x ∷ []) rest) (after_records-append next a b xs (x ∷ rest) h ∙ ap (λ r. r >>= λ s. after_records next s rest) k)

pub unless : (t : Bool) (P Q : Type 0) → (P → Q) → MatchBool t ⊤ P → MatchBool t ⊤ Q
unless true P Q f h = h
unless false P Q f h = f h

-- so the answer is that refusal, unless it may always come
pub after_records-refused : {S E : Type 0} (may : E → Bool) (next : S → List (List ℕ) → Result S E)
    (a b : S) (f : E) (xs rest all : List (List (List ℕ))) (x : List (List ℕ)) → after_records next a xs ≡ Ok b
    → MatchBool (may f) ⊤ (next b x ≡ Err f) → all ≡ (xs ++ x ∷ []) ++ rest → MatchBool (may f) ⊤ (after_records next a all ≡ Err f)
after_records-refused may next a b f xs rest all x h k e =
    unless (may f) (next b x ≡ Err f) (after_records next a all ≡ Err f) (λ g. after_records-stops next a b f xs rest all x h g e) k
