-- The record of a place among those of a text.
use Rattle.std.proofs.Common.{◌≡◌, ◌∙◌, ℕ, List, [], ◌∷◌, ◌++◌, length, get_or, ap, sym, append_assoc}
use Rattle.std.proofs.lemmas.List.{get_or_at}

-- the record after so many others
pub record-found : (all done rest : List (List (List ℕ))) (x : List (List ℕ)) (place : ℕ)
    → all ≡ (done ++ x ∷ []) ++ rest → length done ≡ place → x ≡ get_or all place []
record-found all done rest x place e count =
    sym (ap (λ xs. get_or xs place []) (e ∙ append_assoc done (x ∷ []) rest) ∙ get_or_at done x rest [] place count)
