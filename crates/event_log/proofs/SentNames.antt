-- Names among those that were sent.
use Rattle.std.proofs.Common.{◌≡◌, ◌∙◌, ℕ, Bool, List, [], ◌∷◌, length, None, true, false, not, refl, sym, arith}
use Rattle.trace_text.specs.Names.{has_name}
use Rattle.event_log.specs.Names.{with_name}
use Rattle.event_log.specs.SentMessages.{place_in}

-- a name that is there is not put there again
pub with_name-there : (names : List (List ℕ)) (name : List ℕ) → has_name names name ≡ true → with_name names name ≡ names
unfolding with_name
with_name-there names name e = rw e refl

-- among no names none has a place
pub place_in-none : (names : List (List ℕ)) (places : List ℕ) (name : List ℕ) → length names ≡ 0 → place_in names places name ≡ None
place_in-none [] places name e = refl
place_in-none (n ∷ ns) places name e = absurd (omega (arith, e))

-- a name that isn't new is there
pub was-there : (there new : Bool) → new ≡ not there → new ≡ false → there ≡ true
was-there true new e f = refl
was-there false new e f = cc (sym f ∙ e)
