-- Texts that give times, and lengths of ticks.
use Rattle.std.proofs.Common.{◌≡◌, ◌∙◌, ℕ, zero, suc, ℤ, pos, ◌+◌, ◌<◌, ◌≤◌, List, [], ◌∷◌, ◌++◌, None, ap, arith, drop, length, refl, take}
use Rattle.std.specs.Prelude.{replicate}
use Rattle.trace_text.specs.Records.{number_of}
use Rattle.event_log.specs.declared.times.TheConstants.{MAX_LOCAL_BYTES}
use Rattle.event_log.specs.declared.times.Width.{Width}
use Rattle.event_log.specs.declared.times.Width.TheVariants as width
use Rattle.event_log.specs.Times.{IsDuration, IsWidth}

-- a text that is neither a number nor a duration gives no length of a tick
pub no-width : (text : List ℕ) → number_of text ≡ None → ((x : ℤ) → ¬ (IsDuration text x)) → (w : Width) → ¬ (IsWidth text w)
no-width text none never (width.Units n) h = let some = h.1 in absurd (cc)
no-width text none never (width.Nanoseconds n) h = never (pos n) h.2

-- a text, and one byte of what is behind it
front-and_one : (xs rest : List ℕ) → take (length xs + 1) (xs ++ rest) ≡ xs ++ take 1 rest
front-and_one [] rest = refl
front-and_one (x ∷ xs) rest =
    let more : suc (length xs) + 1 ≡ suc (length xs + 1) = omega arith in
    rw more (ap (λ t. x ∷ t) (front-and_one xs rest))

one-left : (n m x : ℕ) → n < m → take 1 (drop n (replicate m x)) ≡ x ∷ []
one-left zero zero x h = absurd (omega (arith, h))
one-left zero (suc m) x h = refl
one-left (suc n) zero x h = absurd (omega (arith, h))
one-left (suc n) (suc m) x h = one-left n m x (omega (arith, h))

-- a text that was written over so many times Z, and the Z behind it
pub zulu-text : (xs : List ℕ) → length xs ≤ MAX_LOCAL_BYTES
    → take (length xs + 1) (xs ++ drop (length xs) (replicate 41 90)) ≡ xs ++ 90 ∷ []
zulu-text xs h = front-and_one xs (drop (length xs) (replicate 41 90))
    ∙ ap (λ rest. xs ++ rest) (one-left (length xs) 41 90 (omega (arith, h)))
