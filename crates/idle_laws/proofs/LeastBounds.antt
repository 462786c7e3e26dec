-- Least bounds of which others hold.
use Rattle.std.proofs.Common.{ℕ, ◌<◌, ◌≤◌, ◌⊎◌, inl, inr, max, arith}
use Rattle.std.proofs.lemmas.Bool.{cases_lt}
use Rattle.idle_laws.proofs.Common.{IsLeastBound, PhiHolds, Recorded}

-- bounds that hold alike have one least
pub least-same : (P Q : ℕ → Type 0) (d : ℕ) → ((e : ℕ) → P e → Q e) → ((e : ℕ) → Q e → P e) → IsLeastBound P d → IsLeastBound Q d
least-same P Q d to from h = record { positive = h.positive; holds = to d h.holds; least = λ e one q. h.least e one (from e q) }

-- a greater processor bound holds, too
pub phi-greater : (set : ℕ) (trace : Recorded) (g e f : ℕ) → e ≤ f → PhiHolds set trace g e → PhiHolds set trace g f
phi-greater set trace g e f l h = record {
  each = λ x lo inside p m. (
      let w = h.each x lo (omega arith) p m in
      record { tick = w.tick; from = w.from; until = omega (arith, w.until); step = w.step });
}

-- The bounds P imply the bounds Q, and as of a limit they hold alike; each bound Q implies the greater ones.
module _ (P Q : ℕ → Type 0) (limit : ℕ) (to : (e : ℕ) → P e → Q e)
    (from : (e : ℕ) → limit ≤ e → Q e → P e) (greater : (e f : ℕ) → e ≤ f → Q e → Q f) where
  pub least-above : (f : ℕ) → limit < f → IsLeastBound P f → IsLeastBound Q f
  least-above f far h = record { positive = h.positive; holds = to f h.holds; least = λ e one q. go e one q (cases_lt e limit) } where
    go : (e : ℕ) → 1 ≤ e → Q e → (e < limit) ⊎ (limit ≤ e) → f ≤ e
    go e one q (inl below) = let l = h.least limit (omega arith) (from limit (omega arith) (greater e limit (omega arith) q)) in
        absurd (omega arith)
    go e one q (inr above) = h.least e one (from e above q)

  pub least-back : (f : ℕ) → limit < f → IsLeastBound Q f → IsLeastBound P f
  least-back f far h = record { positive = h.positive; holds = from f (omega arith) h.holds; least = λ e one p. h.least e one (to e p) }

  pub least-between : (f e : ℕ) → IsLeastBound P f → IsLeastBound Q e → (e ≤ f) × (f ≤ max e limit)
  least-between f e h q = (
    q.least f h.positive (to f h.holds),
    h.least (max e limit) (let o = q.positive in omega arith)
        (from (max e limit) (omega arith) (greater e (max e limit) (omega arith) q.holds)),
  )
