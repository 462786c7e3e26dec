-- A bound that takes one piece of evidence more.
use Rattle.std.proofs.Common.{ℕ, ◌≡◌, ◌+◌, ◌<◌, ◌≤◌, ◌⊎◌, inl, inr, Option, Some, None, Bool, true, false, cond, refl, arith}
use Rattle.std.specs.Prelude.{nat_le}
use Rattle.std.proofs.lemmas.Bool.{leb-true, leb-false}
use Rattle.link_bounds.specs.declared.bounds.LeastBound.{LeastBound}
use Rattle.link_bounds.specs.Evidence.{NamesLatest, AllowsAll, noted, without_evidence}

module _ (E : Type 0) (place start end : E → ℕ) where
  names_positive : (Counts : E → Type 0) (d : ℕ) (w : Option E) → NamesLatest E Counts place start end d w → 1 ≤ d
  names_positive Counts d None h = omega arith
  names_positive Counts d (Some e) h = let l = h.0 in omega arith

  -- a bound with its named witness is positive
  pub AllowsAll-positive : (Counts : E → Type 0) (bound : LeastBound E) → AllowsAll E Counts place start end bound → 1 ≤ bound.least
  AllowsAll-positive Counts bound k = names_positive Counts bound.least bound.witness k.named

  -- if nothing counts, the bound is 1
  pub AllowsAll-nothing : (Counts : E → Type 0) → ((e : E) → ¬ Counts e) → AllowsAll E Counts place start end without_evidence
  AllowsAll-nothing Counts nothing = record { shorter = λ e c. absurd (nothing e c); named = refl }

  -- if the same counts, the bound stays
  pub AllowsAll-same : (Old New : E → Type 0) (bound : LeastBound E) → ((o : E) → Old o → New o)
      → ((o : E) → New o → Old o) → AllowsAll E Old place start end bound → AllowsAll E New place start end bound
  AllowsAll-same Old New bound still back k = record { shorter = λ e c. k.shorter e (back e c); named = go bound.witness k.named } where
    go : (w : Option E) → NamesLatest E Old place start end bound.least w → NamesLatest E New place start end bound.least w
    go None n = n
    go (Some v) n =
        let named = n.1 in (n.0, record { counts = still v named.counts; long = named.long; latest = λ o c l. named.latest o (back o c) l })

  -- What counts grows by pieces that are no longer than this one. Those of its length are at its place or before, and
  -- this is before all that counted, if it has a length at all.
  pub record GrowsBy (Old New : E → Type 0) (e : E) (long : ℕ) : Type 0 where
    pub still : (o : E) → Old o → New o
    pub before : (o : E) → Old o → 0 < long → place e < place o
    pub found : 0 < long → New e × (end e ≡ start e + long)
    pub rest : (o : E) → New o → Old o ⊎ ((end o ≤ start o + long) × (start o + long ≡ end o → place o ≤ place e))

  -- the bound then takes this piece, if it allows none so long
  pub AllowsAll-noted : (Old New : E → Type 0) (e : E) (long : ℕ) (bound : LeastBound E) → GrowsBy Old New e long
      → AllowsAll E Old place start end bound → AllowsAll E New place start end (noted bound e long)
  AllowsAll-noted Old New e long bound grows k = go (nat_le bound.least long) refl where
    positive : 1 ≤ bound.least
    positive = AllowsAll-positive Old bound k

    keeps : long < bound.least → (w : Option E) → NamesLatest E Old place start end bound.least w
        → NamesLatest E New place start end bound.least w
    keeps h None n = n
    keeps h (Some v) n = let named = n.1 in let above = n.0 in (
      n.0,
      record {
        counts = grows.still v named.counts;
        long = named.long;
        latest = λ o c l. elim (grows.rest o c) [
          | inl old ↦ named.latest o old l
          | inr r ↦ (let short = r.0 in
              let same : start o + long ≡ end o = omega arith in
              let low = r.1 same in
              let high = grows.before v named.counts (omega arith) in
              omega arith)
        ];
      },
    )

    go : (b : Bool)
        → nat_le bound.least long ≡ b → AllowsAll E New place start end (cond b (record { least = long + 1; witness = Some e }) bound)
    go true t =
        let h : bound.least ≤ long = leb-true bound.least long t in
        let f = grows.found (omega (arith, positive)) in
        let at = f.1 in
        record {
          shorter = λ o c.
              elim (grows.rest o c) [ inl old ↦ (let short = k.shorter o old in omega arith) | inr r ↦ (let short = r.0 in omega arith) ];
          named = (
            omega (arith, positive),
            record {
              counts = f.0;
              long = omega arith;
              latest = λ o c l. elim (grows.rest o c)
                  [ inl old ↦ absurd (let short = k.shorter o old in omega arith) | inr r ↦ r.1 (omega arith) ];
            },
          );
        }
    go false t =
        let h : long < bound.least = leb-false bound.least long t in
        record {
          shorter = λ o c. elim (grows.rest o c) [ inl old ↦ k.shorter o old | inr r ↦ (let short = r.0 in omega arith) ];
          named = keeps h bound.witness k.named;
        }
