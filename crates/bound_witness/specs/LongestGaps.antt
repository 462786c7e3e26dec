-- The longest gaps of the members of a set (own).
use Rattle.std.specs.Prelude.{ℕ, ◌≡◌, ◌-◌, ◌+◌, ◌<◌, ◌≤◌, ◌↔◌, ◌⊎◌, List, []}
use Rattle.std.specs.Prelude.{◌∷◌, Contains, AllPairs, nat_lt, if◌then◌else◌}
use Rattle.step_trace.specs.declared.rows.Gap.{Gap}
use Rattle.step_trace.specs.Traces.{Recorded}
use Rattle.step_trace.specs.Witnesses.{IsGap}

-- a gap that no longer gap of its processor covers
pub record IsLongestGap (set : ℕ) (trace : Recorded) (w : Gap) : Type 0 where
  pub gap : IsGap set trace w
  pub longest : (o : Gap) → IsGap set trace o → o.proc ≡ w.proc → o.from ≤ w.from → w.to ≤ o.to → o ≡ w

-- by processor, then by beginning
abbrev pub Precedes : Gap → Gap → Type 0
Precedes v w = (v.proc < w.proc) ⊎ ((v.proc ≡ w.proc) × (v.from < w.from))

-- the gap is of a processor before p, or it is of p and begins in tick x or before
abbrev pub BeginsBy : Gap → ℕ → ℕ → Type 0
BeginsBy w p x = (w.proc < p) ⊎ ((w.proc ≡ p) × (w.from ≤ x))

-- the longest gaps up to tick x of processor p, in their order
pub record ListsGapsBy (set : ℕ) (trace : Recorded) (p x : ℕ) (ws : List Gap) : Type 0 where
  pub listed : (w : Gap) → Contains ws w ↔ (IsLongestGap set trace w × BeginsBy w p x)
  pub ordered : AllPairs Precedes ws

-- the gap between the ticks of two steps of p, if they aren't neighbours
abbrev pub gap_between : ℕ → ℕ → ℕ → List Gap
gap_between p last next =
    if nat_lt (last + 1) next then record { proc = p; from = last + 1; to = next - 1 } ∷ [] else []
