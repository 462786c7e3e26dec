-- Which evidence each row names (own). Places of rows and of evidence count from 0.
use Rattle.std.specs.Prelude.{ℕ, ◌≡◌, ◌<◌, ◌&&◌, Bool, true, false, nat_le, not, ◌==◌, ◌++◌, ◌∷◌, [], suc, zero}
use Rattle.std.specs.Prelude.{List, length, Option, Some, None, slice_get, slice_index_or, if◌then◌else◌}
use Rattle.std.specs.Option.{option_map_or}
use Rattle.run_story.specs.declared.delays.Delay.{Delay}
use Rattle.run_story.specs.declared.evidence.Evidence.{Evidence}
use Rattle.run_story.specs.declared.named.Named.{Named}
use Rattle.run_story.specs.declared.stalls.Stall.{Stall}

-- whether place k is from the one place to the other
abbrev pub is_from_to : ℕ → ℕ → ℕ → Bool
is_from_to first last k = nat_le first k && nat_le k last

-- whether the stall of this evidence has row k
abbrev pub has_gap_of : ℕ → Evidence → Bool
has_gap_of k e = option_map_or (λ s. is_from_to s.first s.last k) e.stall false

-- whether its delay has
abbrev pub has_miss_of : ℕ → Evidence → Bool
has_miss_of k e = option_map_or (λ d. is_from_to d.first d.last k) e.delay false

-- a place, before place n, of evidence that passes a test; none if there is none
abbrev pub IsPlaceBelow : (Evidence → Bool) → List Evidence → ℕ → Option ℕ → Type 0
IsPlaceBelow test list n None = (j : ℕ) (e : Evidence) → j < n → slice_get list j ≡ Some e → test e ≡ false
IsPlaceBelow test list n (Some j) = (e : Evidence) × (j < n) × (slice_get list j ≡ Some e) × (test e ≡ true)

-- the last such place
abbrev pub IsLastPlaceBelow : (Evidence → Bool) → List Evidence → ℕ → Option ℕ → Type 0
IsLastPlaceBelow test list n None = IsPlaceBelow test list n None
IsLastPlaceBelow test list n (Some j) = IsPlaceBelow test list n (Some j)
    × ((i : ℕ) (e : Evidence) → j < i → i < n → slice_get list i ≡ Some e → test e ≡ false)

-- the last places, before place n, of the evidence with the miss and with the gap of row k
pub record IsNamedBelow (list : List Evidence) (n k : ℕ) (named : Named) : Type 0 where
  pub miss : IsLastPlaceBelow (has_miss_of k) list n named.miss
  pub gap : IsLastPlaceBelow (has_gap_of k) list n named.gap

-- what is named at place k
abbrev pub named_at : List Named → ℕ → Named
named_at named k = slice_index_or named k (record { miss = None; gap = None })

-- what is named at place k, with evidence of this place for the gap if its stall has row k
abbrev pub with_gap : Named → Option Stall → ℕ → ℕ → Named
with_gap x stall k place = if option_map_or (λ s. is_from_to s.first s.last k) stall false
    then record { miss = x.miss; gap = Some place } else x

-- and for the miss if its delay has
abbrev pub with_miss : Named → Option Delay → ℕ → ℕ → Named
with_miss x delay k place = if option_map_or (λ d. is_from_to d.first d.last k) delay false
    then record { miss = Some place; gap = x.gap } else x

-- for each of so many rows the evidence that it names, of that before place n
pub record AreNamedBelow (rows : ℕ) (list : List Evidence) (n : ℕ) (named : List Named) : Type 0 where
  pub long : length named ≡ rows
  pub each : (k : ℕ) → k < rows → IsNamedBelow list n k (named_at named k)

-- for each of so many rows the evidence that it names
abbrev pub AreNamed : ℕ → List Evidence → List Named → Type 0
AreNamed rows list named = AreNamedBelow rows list (length list) named

-- whether two places are the same, or there is none twice
abbrev pub same_place : Option ℕ → Option ℕ → Bool
same_place None None = true
same_place (Some a) (Some b) = a == b
same_place (Some a) None = false
same_place None (Some b) = false

-- whether row k is the first, or names other evidence than the row before
abbrev pub begins : List Named → ℕ → Bool
begins named zero = true
begins named (suc k) =
    not (same_place (named_at named k).miss (named_at named (suc k)).miss && same_place (named_at named k).gap
    (named_at named (suc k)).gap)

-- the rows before place n that do
abbrev pub brief_to : List Named → ℕ → List ℕ
brief_to named zero = []
brief_to named (suc n) = if begins named n then brief_to named n ++ n ∷ [] else brief_to named n
