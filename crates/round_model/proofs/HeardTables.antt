-- Tables of who heard whom keep their limits.
use Rattle.std.proofs.Common.{ℕ, ◌≡◌, ◌-◌, ◌<◌, ◌≤◌, List, [], length, get_or, set, All, false, arith, ap, ◌∙◌}
use Rattle.std.proofs.lemmas.List.{length-set, get_or-set_same}
use Rattle.std.proofs.lemmas.List.Elements.{All-set, All-get_or, All-nil, All-weaker}
use Rattle.round_model.proofs.Common.{has_proc, IsWithin, HeardTable, IsHeardTable, heard_set, table_of, numbered}
use Rattle.round_model.proofs.NumberedElements.{numbered-at, numbered-all}

-- the set has no member
abbrev pub IsEmpty : ℕ → Type 0
IsEmpty set = (p : ℕ) → has_proc set p ≡ false

-- sets of processors within n
abbrev pub AreWithin : ℕ → List ℕ → Type 0
AreWithin n sets = All (λ set. IsWithin set n) sets

-- a table with another set in one place
pub IsHeardTable-set : (h : HeardTable) (i j senders : ℕ) → IsHeardTable h → i < h.n → IsWithin senders h.n →
    IsHeardTable (record h { sets = set h.sets i (set (get_or h.sets i []) j senders) })
IsHeardTable-set h i j senders is low inside =
    let inside' : i < length h.sets = omega (arith, is.processors) in
    record {
      least = is.least;
      most = is.most;
      limit = is.limit;
      processors = length-set h.sets i _ ∙ is.processors;
      lengths = All-set (λ sets. length sets ≡ h.rounds) h.sets i _
          (length-set _ j senders ∙ All-get_or (λ sets. length sets ≡ h.rounds) h.sets i [] inside' is.lengths) is.lengths;
      within = All-set (AreWithin h.n) h.sets i _
          (All-set (λ set. IsWithin set h.n) _ j senders inside (All-get_or (AreWithin h.n) h.sets i [] inside' is.within)) is.within;
    }

-- empty sets are within any n
pub AreWithin-empty : (n : ℕ) (rows : List (List ℕ)) → All (λ sets. All IsEmpty sets) rows → All (AreWithin n) rows
AreWithin-empty n rows empty = All-weaker (λ sets. All IsEmpty sets)
    (AreWithin n) (All-weaker IsEmpty (λ set. IsWithin set n) (λ set none p has. absurd (grind (arith, none p, has)))) rows empty

-- if no set has a member nobody hears anybody
pub table_of-empty : (h : HeardTable) → IsEmpty 0 → All (λ sets. All IsEmpty sets) h.sets
    → (p round sender : ℕ) → table_of h p round sender ≡ false
table_of-empty h none empty p round =
    numbered-all IsEmpty 0 (numbered [] h.sets p) round none
    (numbered-all (λ sets. All IsEmpty sets) [] h.sets p (All-nil IsEmpty) empty)

-- the set that a processor hears in a round, by its place
pub heard_set-at : (h : HeardTable) (p round : ℕ) → 1 ≤ p
    → 1 ≤ round → heard_set h p round ≡ get_or (get_or h.sets (p - 1) []) (round - 1) 0
heard_set-at h p round low first =
    numbered-at {X = ℕ} 0 (numbered [] h.sets p) round first ∙ ap (λ sets. get_or sets (round - 1) 0) (numbered-at [] h.sets p low)

-- the set that was put in a place is there
pub heard_set-set : (h : HeardTable) (p round senders : ℕ) → IsHeardTable h → 1 ≤ p → p ≤ h.n → 1 ≤ round → round ≤ h.rounds →
    heard_set (record h { sets = set h.sets (p - 1) (set (get_or h.sets (p - 1) []) (round - 1) senders) }) p round ≡ senders
heard_set-set h p round senders is low high first last =
    let inside : p - 1 < length h.sets = omega (arith, is.processors) in
    let long : length (get_or h.sets (p - 1) []) ≡ h.rounds =
    All-get_or (λ sets. length sets ≡ h.rounds) h.sets (p - 1) [] inside is.lengths in
    heard_set-at (record h { sets = set h.sets (p - 1) (set (get_or h.sets (p - 1) []) (round - 1) senders) }) p round low first
    ∙ ap (λ sets. get_or sets (round - 1) 0) (get_or-set_same h.sets (p - 1) _ [] inside)
    ∙ get_or-set_same _ (round - 1) senders 0 (omega arith)
