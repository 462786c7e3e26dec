-- Where the rows that have begun end, in rows that rise.
use Rattle.std.proofs.Common.{ℕ, ◌≡◌, ◌+◌, ◌≤◌, List, [], ◌∷◌, length, map, slice_get, None, true, false, refl, suc, zero, arith}
use Rattle.std.specs.Prelude.{nat_le}
use Rattle.std.specs.List.Sorted.{IsStrictlyIncreasing, IsNonDecreasingBy, IsPartitionPoint}
use Rattle.std.proofs.lemmas.List.{length-map, get_or-map}
use Rattle.std.proofs.lemmas.List.Sorted.{IsNonDecreasingBy-from_all_adjacent}
use Rattle.std.proofs.lemmas.Option.{slice_get-get_or}
use Rattle.step_trace.specs.declared.rows.Row.{Row}
use Rattle.front.specs.Reports.{last_begun}

-- what rises doesn't fall
pub IsNonDecreasingBy-rising : (rows : List Row) → IsStrictlyIncreasing (map (λ r. r.gst) rows)
    → IsNonDecreasingBy (λ r. r.gst) rows
IsNonDecreasingBy-rising rows rising = IsNonDecreasingBy-from_all_adjacent (λ r. r.gst) rows (λ k d l.
    let gst = λ (r : Row). r.gst in
    let next = rising k (omega (arith, length-map rows gst, l)) in
    omega (arith, next, get_or-map gst rows k d 0 (omega arith), get_or-map gst rows (k + 1) d 0 l))

-- the rows before a place begin at g or before, and those from it on after g
abbrev pub IsPlace : List Row → ℕ → ℕ → Type 0
IsPlace rows g i = IsPartitionPoint (λ r. nat_le r.gst g ≡ true) (λ r. nat_le r.gst g ≡ false) rows i

place-tail : (x : Row) (rest : List Row) (g i : ℕ) → IsPlace (x ∷ rest) g (suc i) → IsPlace rest g i
place-tail x rest g i h = (λ k d l m. h.0 (suc k) d (omega arith) (omega arith), λ k d l m. h.1 (suc k) d (omega arith) (omega arith))

pub last_begun-first : (rows : List Row) (g : ℕ) → IsPlace rows g 0 → last_begun rows g ≡ None
last_begun-first [] g h = refl
last_begun-first (x ∷ rest) g h =
    let none = last_begun-first rest g (λ k d l m. absurd (omega arith), λ k d l m. h.1 (suc k) d (omega arith) (omega arith)) in
    rw (none, h.1 0 x (omega arith) (omega arith)) refl

pub last_begun-at : (rows : List Row) (g i : ℕ) → suc i ≤ length rows → IsPlace rows g (suc i) → last_begun rows g ≡ slice_get rows i
last_begun-at [] g i l h = absurd (omega arith)
last_begun-at (x ∷ rest) g zero l h = rw (last_begun-first rest g (place-tail x rest g 0 h), h.0 0 x (omega arith) (omega arith)) refl
last_begun-at (x ∷ rest) g (suc i) l h =
    let more = last_begun-at rest g i (omega arith) (place-tail x rest g (suc i) h) in
    rw (more, slice_get-get_or rest i x (omega arith)) refl
