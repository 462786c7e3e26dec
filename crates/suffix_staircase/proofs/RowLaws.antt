-- The rows of levels, and their starts, are those that the definitions name.
use Rattle.std.proofs.Common.{ℕ, ◌≡◌, ◌+◌, ◌-◌, ◌<◌, ◌≤◌, ◌⊎◌, ◌∙◌, inl, inr, List, [], ◌∷◌, map, get_or, Option, Some, None, Bool, true, false, not, cond, refl, sym, ap, subst, suc, zero, arith}
use Rattle.std.specs.Prelude.{Contains, slice_get}
use Rattle.std.specs.List.Sorted.{IsStrictlyIncreasing}
use Rattle.std.proofs.lemmas.Bool.{not-true}
use Rattle.std.proofs.lemmas.List.Elements.{Contains-get_or}
use Rattle.std.proofs.lemmas.Option.{same_Some, none-some, slice_get_within, slice_get-get_or}
use Rattle.step_trace.proofs.ListMembers.{Contains-nil, Contains-rest, Contains-map, Contains-from_map, Contains-cons_cases}
use Rattle.suffix_staircase.proofs.Common.{Row, Level, same_bounds, is_other, row_from, level_of, rows_after, rows_of, starts, IsStart, AreStarts}

-- what is before a place of levels, if this is before all
abbrev pub before : Option Level → List Level → ℕ → Option Level
before last levels zero = last
before last levels (suc k) = slice_get levels k

-- the row of a place of levels, the first of which has the number g, that has another bound than what is before it
record IsRowAfter (last : Option Level) (g : ℕ) (levels : List Level) (r : Row) : Type 0 where
  pub place : ℕ
  pub gst : r.gst ≡ g + place
  pub stands : slice_get levels place ≡ Some (level_of r)
  pub other : is_other (before last levels place) (level_of r) ≡ true

-- a row after the first level is one of all levels
later : (last : Option Level) (g : ℕ) (level : Level) (rest : List Level) (r : Row)
    → IsRowAfter (Some level) (g + 1) rest r → IsRowAfter last g (level ∷ rest) r
later last g level rest r a = record {
  place = suc a.place;
  gst = let gst = a.gst in omega arith;
  stands = a.stands;
  other = go a.place a.other;
} where
  go : (k : ℕ) → is_other (before (Some level) rest k) (level_of r) ≡ true
      → is_other (slice_get (level ∷ rest) k) (level_of r) ≡ true
  go zero e = e
  go (suc k) e = e

-- a row is there if it is the first, and a test lets that in, or if it is a later one
cond-cases : (b : Bool) (first r : Row) (more : List Row) → Contains (cond b (first ∷ more) more) r
    → ((b ≡ true) × (first ≡ r)) ⊎ Contains more r
cond-cases true first r more c = elim (Contains-cons_cases first r more c) [ inl e ↦ inl (refl, e) | inr l ↦ inr l ]
cond-cases false first r more c = inr c

cond-rest : (b : Bool) (first r : Row) (more : List Row) → Contains more r → Contains (cond b (first ∷ more) more) r
cond-rest true first r more c = Contains-rest first r more c
cond-rest false first r more c = c

IsRowAfter-from_rows : (last : Option Level) (g : ℕ) (levels : List Level) (r : Row)
    → Contains (rows_after last g levels) r → IsRowAfter last g levels r
IsRowAfter-from_rows last g [] r c = absurd (Contains-nil r c)
IsRowAfter-from_rows last g (level ∷ rest) r c =
    elim (cond-cases (is_other last level) (row_from g level) r (rows_after (Some level) (g + 1) rest) c) [
      | inl first ↦ subst (IsRowAfter last g (level ∷ rest)) first.1
          (record { place = 0; gst = omega arith; stands = refl; other = first.0 })
      | inr more ↦ later last g level rest r (IsRowAfter-from_rows (Some level) (g + 1) rest r more)
    ]

rows-complete : (last : Option Level) (g : ℕ) (levels : List Level) (r : Row) (k : ℕ) → r.gst ≡ g + k
    → slice_get levels k ≡ Some (level_of r) → is_other (before last levels k) (level_of r) ≡ true
    → Contains (rows_after last g levels) r
rows-complete last g [] r k gst stands other = absurd (none-some (level_of r) stands)
rows-complete last g (level ∷ rest) r zero gst stands other =
    let here : g ≡ r.gst = omega arith in
    rw (same_Some level (level_of r) stands, other) (0, omega arith, rw here refl)
rows-complete last g (level ∷ rest) r (suc zero) gst stands other =
    cond-rest (is_other last level) (row_from g level) r _
    (rows-complete (Some level) (g + 1) rest r 0 (omega arith) stands other)
rows-complete last g (level ∷ rest) r (suc (suc k)) gst stands other =
    cond-rest (is_other last level) (row_from g level) r _
    (rows-complete (Some level) (g + 1) rest r (suc k) (omega arith) stands other)

-- a number below all of those that rise
rising-cons : (n : ℕ) (ns : List ℕ) → ((m : ℕ) → Contains ns m → n < m) → IsStrictlyIncreasing ns
    → IsStrictlyIncreasing (n ∷ ns)
rising-cons n ns below rises zero l = below (get_or ns 0 0) (Contains-get_or ns 0 0 (omega arith))
rising-cons n ns below rises (suc k) l = let e : suc k + 1 ≡ suc (k + 1) = omega arith in rw e (rises k (omega arith))

rows-rising : (last : Option Level) (g : ℕ) (levels : List Level)
    → IsStrictlyIncreasing (map (λ r. r.gst) (rows_after last g levels))
rows-rising last g [] = λ k l. absurd (omega arith)
rows-rising last g (level ∷ rest) = go (is_other last level) (rows-rising (Some level) (g + 1) rest) where
  more : List Row
  more = rows_after (Some level) (g + 1) rest

  above : (m : ℕ) → Contains (map (λ r. r.gst) more) m → g < m
  above m c =
      let r = Contains-from_map (λ (r : Row). r.gst) more m c in
      let gst = (IsRowAfter-from_rows (Some level) (g + 1) rest r.0 r.1).gst in
      omega (arith, gst, r.2)

  go : (b : Bool) → IsStrictlyIncreasing (map (λ r. r.gst) more)
      → IsStrictlyIncreasing (map (λ r. r.gst) (cond b (row_from g level ∷ more) more))
  go true rises = rising-cons g (map (λ r. r.gst) more) above rises
  go false rises = rises

-- the row of a start
pub record IsStartRow (levels : List Level) (r : Row) : Type 0 where
  pub start : IsStart levels r.gst
  pub stands : slice_get levels (r.gst - 1) ≡ Some (level_of r)

-- the rows of all starts, in rising order
pub record AreRows (levels : List Level) (rows : List Row) : Type 0 where
  pub rising : IsStrictlyIncreasing (map (λ r. r.gst) rows)
  pub sound : (r : Row) → Contains rows r → IsStartRow levels r
  pub complete : (r : Row) → IsStartRow levels r → Contains rows r

pub AreRows-rows : (levels : List Level) → AreRows levels (rows_of levels)
AreRows-rows levels = record {
  rising = rows-rising None 1 levels;
  sound = λ r c. let a = IsRowAfter-from_rows None 1 levels r c in start r a.place a.gst a.stands a.other;
  complete = λ r s. row r r.gst refl s.start s.stands;
} where
  differs : (r : Row) (last : Level) (k : ℕ) → r.gst ≡ 1 + k → 2 ≤ r.gst → slice_get levels (r.gst - 2) ≡ Some last
      → is_other (before None levels k) (level_of r) ≡ true
      → same_bounds (level_of r) last ≡ false
  differs r last zero gst l found other = absurd (omega arith)
  differs r last (suc k) gst l found other =
      let place : r.gst - 2 ≡ k = omega arith in
      not-true _ (rw (rw place at found) at other)

  start : (r : Row) (k : ℕ) → r.gst ≡ 1 + k → slice_get levels k ≡ Some (level_of r)
      → is_other (before None levels k) (level_of r) ≡ true → IsStartRow levels r
  start r k gst stands other =
      let here : r.gst - 1 ≡ k = omega arith in
      record {
        start = record {
          level = level_of r;
          here = omega arith;
          stands = rw here stands;
          other = λ last l found. differs r last k gst l found other;
        };
        stands = rw here stands;
      }

  row : (r : Row) (g : ℕ) → r.gst ≡ g → IsStart levels g → slice_get levels (g - 1) ≡ Some (level_of r)
      → Contains (rows_of levels) r
  row r zero gst s stands = absurd (let here = s.here in omega arith)
  row r (suc zero) gst s stands = rows-complete None 1 levels r 0 (omega arith) stands refl
  row r (suc (suc k)) gst s stands =
      let here : suc (suc k) - 1 ≡ suc k = omega arith in
      let place : suc (suc k) - 2 ≡ k = omega arith in
      let there : slice_get levels (suc k) ≡ Some (level_of r) = rw here at stands in
      let within = slice_get_within levels (suc k) (level_of r) there in
      let last = slice_get-get_or levels k s.level (omega arith) in
      let level : s.level ≡ level_of r = same_Some _ _ (sym s.stands ∙ stands) in
      let other = s.other (get_or levels k s.level) (omega arith) (rw place last) in
      rows-complete None 1 levels r (suc k) (omega arith) there
      (rw last (subst (λ (x : Level). not (same_bounds x (get_or levels k s.level)) ≡ true) level (ap not other)))

-- so the list of starts is right
pub AreStarts-starts : (levels : List Level) → AreStarts levels (starts levels)
AreStarts-starts levels =
    let rows = AreRows-rows levels in
    record {
      rising = rows.rising;
      sound =
          λ g c. let r =
          Contains-from_map (λ (r : Row). r.gst) (rows_of levels) g c in subst (IsStart levels) r.2
          (rows.sound r.0 r.1).start;
      complete =
          λ g s. Contains-map (λ (r : Row). r.gst) (rows_of levels) (row_from g s.level)
          (rows.complete (row_from g s.level) (record { start = s; stands = s.stands }));
    }
