-- Stretches in the order of their levels, and as they are kept: in the opposite order.
use Rattle.std.proofs.Common.{ℕ, ◌≡◌, ◌+◌, ◌-◌, ◌<◌, ◌≤◌, ◌∙◌, List, [], ◌∷◌, ◌++◌, length, replicate, reverse, get_or}
use Rattle.std.proofs.Common.{set, Some, true, false, not, ◌==◌, Option, refl, sym, ap, suc, zero, inl, inr, arith}
use Rattle.std.proofs.Common.{length-append}
use Rattle.std.specs.Option.{option_map_or}
use Rattle.std.specs.Prelude.{slice_get, nat_lt}
use Rattle.std.specs.List.Sorted.{IsNonDecreasingBy, IsPartitionPoint}
use Rattle.std.proofs.Math.Seq.{set-append_seam, get_or-append_seam}
use Rattle.std.proofs.lemmas.Bool.{and_parts, cases_lt, eqb-true, ltb-true, ltb-false, not-false}
use Rattle.std.proofs.lemmas.Grind.{reverse_onto}
use Rattle.std.proofs.lemmas.List.{length-replicate, length-reverse, get_or-reverse, reverse-append, reverse-reverse}
use Rattle.std.proofs.lemmas.List.Sorted.{IsNonDecreasingBy-push}
use Rattle.std.proofs.lemmas.Option.{slice_get-get_or}
use Rattle.step_trace.proofs.PagePlaces.{slice_get-right}
use Rattle.suffix_staircase.proofs.Common.{Level, Stretch, CanStandBefore, StandsBefore, begins, repeated, same_bounds, height, levels_in, AreInOrder, levels_of, AreStretches}

-- there are as many levels as the first stretch says
pub length-levels_in : (stretches : List Stretch) → AreInOrder stretches
    → length (levels_in stretches) ≡ height stretches
length-levels_in [] a = refl
length-levels_in (s ∷ rest) a = simp (length-append, length-replicate) (omega (arith, length-levels_in rest a.2, a.0))

-- the first stretch is the one that is kept last
pub kept_last : (kept : List Stretch) → slice_get kept (length kept - 1) ≡ slice_get (reverse kept) 0
kept_last [] = refl
kept_last (s ∷ rest) =
    let kept = s ∷ rest in
    let long = length-reverse kept in
    let last : length kept - 1 - 0 ≡ length kept - 1 = omega arith in
    slice_get-get_or kept (length kept - 1) s (omega arith)
    ∙ ap Some (sym (rw (← last) (get_or-reverse kept 0 s (omega arith))))
    ∙ sym (slice_get-get_or (reverse kept) 0 s (omega arith))

-- there are as many levels as the first stretch says, and none if there is no stretch
pub height-first : (stretches : List Stretch) (first : Option Stretch) → AreInOrder stretches
    → first ≡ slice_get stretches 0
    → option_map_or (λ s. s.reach) first 0 ≡ length (levels_in stretches)
height-first [] first a e = rw e refl
height-first (s ∷ rest) first a e = rw (e, length-levels_in (s ∷ rest) a) refl

-- a level begins a stretch if the first one has another bound
pub begins-first : (stretches : List Stretch) (first : Option Stretch) (level : Level) → AreInOrder stretches
    → first ≡ slice_get stretches 0
    → option_map_or (λ s. not (same_bounds s.level level)) first true ≡ begins level (levels_in stretches)
begins-first [] first level a e = rw e refl
begins-first (s ∷ rest) first level a e =
    let more : s.reach - height rest ≡ suc (s.reach - height rest - 1) = let low = a.0 in omega arith in
    rw (e, more) refl

-- these are the stretches of the levels with one more before them
pub record IsRaised (old : List Stretch) (level : Level) (raised : List Stretch) : Type 0 where
  pub levels : levels_in raised ≡ level ∷ levels_in old
  pub stretches : AreInOrder raised

-- a level that begins a stretch is in one of its own
pub IsRaised-new : (kept : List Stretch) (level : Level) (reach : ℕ) (raised : List Stretch) → AreStretches kept
    → reach ≡ length (levels_of kept) + 1 → true ≡ begins level (levels_of kept)
    → raised ≡ kept ++ record { level = level; reach = reach } ∷ [] → IsRaised (reverse kept) level (reverse raised)
IsRaised-new kept level reach raised a r b e =
    let one : reach - height (reverse kept) ≡ 1 = omega (arith, r, length-levels_in (reverse kept) a) in
    rw (e, reverse-append kept (record { level = level; reach = reach } ∷ []))
    (record { levels = rw one refl; stretches = (omega (arith, one), sym b, a) })

-- levels of the same bounds
pub same_bounds-parts : (a b : Level) → same_bounds a b ≡ true → (a.delta ≡ b.delta) × (a.phi ≡ b.phi)
same_bounds-parts a b h =
    let parts = and_parts (a.delta == b.delta) (a.phi == b.phi) h in
    (eqb-true a.delta b.delta parts.0, eqb-true a.phi b.phi parts.1)

-- a level with the bounds of the first of those that it comes before is equal to it
same_level : (level first : Level) → StandsBefore level first → same_bounds first level ≡ true → level ≡ first
same_level level first b h =
    let parts = same_bounds-parts first level h in
    let delta : level.delta ≡ first.delta = sym parts.0 in
    let phi : level.phi ≡ first.phi = sym parts.1 in
    let same : record { delta = level.delta; miss = level.miss; phi = level.phi; gap = level.gap } ≡ first =
    rw (delta, b.miss delta, phi, b.gap phi) refl in
    same

-- a level that begins no stretch continues the one that is kept last
pub IsRaised-same : (kept : List Stretch) (level : Level) (last reach : ℕ) (top none : Stretch) → AreStretches kept
    → last ≡ length kept → CanStandBefore level (levels_of kept)
    → false ≡ begins level (levels_of kept) → reach ≡ length (levels_of kept) + 1 → top ≡ get_or kept (last - 1) none
    → IsRaised (reverse kept) level (reverse (set kept (last - 1) (record { level = top.level; reach = reach })))
IsRaised-same kept level last reach top none a n f b r here = go (reverse kept) (reverse-reverse kept) a f b r where
  go : (stretches : List Stretch) → reverse stretches ≡ kept → AreInOrder stretches
      → CanStandBefore level (levels_in stretches) → false ≡ begins level (levels_in stretches)
      → reach ≡ length (levels_in stretches) + 1
      → IsRaised stretches level (reverse (set kept (last - 1) (record { level = top.level; reach = reach })))
  go [] e a f b r = cc
  go (s ∷ rest) e a f b r =
      let low = a.0 in
      let seam : kept ≡ reverse rest ++ s ∷ [] = sym e ∙ reverse_onto rest s [] in
      let place : last - 1 ≡ length (reverse rest) =
      omega (arith, rw seam at n, length-append (reverse rest) (s ∷ [])) in
      let first : s.reach - height rest ≡ suc (s.reach - height rest - 1) = omega arith in
      let same : level ≡ s.level = same_level level s.level (rw first at f) (not-false _ (sym (rw first at b))) in
      let long = length-levels_in (s ∷ rest) a in
      let more : reach - height rest ≡ suc (s.reach - height rest) = omega arith in
      let new : Stretch = record { level = s.level; reach = reach } in
      rw (here, seam, place, get_or-append_seam (reverse rest) s [] none, same)
      (rw (set-append_seam (reverse rest) s [] new, reverse-append (reverse rest) (new ∷ []), reverse-reverse rest)
      (record { levels = rw more refl; stretches = (omega arith, a.1, a.2) }))

-- these are the stretches of the levels with the first of them so many times more
pub record IsRepeated (old : List Stretch) (count : ℕ) (new : List Stretch) : Type 0 where
  pub levels : levels_in new ≡ repeated count (levels_in old)
  pub stretches : AreInOrder new

replicate_onto : (k n : ℕ) (level : Level) (rest : List Level)
    → replicate (k + n) level ++ rest ≡ replicate k level ++ (replicate n level ++ rest)
replicate_onto zero n level rest = let none : 0 + n ≡ n = omega arith in rw none refl
replicate_onto (suc k) n level rest =
    let next : suc k + n ≡ suc (k + n) = omega arith in
    rw next (ap (λ (xs : List Level). level ∷ xs) (replicate_onto k n level rest))

-- the stretch that is kept last reaches further by as many levels
pub IsRepeated-last : (kept : List Stretch) (count last reach : ℕ) (top none : Stretch) → AreStretches kept
    → last ≡ length kept → 0 < length kept → reach ≡ length (levels_of kept) + count → top ≡ get_or kept (last - 1) none
    → IsRepeated (reverse kept) count (reverse (set kept (last - 1) (record { level = top.level; reach = reach })))
IsRepeated-last kept count last reach top none a n some r here = go (reverse kept) (reverse-reverse kept) a r where
  go : (stretches : List Stretch) → reverse stretches ≡ kept → AreInOrder stretches
      → reach ≡ length (levels_in stretches) + count
      → IsRepeated stretches count (reverse (set kept (last - 1) (record { level = top.level; reach = reach })))
  go [] e a r = absurd (omega (arith, rw (← e) at some))
  go (s ∷ rest) e a r =
      let low = a.0 in
      let seam : kept ≡ reverse rest ++ s ∷ [] = sym e ∙ reverse_onto rest s [] in
      let place : last - 1 ≡ length (reverse rest) =
      omega (arith, rw seam at n, length-append (reverse rest) (s ∷ [])) in
      let first : s.reach - height rest ≡ suc (s.reach - height rest - 1) = omega arith in
      let long = length-levels_in (s ∷ rest) a in
      let more : reach - height rest ≡ count + (s.reach - height rest) = omega arith in
      let new : Stretch = record { level = s.level; reach = reach } in
      rw (here, seam, place, get_or-append_seam (reverse rest) s [] none)
      (rw (set-append_seam (reverse rest) s [] new, reverse-append (reverse rest) (new ∷ []), reverse-reverse rest)
      (record {
        levels = rw more (rw first (replicate_onto count (suc (s.reach - height rest - 1)) s.level (levels_in rest)));
        stretches = (omega arith, a.1, a.2);
      }))

-- each stretch reaches to a level, and none further than the first
pub reach_within : (stretches : List Stretch) (k : ℕ) (d : Stretch) → AreInOrder stretches → k < length stretches
    → (1 ≤ (get_or stretches k d).reach) × ((get_or stretches k d).reach ≤ height stretches)
reach_within [] k d a h = absurd (omega arith)
reach_within (s ∷ rest) zero d a h = let low = a.0 in (omega arith, omega arith)
reach_within (s ∷ rest) (suc k) d a h =
    let more = reach_within rest k d a.2 (omega (arith, a.0)) in
    (more.0, let most = more.1 in omega (arith, a.0))

pub kept_within : (kept : List Stretch) (i : ℕ) (d : Stretch) → AreStretches kept → i < length kept
    → let reach = (get_or kept (length kept - 1 - i) d).reach in (1 ≤ reach) × (reach ≤ length (levels_of kept))
kept_within kept i d a h =
    rw (← get_or-reverse kept i d h, length-levels_in (reverse kept) a)
    (reach_within (reverse kept) i d a (omega (arith, length-reverse kept)))

-- in the kept order, they reach further and further
reaches-rise : (stretches : List Stretch) → AreInOrder stretches → IsNonDecreasingBy (λ s. s.reach) (reverse stretches)
reaches-rise [] a = λ i j d l m. absurd (omega arith)
reaches-rise (s ∷ rest) a =
    rw (reverse_onto rest s [])
    (IsNonDecreasingBy-push (λ (x : Stretch). x.reach) (reverse rest) s (reaches-rise rest a.2) below) where
      below : (d : Stretch) → 0 < length (reverse rest)
          → (get_or (reverse rest) (length (reverse rest) - 1) d).reach ≤ s.reach
      below d some =
          let low = a.0 in
          let long = length-reverse rest in
          let last = length rest - 1 - (length (reverse rest) - 1) in
          rw (get_or-reverse rest (length (reverse rest) - 1) d (omega arith))
          (let most = (reach_within rest last d a.2 (omega arith)).1 in omega arith)

pub kept-rise : (kept : List Stretch) → AreStretches kept → IsNonDecreasingBy (λ s. s.reach) kept
kept-rise kept a = rw (← reverse-reverse kept) (reaches-rise (reverse kept) a)

-- each level of a stretch is its level
in_stretch : (n : ℕ) (level : Level) (after : List Level) (j : ℕ) → j < n
    → slice_get (replicate n level ++ after) j ≡ Some level
in_stretch zero level after j h = absurd (omega arith)
in_stretch (suc n) level after zero h = refl
in_stretch (suc n) level after (suc j) h = in_stretch n level after j (omega arith)

-- the last stretch that reaches the depth, which is how many levels there are from one to the last, has the level at it
level_at_depth : (stretches : List Stretch) (k depth : ℕ) (d : Stretch) → AreInOrder stretches → k < length stretches
    → 1 ≤ depth → depth ≤ (get_or stretches k d).reach
    → ((i : ℕ) → k < i → i < length stretches → (get_or stretches i d).reach < depth)
    → slice_get (levels_in stretches) (height stretches - depth) ≡ Some (get_or stretches k d).level
level_at_depth [] k depth d a h low high after = absurd (omega arith)
level_at_depth (s ∷ []) zero depth d a h low high after =
    in_stretch (s.reach - 0) s.level [] (s.reach - depth) (omega arith)
level_at_depth (s ∷ t ∷ rest) zero depth d a h low high after =
    let next : t.reach < depth = after 1 (omega arith) (omega arith) in
    in_stretch (s.reach - t.reach) s.level (levels_in (t ∷ rest)) (s.reach - depth) (omega arith)
level_at_depth (s ∷ rest) (suc k) depth d a h low high after =
    let within = (reach_within rest k d a.2 (omega arith)).1 in
    let n = s.reach - height rest in
    let place : s.reach - depth ≡ n + (height rest - depth) = let first = a.0 in omega arith in
    let long = sym (length-replicate n s.level) in
    rw place (slice_get-right (replicate n s.level) (levels_in rest) n (height rest - depth) long
    ∙ level_at_depth rest k depth d a.2 (omega arith) low high (λ i l m. after (suc i) (omega arith) (omega arith)))

-- the place that a search for a level gives
pub record HoldsLevel (kept : List Stretch) (k g : ℕ) : Type 0 where
  pub within : k < length kept
  pub level : (d : Stretch) → slice_get (levels_of kept) (g - 1) ≡ Some (get_or kept k d).level

-- the place at which what is kept is parted by the depth of a level holds that level
pub level_at_point : (kept : List Stretch) (k g depth : ℕ) → AreStretches kept → 1 ≤ g → g ≤ length (levels_of kept)
    → depth ≡ length (levels_of kept) - g + 1
    → IsPartitionPoint (λ s. nat_lt s.reach depth ≡ true) (λ s. nat_lt s.reach depth ≡ false) kept k
    → HoldsLevel kept k g
level_at_point kept k g depth a low high e point = record { within = inside; level = level } where
  long : length (levels_of kept) ≡ height (reverse kept)
  long = length-levels_in (reverse kept) a

  -- the one that is kept last reaches to all levels
  within : (stretches : List Stretch) → reverse stretches ≡ kept → depth ≤ height stretches → length kept ≤ k → ⊥
  within [] same most past = omega (arith, e, most)
  within (s ∷ rest) same most past =
      let seam : kept ≡ reverse rest ++ s ∷ [] = sym same ∙ reverse_onto rest s [] in
      let count : length kept ≡ length (reverse rest) + 1 = rw seam (length-append (reverse rest) (s ∷ [])) in
      let last : get_or kept (length (reverse rest)) s ≡ s = rw seam (get_or-append_seam (reverse rest) s [] s) in
      let below = ltb-true s.reach depth (rw last at (point.0 (length (reverse rest)) s (omega arith) (omega arith))) in
      omega arith

  inside : k < length kept
  inside = elim (cases_lt k (length kept)) [
    | inl l ↦ l
    | inr past ↦ absurd (within (reverse kept) (reverse-reverse kept) (omega (arith, e, long, low, high)) past)
  ]

  -- what is kept here, in the order of the levels
  ordered : (i : ℕ) (d : Stretch) → i < length kept → get_or (reverse kept) (length kept - 1 - i) d ≡ get_or kept i d
  ordered i d l =
      let back : length kept - 1 - (length kept - 1 - i) ≡ i = omega arith in
      get_or-reverse kept (length kept - 1 - i) d (omega arith) ∙ rw back refl

  level : (d : Stretch) → slice_get (levels_of kept) (g - 1) ≡ Some (get_or kept k d).level
  level d =
      let count = length-reverse kept in
      let here = ltb-false (get_or kept k d).reach depth (point.1 k d (omega arith) inside) in
      let place : height (reverse kept) - depth ≡ g - 1 = omega (arith, e, long, low, high) in
      rw (← place, ← ordered k d inside)
      (level_at_depth (reverse kept) (length kept - 1 - k) depth d a (omega (arith, inside)) (omega (arith, e))
      (rw (ordered k d inside) here)
      (λ i l m.
      let before = point.0 (length kept - 1 - i) d (omega arith) (omega (arith, inside)) in
      rw (get_or-reverse kept i d (omega arith)) (ltb-true _ depth before)))
