-- The least processor bound from the gaps, one tick back.
use Rattle.std.proofs.Common.{ℕ, ◌≡◌, ◌+◌, ◌-◌, ◌<◌, ◌≤◌, ◌⊎◌, inl, inr, List, length, get_or, set, Option, Some, None, Bool, true, false, cond, refl, arith}
use Rattle.std.specs.Prelude.{nat_le}
use Rattle.std.proofs.lemmas.Bool.{cases_eq, cases_lt, leb-true, leb-false}
use Rattle.suffix_staircase.proofs.Common.{Gap, IsWithin, Recorded, PhiHolds, IsPhi, IsGap, NamesGap, Level}
use Rattle.suffix_staircase.proofs.Common.{AreNextSteps, IsLatest, KnowsGaps, with_gap, GapRefutes-sound}
use Rattle.suffix_staircase.proofs.Common.{IsNamedGap-refutes, PhiHolds-unrefuted}
use Rattle.suffix_staircase.proofs.LongestGaps.{IsLongest-from_latest}

-- a bound with its named gap is positive
pub phi_positive : (set : ℕ) (trace : Recorded) (g f : ℕ) (o : Option Gap) → NamesGap set trace g f o → 1 ≤ f
phi_positive set trace g f None h = omega arith
phi_positive set trace g f (Some w) h = let l = h.0 in omega arith

-- no smaller bound holds than the one with its named gap
phi_least : (set : ℕ) (trace : Recorded) (g f : ℕ) (o : Option Gap)
    → NamesGap set trace g f o → (e : ℕ) → 1 ≤ e → PhiHolds set trace g e → f ≤ e
phi_least set trace g f None h e p holds = omega arith
phi_least set trace g f (Some w) h e p holds = elim (cases_lt e f) [
  | inl low ↦ absurd (GapRefutes-sound set trace g e w (IsNamedGap-refutes set trace g f e w low h.1) holds)
  | inr high ↦ high
]

-- the bound above all gaps, of which one is shorter by one only, is the least
pub IsPhi-from_gaps : (set : ℕ) (trace : Recorded) (g f : ℕ) (o : Option Gap) → 1 ≤ g → KnowsGaps set trace g f o → IsPhi set trace g f
IsPhi-from_gaps set trace g f o start k =
    let positive = phi_positive set trace g f o k.named in
    record {
      positive = positive;
      holds = PhiHolds-unrefuted set trace g f start positive (λ w r. omega (arith, k.shorter w r.gap r.from, r.long));
      least = phi_least set trace g f o k.named;
    }

-- If this gap refutes the bound f, it is the longest of the gaps that begin at x and of the least processor. If it
-- doesn't, none does.
pub record IsLongestOver (set : ℕ) (trace : Recorded) (x f q until : ℕ) : Type 0 where
  pub gap : x < until → IsGap set trace (record { proc = q; from = x; to = until - 1 })
  pub longest : (u : Gap) → IsGap set trace u → u.from ≡ x → (u.to < until) ⊎ (u.to + 1 < x + f)
  pub least : (u : Gap) → IsGap set trace u → u.from ≡ x → x + f ≤ u.to + 1 → u.to + 1 ≡ until → q ≤ u.proc

-- if it refutes the bound, it is longer than all that begin later
gaps_longer : (set : ℕ) (trace : Recorded) (x f q until : ℕ) (o : Option Gap) → KnowsGaps set trace (x + 1) f o → IsLongestOver
    set trace x f q until → f ≤ until - x → KnowsGaps set trace x (until - x + 1) (Some (record { proc = q; from = x; to = until - 1 }))
gaps_longer set trace x f q until o k l h =
    let positive = phi_positive set trace (x + 1) f o k.named in
    let above : x < until = omega arith in
    record {
      shorter = λ w i a. elim (cases_eq w.from x) [
        | inl e ↦ elim (l.longest w i e) [ inl short ↦ omega (arith, short, e, above) | inr short ↦ omega (arith, short, e, h) ]
        | inr n ↦ (let later : x + 1 ≤ w.from = omega (arith, n, a) in omega (arith, k.shorter w i later, h))
      ];
      named = (
        omega arith,
        record {
          gap = l.gap above;
          from = omega arith;
          long = omega arith;
          greatest = λ w i a e. elim (cases_lt x w.from) [
            | inl later ↦ absurd (let short = k.shorter w i (omega (arith, later)) in omega (arith, short, h, e))
            | inr b ↦ b
          ];
          least = λ w i e b. l.least w i e (omega (arith, e, b, above, h)) (omega (arith, e, b, above));
        },
      );
    }

-- if it doesn't, no gap that begins at x is as long as the named one
gaps_kept : (set : ℕ) (trace : Recorded) (x f q until : ℕ) (o : Option Gap)
    → KnowsGaps set trace (x + 1) f o → IsLongestOver set trace x f q until → until - x < f → KnowsGaps set trace x f o
gaps_kept set trace x f q until o k l h = record {
  shorter = λ w i a. elim (cases_eq w.from x) [
    | inl e ↦ elim (l.longest w i e) [ inl short ↦ omega (arith, short, e, h) | inr short ↦ omega (arith, short, e) ]
    | inr n ↦ (let later : x + 1 ≤ w.from = omega (arith, n, a) in k.shorter w i later)
  ];
  named = go o k.named;
} where
  go : (o : Option Gap) → NamesGap set trace (x + 1) f o → NamesGap set trace x f o
  go None h = h
  go (Some w) h = let named = h.1 in let from = named.from in (
    h.0,
    record {
      gap = named.gap;
      from = omega arith;
      long = named.long;
      greatest = λ v i a e. elim (cases_lt x v.from)
          [ inl later ↦ named.greatest v i (omega (arith, later)) e | inr b ↦ (let low : v.from ≤ w.from = omega (arith, b, from) in low) ];
      least = named.least;
    },
  )

-- the level, one tick back, as far as its gaps go
pub record GapsLowered (set : ℕ) (trace : Recorded) (x : ℕ) (old new : Level) : Type 0 where
  pub gaps : KnowsGaps set trace x new.phi new.gap
  pub phi : old.phi ≤ new.phi
  pub gap : new.phi ≡ old.phi → new.gap ≡ old.gap
  pub delta : new.delta ≡ old.delta
  pub miss : new.miss ≡ old.miss

-- one tick back, the level takes that gap if its bound allows it no more
pub GapsLowered-with_over : (set : ℕ) (t : Recorded) (x q until : ℕ) (level : Level)
    → IsLongestOver set t x level.phi q until → KnowsGaps set t (x + 1) level.phi level.gap
    → GapsLowered set t x level (with_gap level q x until)
GapsLowered-with_over set t x q until level longest k = go (nat_le level.phi (until - x)) refl where
  go : (b : Bool) → nat_le level.phi (until - x) ≡ b → GapsLowered set t x level (cond b (record
      { delta = level.delta; miss = level.miss; phi = until - x + 1; gap = Some (record { proc = q; from = x; to = until - 1 }) }) level)
  go true e = let h = leb-true level.phi (until - x) e in record {
    gaps = gaps_longer set t x level.phi q until level.gap k longest h;
    phi = omega arith;
    gap = λ same. absurd (omega (arith, same, h));
    delta = refl;
    miss = refl;
  }
  go false e = let h = leb-false level.phi (until - x) e in record {
    gaps = gaps_kept set t x level.phi q until level.gap k longest h;
    phi = omega arith;
    gap = λ same. refl;
    delta = refl;
    miss = refl;
  }

-- so it does with that of the member whose next step comes last
pub GapsLowered-with_gap : (set : ℕ) (t : Recorded) (x q : ℕ) (next : List ℕ) (level : Level)
    → 1 ≤ x → IsWithin set t.config.n → AreNextSteps set t x next → IsLatest set next (length next) q
    → KnowsGaps set t (x + 1) level.phi level.gap → GapsLowered set t x level (with_gap level q x (get_or next q 0))
GapsLowered-with_gap set t x q next level start within known latest k =
    let l = IsLongest-from_latest set t x q next start within known latest in
    GapsLowered-with_over set t x q (get_or next q 0) level
    (record { gap = l.gap; longest = λ w i e. inl (l.longest w i e); least = λ w i e long. l.least w i e }) k
