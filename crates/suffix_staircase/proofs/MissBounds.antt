-- The least communication bound from the misses, and one step back.
use Rattle.std.proofs.Common.{ℕ, ◌≡◌, ◌+◌, ◌-◌, ◌<◌, ◌≤◌, inl, inr, Option, Some, None, Bool, true, false, IsTrue, cond, refl, ap, subst, arith}
use Rattle.std.specs.Prelude.{nat_le}
use Rattle.std.proofs.lemmas.Bool.{cases_eq, cases_lt, leb-true, leb-false}
use Rattle.step_trace.proofs.StepPositions.{same_step}
use Rattle.suffix_staircase.proofs.Common.{Miss, Step, has_proc, DeltaHolds, IsDelta, tick_of, Recorded, step_at}
use Rattle.suffix_staircase.proofs.Common.{IsMiss, NamesMiss, Level, StandsBefore, KnowsMisses, NamesAfter}
use Rattle.suffix_staircase.proofs.Common.{KnowsMissesAfter, with_miss, MissRefutes-sound, IsNamedMiss-refutes}
use Rattle.suffix_staircase.proofs.Common.{DeltaHolds-unrefuted}
use Rattle.suffix_staircase.proofs.MissNumbers.{IsLastMissOf}

-- a bound with its named miss is positive
delta_positive : (set : ℕ) (t : Recorded) (g d : ℕ) (o : Option Miss) → NamesMiss set t g d o → 1 ≤ d
delta_positive set t g d None h = omega arith
delta_positive set t g d (Some m) h = let l = h.0 in omega arith

-- no smaller bound holds than the one with its named miss
delta_least : (set : ℕ) (t : Recorded) (g d : ℕ) (o : Option Miss) → NamesMiss set t g d o → (e : ℕ) → 1 ≤ e → DeltaHolds set t g e → d ≤ e
delta_least set t g d None h e p holds = omega arith
delta_least set t g d (Some m) h e p holds = elim (cases_lt e d) [
  | inl low ↦ absurd (MissRefutes-sound set t g e m (IsNamedMiss-refutes set t g d e m low h.1) holds)
  | inr high ↦ high
]

-- the bound above all misses, of which one is shorter by one only, is the least
pub IsDelta-from_misses : (set : ℕ) (t : Recorded) (g d : ℕ) (o : Option Miss) → KnowsMisses set t g d o → IsDelta set t g d
IsDelta-from_misses set t g d o k =
    let positive = delta_positive set t g d o k.named in
    record {
      positive = positive;
      holds = DeltaHolds-unrefuted set t g d positive (λ m r. omega (arith, k.shorter m r.miss r.from, r.long));
      least = delta_least set t g d o k.named;
    }

-- so is one with the witness among the messages after a step
pub after_positive : (set : ℕ) (t : Recorded) (done d : ℕ) (o : Option Miss) → NamesAfter set t done d o → 1 ≤ d
after_positive set t done d None h = omega arith
after_positive set t done d (Some m) h = let l = h.0 in omega arith

-- a miss by its two numbers
same_sent : (set : ℕ) (t : Recorded) (x : ℕ) (m : Miss)
    → IsMiss set t m → m.sent ≡ x → IsMiss set t (record { sent = x; missed = m.missed })
same_sent set t x m i e = subst (λ (n : ℕ). IsMiss set t (record { sent = n; missed = m.missed })) e i

-- the last miss of message x is longer than all misses of later messages
misses_longer : (set : ℕ) (t : Recorded) (x d r : ℕ) (o : Option Miss) → 1 ≤ x → KnowsMissesAfter set t x d o → IsLastMissOf set t x r → d
    ≤ tick_of t r - tick_of t x → KnowsMissesAfter set t (x - 1) (tick_of t r - tick_of t x + 1) (Some (record { sent = x; missed = r }))
misses_longer set t x d r o low k l h =
    let positive = after_positive set t x d o k.named in
    let above : tick_of t x < tick_of t r = omega arith in
    record {
      shorter = λ m i f. elim (cases_eq m.sent x) [
        | inl e ↦ omega (arith, l.last m.missed (same_sent set t x m i e), ap (tick_of t) e, above)
        | inr n ↦ (let short = k.shorter m i (omega (arith, n, f)) in omega (arith, short, h))
      ];
      named = (
        omega arith,
        record {
          miss = l.found above;
          after = omega arith;
          long = omega arith;
          greatest = λ m i f e. elim (cases_lt x m.sent) [
            | inl later ↦ absurd (omega (arith, k.shorter m i later, h, e))
            | inr b ↦ b
          ];
        },
      );
    }

-- no miss of message x is as long as the named one
misses_kept : (set : ℕ) (t : Recorded) (x d r : ℕ) (o : Option Miss) → 1 ≤ x → KnowsMissesAfter set t x d o
    → IsLastMissOf set t x r → tick_of t r - tick_of t x < d → KnowsMissesAfter set t (x - 1) d o
misses_kept set t x d r o low k l h = record {
  shorter = λ m i f. elim (cases_eq m.sent x) [
    | inl e ↦ omega (arith, l.last m.missed (same_sent set t x m i e), ap (tick_of t) e, h)
    | inr n ↦ k.shorter m i (omega (arith, n, f))
  ];
  named = go o k.named;
} where
  go : (o : Option Miss) → NamesAfter set t x d o → NamesAfter set t (x - 1) d o
  go None h = h
  go (Some m) h = let named = h.1 in let after = named.after in (
    h.0,
    record {
      miss = named.miss;
      after = omega arith;
      long = named.long;
      greatest = λ n i f e. elim (cases_lt x n.sent)
          [ inl later ↦ named.greatest n i later e | inr b ↦ (let low : n.sent ≤ m.sent = omega (arith, b, after) in low) ];
    },
  )

-- the level, one step back
pub record MissesLowered (set : ℕ) (trace : Recorded) (done : ℕ) (old new : Level) : Type 0 where
  pub misses : KnowsMissesAfter set trace done new.delta new.miss
  pub falling : StandsBefore new old
  pub phi : new.phi ≡ old.phi
  pub gap : new.gap ≡ old.gap

-- one step back, the level takes the last miss of the message if its bound allows it no more
pub MissesLowered-with_miss : (set : ℕ) (t : Recorded) (x r : ℕ) (level : Level)
    → 1 ≤ x → KnowsMissesAfter set t x level.delta level.miss → IsLastMissOf set t x r
    → MissesLowered set t (x - 1) level (with_miss level (record { sent = x; missed = r }) (tick_of t r - tick_of t x))
MissesLowered-with_miss set t x r level low k l = go (nat_le level.delta (tick_of t r - tick_of t x)) refl where
  go : (b : Bool) → nat_le level.delta (tick_of t r - tick_of t x) ≡ b → MissesLowered set t (x - 1) level (cond b (record
      { delta = tick_of t r - tick_of t x + 1; miss = Some (record { sent = x; missed = r }); phi = level.phi; gap = level.gap }) level)
  go true e = let h = leb-true level.delta (tick_of t r - tick_of t x) e in record {
    misses = misses_longer set t x level.delta r level.miss low k l h;
    falling = record { delta = omega arith; phi = omega arith; miss = λ same. absurd (omega (arith, same, h)); gap = λ same. refl };
    phi = refl;
    gap = refl;
  }
  go false e = let h = leb-false level.delta (tick_of t r - tick_of t x) e in record {
    misses = misses_kept set t x level.delta r level.miss low k l h;
    falling = record { delta = omega arith; phi = omega arith; miss = λ same. refl; gap = λ same. refl };
    phi = refl;
    gap = refl;
  }

-- a step of a processor that is no member sends no message that counts
pub KnowsMissesAfter-other : (set : ℕ) (t : Recorded) (x d : ℕ) (y : Step) (o : Option Miss) → 1 ≤ x
    → step_at t.steps x ≡ Some y → ¬ IsTrue (has_proc set y.proc) → KnowsMissesAfter set t x d o
    → KnowsMissesAfter set t (x - 1) d o
KnowsMissesAfter-other set t x d y o low at other k = misses_kept set t x d 0 o low k
    (record { found = λ l. absurd (omega (arith, l)); last = λ missed i. absurd (unsent missed i) })
    (let positive = after_positive set t x d o k.named in omega (arith, positive))
  where
    unsent : (missed : ℕ) → ¬ IsMiss set t (record { sent = x; missed = missed })
    unsent missed i =
        let proc = ap (λ (z : Step). z.proc) (same_step t.steps x _ _ i.message.sent at) in
        other (subst (λ (p : ℕ). IsTrue (has_proc set p)) proc i.message.sender)
