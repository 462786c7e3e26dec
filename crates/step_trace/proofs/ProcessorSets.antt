-- A set with the bit of one processor more, and the set of all processors up to one.
use Rattle.std.proofs.Common.{ℕ, ◌≡◌, ◌≢◌, ◌-◌, ◌*◌, ◌/◌, ◌%◌, ◌^◌, ◌<◌, ◌≤◌, ◌==◌, ◌&&◌, ◌↔◌, ◌∙◌, inl, inr, Bool, IsTrue, true, false, w64, arith, ap, refl}
use Rattle.std.specs.Prelude.{nat_lt, nat_le, bit_or}
use Rattle.std.specs.Int.{bit_at}
use Rattle.std.proofs.lemmas.Bool.{and_parts, cases_lt, leb-true}
use Rattle.std.proofs.lemmas.Bool.Decides.{nat_tests}
use Rattle.std.proofs.lemmas.Nat.Bits.{bit_at_set_same, bit_at_set_other, bit_at_ones, bit_at_ones_above, ones_shr}
use Rattle.step_trace.specs.declared.processors.TheConstants.{MAX_MEMBER}
use Rattle.step_trace.specs.Members.{all_to}
use Rattle.step_trace.specs.Processors.{has_proc}

-- a set with the bit of p has p
pub has_proc_set_same : (n p : ℕ) → 1 ≤ p → p ≤ MAX_MEMBER → has_proc (bit_or n (1 * 2 ^ (p - 1) % 2 ^ 64)) p ≡ true
has_proc_set_same n p l h =
    let a : nat_lt 0 p ≡ true = grind (arith, nat_tests) in
    let b : nat_le p MAX_MEMBER ≡ true = grind (arith, nat_tests) in
    rw (a, b, bit_at_set_same w64 n (p - 1) (omega arith)) refl

-- the third test counts only if the first two pass
and_third : (b c d e : Bool) → (b ≡ true → c ≡ true → d ≡ e) → (b && c && d) ≡ (b && c && e)
and_third true true d e h = h refl refl
and_third true false d e h = refl
and_third false c d e h = refl

-- the bit of p changes no other processor
pub has_proc_set_other : (n p q : ℕ) → 1 ≤ p → p ≤ MAX_MEMBER → q ≢ p → has_proc (bit_or n (1 * 2 ^ (p - 1) % 2 ^ 64)) q ≡ has_proc n q
has_proc_set_other n p q l h ne = and_third (nat_lt 0 q) (nat_le q MAX_MEMBER) _ _ (λ a b.
    let c : 1 ≤ q = grind (arith, nat_tests) in
    ap (λ (v : ℕ). v == 1) (bit_at_set_other w64 n (p - 1) (omega arith) (q - 1) (omega arith)))

-- the lowest n bits of a full mask
pub all_shifted : (n : ℕ) → n ≤ MAX_MEMBER → (2 ^ 64 - 1) / 2 ^ (MAX_MEMBER - n) ≡ all_to n
all_shifted n h = let same : 64 - (MAX_MEMBER - n) ≡ n = omega arith in
    ones_shr 64 (MAX_MEMBER - n) (omega arith) ∙ ap (λ (k : ℕ). 2 ^ k - 1) same

-- a set with a processor has its bit
has_bit : (mask p : ℕ) → IsTrue (has_proc mask p) → (1 ≤ p) × (p ≤ MAX_MEMBER) × (bit_at mask (p - 1) ≡ 1)
has_bit mask p h = grind (arith, nat_tests)

-- a mask of n ones has no other
below_ones : (n i : ℕ) → bit_at (2 ^ n - 1) i ≡ 1 → i < n
below_ones n i one = elim (cases_lt i n) [ inl low ↦ low | inr high ↦ absurd (let none = bit_at_ones_above n i high in cc) ]

-- the members of the set of the processors 1 to n are these
pub has_all_to : (n p : ℕ) → n ≤ MAX_MEMBER → IsTrue (has_proc (all_to n) p) ↔ ((1 ≤ p) × (p ≤ n))
has_all_to n p few = (inside, below) where
  inside : IsTrue (has_proc (all_to n) p) → (1 ≤ p) × (p ≤ n)
  inside h = let bit = has_bit (all_to n) p h in let low : p - 1 < n = below_ones n (p - 1) bit.2 in (bit.0, omega arith)

  below : (1 ≤ p) × (p ≤ n) → IsTrue (has_proc (all_to n) p)
  below h =
      let a : nat_lt 0 p ≡ true = grind (arith, nat_tests) in
      let b : nat_le p MAX_MEMBER ≡ true = grind (arith, nat_tests) in
      rw (a, b, bit_at_ones n (p - 1) (omega arith)) refl

-- members are numbered up to MAX_MEMBER
pub member_within : (set p : ℕ) → IsTrue (has_proc set p) → p ≤ MAX_MEMBER
member_within set p m =
    leb-true p MAX_MEMBER (and_parts (nat_lt 0 p) (nat_le p MAX_MEMBER) (and_parts (nat_lt 0 p && nat_le p MAX_MEMBER) _ m).0).1
