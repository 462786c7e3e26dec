-- The lengths of a tick one after another, and the events that are far from the ticks of their times.
use Rattle.std.proofs.Common.{lit≤, ℕ, ◌≡◌, ◌∙◌, ◌+◌, ◌*◌, ◌/◌, ◌%◌, ◌^◌, ◌<◌, ◌≤◌, ◌≢◌, ◌==◌, if◌then◌else◌, ◌++◌, ◌∷◌, [], Bool, true, false, cond, List, length, map, refl, sym, ap, arith}
use Rattle.std.specs.List.{filter, range_with_len}
use Rattle.std.proofs.Math.Nat.{pow-le-pow_right}
use Rattle.std.proofs.lemmas.Bool.Decides.{nat_tests}
use Rattle.std.proofs.lemmas.List.{length-append, map-append}
use Rattle.std.proofs.lemmas.List.Elements.{filter-append}
use Rattle.timed_events.proofs.CausalWalks.{range-more}
use Rattle.event_log.specs.declared.times.TimeKind.{TimeKind}
use Rattle.event_log.specs.declared.times.TimeKind.TheVariants as kind
use Rattle.event_log.specs.declared.times.TimeUnit.{TimeUnit}
use Rattle.event_log.specs.declared.times.TimeUnit.TheVariants as unit
use Rattle.event_log.specs.TickClocks.{units_in}
use Rattle.event_log.specs.Times.{nanoseconds_in}
use Rattle.event_log.specs.TickRows.{far_before, is_far, is_told, told_before, tick_width}

-- those of one place more
filter-next : (p : ℕ → Bool) (k : ℕ) → filter p (range_with_len 0 (k + 1)) ≡ filter p (range_with_len 0 k) ++ cond (p k) (k ∷ []) []
filter-next p k = ap (filter p) (range-more 0 k k (omega arith)) ∙ filter-append p (range_with_len 0 k) (k ∷ [])

filter-with : (p : ℕ → Bool) (k : ℕ) → p k ≡ true → filter p (range_with_len 0 (k + 1)) ≡ filter p (range_with_len 0 k) ++ k ∷ []
filter-with p k e = filter-next p k ∙ ap (λ (b : Bool). filter p (range_with_len 0 k) ++ cond b (k ∷ []) []) e

same-nil : (xs : List ℕ) → xs ++ [] ≡ xs
same-nil [] = refl
same-nil (x ∷ xs) = ap (λ (ys : List ℕ). x ∷ ys) (same-nil xs)

filter-without : (p : ℕ → Bool) (k : ℕ) → p k ≡ false → filter p (range_with_len 0 (k + 1)) ≡ filter p (range_with_len 0 k)
filter-without p k e = filter-next p k ∙ ap (λ (b : Bool). filter p (range_with_len 0 k) ++ cond b (k ∷ []) []) e
    ∙ same-nil (filter p (range_with_len 0 k))

-- one length more
pub told-none : (kind : TimeKind) (log : ℕ) → told_before kind log 0 ≡ []
unfolding told_before
told-none kind log = refl

pub told-with : (kind : TimeKind) (log k : ℕ) → is_told kind log k ≡ true
    → told_before kind log (k + 1) ≡ told_before kind log k ++ tick_width k ∷ []
unfolding told_before
told-with kind log k e = ap (map tick_width) (filter-with (is_told kind log) k e)
    ∙ map-append tick_width (filter (is_told kind log) (range_with_len 0 k)) (k ∷ [])

pub told-without : (kind : TimeKind) (log k : ℕ) → is_told kind log k ≡ false → told_before kind log (k + 1) ≡ told_before kind log k
unfolding told_before
told-without kind log k e = ap (map tick_width) (filter-without (is_told kind log) k e)

-- one step more
pub far-with : (own ticks places : List ℕ) (k : ℕ)
    → is_far own ticks places k ≡ true → far_before own ticks places (k + 1) ≡ far_before own ticks places k + 1
far-with own ticks places k e = ap (λ (xs : List ℕ). length xs) (filter-with (is_far own ticks places) k e)
    ∙ length-append (filter (is_far own ticks places) (range_with_len 0 k)) (k ∷ [])

pub far-without : (own ticks places : List ℕ) (k : ℕ)
    → is_far own ticks places k ≡ false → far_before own ticks places (k + 1) ≡ far_before own ticks places k
far-without own ticks places k e = ap (λ (xs : List ℕ). length xs) (filter-without (is_far own ticks places) k e)

-- powers of ten that are looked at fit
pub tens-few : (k : ℕ) → k < 57 → 10 ^ (k / 3) ≤ 1000000000000000000
tens-few k h = pow-le-pow_right {n = 10} (lit≤ tt) (go (omega (arith, h))) where
  go : k / 3 ≤ 18 → k / 3 ≤ 18
  go l = l

pub tens-some : (k : ℕ) → 1 ≤ 10 ^ k
tens-some k = go (pow-le-pow_right {n = 10} (lit≤ tt) (zero-first k)) where
  zero-first : (k : ℕ) → 0 ≤ k
  zero-first k = omega arith

  go : 10 ^ 0 ≤ 10 ^ k → 1 ≤ 10 ^ k
  go l = l

-- the lengths by their leading digits
abbrev digit : ℕ → ℕ
digit r = if r == 0 then 1 else if r == 1 then 2 else 5

one-digit : (r : ℕ) → r ≡ 0 → digit r ≡ 1
one-digit r e = ap (λ (x : ℕ). digit x) e

two-digit : (r : ℕ) → r ≡ 1 → digit r ≡ 2
two-digit r e = ap (λ (x : ℕ). digit x) e

five-digit : (r : ℕ) → r ≢ 0 → r ≢ 1 → digit r ≡ 5
five-digit r n m =
    let a : (r == 0) ≡ false = grind (arith, nat_tests) in
    let b : (r == 1) ≡ false = grind (arith, nat_tests) in
    rw (a, b) refl

pub width-one : (k power : ℕ) → k % 3 ≡ 0 → power ≡ 10 ^ (k / 3) → power ≡ tick_width k
unfolding tick_width
width-one k power e p = p ∙ sym (ap (λ (x : ℕ). x * 10 ^ (k / 3)) (one-digit (k % 3) e) ∙ once (10 ^ (k / 3))) where
  once : (x : ℕ) → 1 * x ≡ x
  once x = omega arith

pub width-two : (k power : ℕ) → k % 3 ≡ 1 → power ≡ 10 ^ (k / 3) → 2 * power ≡ tick_width k
unfolding tick_width
width-two k power e p = ap (λ (x : ℕ). 2 * x) p ∙ sym (ap (λ (x : ℕ). x * 10 ^ (k / 3)) (two-digit (k % 3) e))

pub width-five : (k power : ℕ) → k % 3 ≢ 0 → k % 3 ≢ 1 → power ≡ 10 ^ (k / 3) → 5 * power ≡ tick_width k
unfolding tick_width
width-five k power n m p = ap (λ (x : ℕ). 5 * x) p ∙ sym (ap (λ (x : ℕ). x * 10 ^ (k / 3)) (five-digit (k % 3) n m))

-- a length above 0 is above 0 as times are counted
nanoseconds-some : (u : TimeUnit) (width : ℕ) → 0 < width → 0 < width * nanoseconds_in u
nanoseconds-some unit.Second width h = omega (arith, h)
nanoseconds-some unit.Millisecond width h = omega (arith, h)
nanoseconds-some unit.Microsecond width h = omega (arith, h)
nanoseconds-some unit.Nanosecond width h = omega (arith, h)

pub units-some : (k : TimeKind) (width : ℕ) → 0 < width → 0 < units_in k width
units-some kind.Number width h = h
units-some (kind.Whole u) width h = nanoseconds-some u width h
units-some kind.Decimal width h = h
units-some kind.Stamp width h = h
units-some kind.Local width h = h
