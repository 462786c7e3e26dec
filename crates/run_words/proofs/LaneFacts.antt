-- Which processors the parts of a list denote.
use Rattle.std.proofs.Common.{ℕ, ◌≡◌, ◌≢◌, ◌∙◌, ◌+◌, ◌-◌, ◌<◌, ◌≤◌, ◌^◌, ◌⊎◌, inl, inr, IsTrue, List, length, decimal, refl, sym, subst, zero, suc, arith}
use Rattle.std.proofs.lemmas.Bool.{cases_eq}
use Rattle.std.proofs.lemmas.Fmt.{decimal_injective}
use Rattle.step_trace.specs.declared.processors.TheConstants.{MAX_MEMBER}
use Rattle.step_trace.specs.Processors.{has_proc}
use Rattle.run_words.specs.declared.lane_lists.LanesError.{LanesError}
use Rattle.run_words.specs.declared.lane_lists.LanesError.TheVariants.{NoLane, Above, Memory}
use Rattle.run_words.specs.Names.{name_at}
use Rattle.run_words.specs.LaneLists.{AreLanesTo, IsFirstRefusal, IsLane, IsLaneRefusal, IsLanesRefusal, IsNamed}
use Rattle.run_words.proofs.NameLists.{below_more}

-- a member stays one, with one processor more
pub stays : (set more p q : ℕ) → IsTrue (has_proc more p)
    → (q ≢ p → has_proc more q ≡ has_proc set q) → IsTrue (has_proc set q) → IsTrue (has_proc more q)
stays set more p q added others h = elim (cases_eq q p) [
  | inl same ↦ subst (λ m. IsTrue (has_proc more m)) (sym same) added
  | inr other ↦ others other ∙ h
]

-- one more part is read, and its processor put into the set
pub one_lane_more : (names parts : List (List ℕ)) (part : List ℕ) (count i set more p : ℕ)
    → AreLanesTo names parts count i set → name_at parts i ≡ part → IsLane names part p → p ≤ count
    → IsTrue (has_proc more p) → ((q : ℕ) → q ≢ p → has_proc more q ≡ has_proc set q) → AreLanesTo names parts count (i + 1) more
one_lane_more names parts part count i set more p so_far at lane high added others =
    let here : IsLane names (name_at parts i) p = subst (λ t. IsLane names t p) (sym at) lane in
    record {
      each = below_more (λ k. (q : ℕ) × IsLane names (name_at parts k) q × (q ≤ count) × IsTrue (has_proc more q)) i
          (λ k l. let y = so_far.each k l in (y.0, y.1, y.2, stays set more p y.0 added (others y.0) y.3))
          (p, here, high, added);
      listed = λ q h. elim (cases_eq q p) [
        | inl same ↦ (i, omega arith, subst (λ m. IsLane names (name_at parts i) m) (sym same) here)
        | inr other ↦ let y = so_far.listed q (sym (others q other) ∙ h) in let l : y.0 < i = y.1 in (y.0, omega arith, y.2)
      ];
    }

-- the processor of the name at this place
pub named_at : (names : List (List ℕ)) (part : List ℕ) (i : ℕ)
    → i < length names → name_at names i ≡ part → 1 ≤ length part → IsNamed names part (i + 1)
named_at names part i inside same some =
    let place : i + 1 - 1 ≡ i = omega arith in
    record { low = omega arith; high = omega arith; same = rw place same; some = some }

-- what isn't 0 is some
pub some_left : (n : ℕ) → (n ≡ 0 → ⊥) → 1 ≤ n
some_left zero h = absurd (h refl)
some_left (suc n) h = omega arith

-- if no name is the part, it is that of no processor
pub unnamed : (names : List (List ℕ)) (part : List ℕ)
    → ((k : ℕ) → k < length names → name_at names k ≢ part) → (p : ℕ) → IsNamed names part p → ⊥
unnamed names part none p is =
    let low : 1 ≤ p = is.low in
    let high : p ≤ length names = is.high in
    none (p - 1) (omega arith) is.same

-- a part that is no name and writes a number outside the limits denotes no processor
pub outside : (names : List (List ℕ)) (part : List ℕ) (n : ℕ) → ((p : ℕ) → IsNamed names part p → ⊥)
    → n < 2 ^ 64 → part ≡ decimal n → (n < 1) ⊎ ((1 ≤ n) × (64 < n)) → (p : ℕ) → IsLane names part p → ⊥
outside names part n no_name fits written out p lane = elim lane [
  | inl named ↦ no_name p named
  | inr numbered ↦
      let high : p ≤ MAX_MEMBER = numbered.high in
      let low : 1 ≤ p = numbered.low in
      let same : n ≡ p = decimal_injective n p fits (omega arith) (sym written ∙ numbered.written) in
      elim out [ inl little ↦ omega arith | inr much ↦ omega arith ]
]

-- the part at a place is refused, and it is the first
first_refusal : (names parts : List (List ℕ)) (part : List ℕ) (count i set : ℕ) (why : LanesError) → AreLanesTo names parts count i set
    → i < length parts → name_at parts i ≡ part → IsLaneRefusal names part count (i + 1) why → IsFirstRefusal names parts count why
first_refusal names parts part count i set why so_far inside at refused =
    let place : i + 1 - 1 ≡ i = omega arith in
    record {
      place = i + 1;
      before = record {
        first = omega arith;
        within = omega arith;
        each = λ k (l : k + 1 < i + 1). let y = so_far.each k (omega arith) in (y.0, y.1, y.2);
      };
      refused = rw (place, at) refused;
    }

pub refused_here : (names parts : List (List ℕ)) (part : List ℕ) (count i set : ℕ) (why : LanesError) → AreLanesTo names parts count i set
    → i < length parts → name_at parts i ≡ part → IsLaneRefusal names part count (i + 1) why → IsLanesRefusal names parts count why
refused_here names parts part count i set (NoLane place) so_far inside at refused =
    first_refusal names parts part count i set (NoLane place) so_far inside at refused
refused_here names parts part count i set (Above p) so_far inside at refused =
    first_refusal names parts part count i set (Above p) so_far inside at refused
refused_here names parts part count i set Memory so_far inside at refused = absurd refused
