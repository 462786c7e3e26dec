-- Evidence is found in lists of delays that are in order.
use Rattle.std.proofs.Common.{ℕ, ◌≡◌, ◌+◌, ◌-◌, ◌*◌, ◌<◌, ◌≤◌, ◌⊎◌, ◌==◌, ◌&&◌, ◌∙◌, inl, inr, not, Bool, true, false}
use Rattle.std.proofs.Common.{cond, List, [], ◌∷◌, ◌++◌, length, get_or, map, filter, find, take, None, Some, refl, sym}
use Rattle.std.proofs.Common.{subst, ap, suc, zero, arith}
use Rattle.std.specs.Prelude.{AllPairs, nat_le, nat_lt, slice_get}
use Rattle.std.specs.List.{list_any}
use Rattle.std.specs.List.Sorted.{IsSortedByKey}
use Rattle.std.specs.Ordering.{nat_cmp, is_lt, ordering_then}
use Rattle.std.specs.declared.cmp.Ordering.TheVariants.{Less, Equal, Greater}
use Rattle.std.proofs.lemmas.Bool.{cases_lt}
use Rattle.std.proofs.lemmas.Bool.Decides.{nat_tests}
use Rattle.std.proofs.lemmas.Cmp.{on_total, then_total, nat_cmp_total}
use Rattle.std.proofs.lemmas.List.{append_assoc, append-nil, map-append, take_more}
use Rattle.std.proofs.lemmas.List.Elements.{filter-append}
use Rattle.std.proofs.lemmas.List.Sorted.{ranks_by, sorted_far}
use Rattle.std.proofs.lemmas.Option.{same_Some, slice_get_read, slice_get_within, slice_get-get_or, get_or_from_slice_get}
use Rattle.step_trace.proofs.FittingSteps.{find-none}
use Rattle.step_trace.proofs.ListMembers.{Contains-slice_get}
use Rattle.step_trace.specs.declared.rows.Row.{Row}
use Rattle.step_trace.specs.declared.traces.TheConstants.{MAX_TICKS}
use Rattle.step_trace.specs.Traces.{Recorded}
use Rattle.run_story.specs.declared.delays.Delay.{Delay}
use Rattle.run_story.specs.declared.evidence.Evidence.{Evidence}
use Rattle.run_story.specs.declared.stalls.Stall.{Stall}
use Rattle.run_story.specs.Delays.{AreDelays, AreInOrder}
use Rattle.run_story.specs.Messages.{flag_at}
use Rattle.run_story.specs.Stalls.{AreStalls}
use Rattle.run_story.specs.Evidence.{IsBefore, all_evidence, alone, explained, explains, has_delay, other_evidence, shared_ticks, stall_evidence, ticks_of, with_delay}

-- nothing is found if no element passes
find_nothing : {X : Type 0} (p : X → Bool) (xs : List X) → ((k : ℕ) (x : X) → slice_get xs k ≡ Some x → p x ≡ false) → find p xs ≡ None
find_nothing p xs fails = find-none p xs (λ x c. fails c.0 x (slice_get_read xs (length xs) c.0 x refl c.1 (sym c.2)))

-- what passes is found if nothing before it does
find_first : {X : Type 0} (p : X → Bool) (xs : List X) (k : ℕ) (x : X) → ((j : ℕ) (o : X) → j < k → slice_get xs j ≡ Some o → p o ≡ false)
    → slice_get xs k ≡ Some x → p x ≡ true → find p xs ≡ Some x
find_first p [] k x before is passes = absurd (let inside : k < 0 = slice_get_within [] k x is in omega arith)
find_first p (y ∷ rest) zero x before is passes = rw (same_Some y x is, passes) refl
find_first p (y ∷ rest) (suc k) x before is passes =
    rw (before 0 y (omega arith) refl, find_first p rest k x (λ j o l at. before (suc j) o (omega arith) at) is passes) refl

-- a delay that begins after a stall ends shares no row with it
not_explained-after : (trace : Recorded) (s : Stall) (d : Delay) → s.last < d.first → explains trace s d ≡ false
not_explained-after trace s d after =
    let apart : nat_le d.first s.last ≡ false = grind (arith, nat_tests) in
    ap (λ b. (b && nat_le s.first d.last) && (s.gap.proc == d.to && nat_le d.ticks (2 * shared_ticks trace s d))) apart

-- after such a delay there is none that the stall explains
pub explained-none : (trace : Recorded) (delays : List Delay) (s : Stall) (k : ℕ) (d : Delay) → AreInOrder delays
    → ((j : ℕ) (o : Delay) → j < k → slice_get delays j ≡ Some o → explains trace s o ≡ false)
    → (k < length delays → s.last < (get_or delays k d).first) → None ≡ explained trace delays s
explained-none trace delays s k d order before after = sym (find_nothing (explains trace s) delays (λ j o at. elim (cases_lt j k) [
  | inl l ↦ before j o l at
  | inr m ↦ not_explained-after trace s o (later j o at m)
])) where
  later : (j : ℕ) (o : Delay) → slice_get delays j ≡ Some o → k ≤ j → s.last < o.first
  later j o at m =
      let within = slice_get_within delays j o at in
      let here : k < length delays = omega arith in
      let first = slice_get-get_or delays k d here in
      let begins = after here in
      elim (cases_lt k j) [
        | inl l ↦ (let both = order.each k (get_or delays k d) first in
            let next = order.ordered k j (get_or delays k d) o l first at in omega (arith, begins, both, next))
        | inr e ↦ (let same : k ≡ j = omega arith in
            let own : get_or delays k d ≡ o = same_Some
            (get_or delays k d) o (sym first ∙ subst (λ (i : ℕ). slice_get delays i ≡ Some o) (sym same) at) in
            subst (λ (x : Delay). s.last < x.first) own begins)
      ]

-- the first delay that it explains
pub explained-first : (trace : Recorded) (delays : List Delay) (s : Stall) (k : ℕ) (d : Delay) → k < length delays
    → ((j : ℕ) (o : Delay) → j < k → slice_get delays j ≡ Some o → explains trace s o ≡ false)
    → explains trace s (get_or delays k d) ≡ true → Some (get_or delays k d) ≡ explained trace delays s
explained-first trace delays s k d inside before passes =
    sym (find_first (explains trace s) delays k (get_or delays k d) before (slice_get-get_or delays k d inside) passes)

-- one more that it doesn't explain
pub unexplained-next : (trace : Recorded) (delays : List Delay) (s : Stall) (k : ℕ) (d : Delay)
    → ((j : ℕ) (o : Delay) → j < k → slice_get delays j ≡ Some o → explains trace s o ≡ false)
    → explains trace s (get_or delays k d) ≡ false
    → (j : ℕ) (o : Delay) → j < k + 1 → slice_get delays j ≡ Some o → explains trace s o ≡ false
unexplained-next trace delays s k d before fails j o l at = elim (cases_lt j k) [
  | inl m ↦ before j o m at
  | inr m ↦ (let same : j ≡ k = omega arith in
      subst (λ (x : Delay). explains trace s x ≡ false)
      (get_or_from_slice_get delays k o d (subst (λ (i : ℕ). slice_get delays i ≡ Some o) same at)) fails)
]

-- the evidence of one stall more
pub stall_evidence-next : (trace : Recorded) (stalls : List Stall) (delays : List Delay) (i : ℕ) (s : Stall) → i < length stalls
    → stall_evidence trace (take i stalls) delays ++ with_delay (get_or stalls i s) (explained trace delays (get_or stalls i s)) ∷ []
    ≡ stall_evidence trace (take (i + 1) stalls) delays
stall_evidence-next trace stalls delays i s inside =
    sym (ap (map (λ x. with_delay x (explained trace delays x))) (take_more stalls i s inside)
    ∙ map-append (λ x. with_delay x (explained trace delays x)) (take i stalls) (get_or stalls i s ∷ []))

-- delays that end before a stall end before each later one
pub passed-next : (stalls : List Stall) (delays : List Delay) (rows : List Row) (from next i : ℕ) (s : Stall)
    → AreStalls rows stalls → i < length stalls
    → ((k j : ℕ) (d : Delay) (o : Stall) → k < from → slice_get delays k ≡ Some d → i ≤ j → slice_get stalls j ≡ Some o → d.last < o.first)
    → ((k : ℕ) (d : Delay) → from ≤ k → k < next → slice_get delays k ≡ Some d → d.last < (get_or stalls i s).first) → (k j : ℕ)
    (d : Delay) (o : Stall) → k < next → slice_get delays k ≡ Some d → i + 1 ≤ j → slice_get stalls j ≡ Some o → d.last < o.first
passed-next stalls delays rows from next i s are inside old new k j d o below at later is = elim (cases_lt k from) [
  | inl l ↦ old k j d o l at (omega arith) is
  | inr m ↦ (
      let one = slice_get-get_or stalls i s inside in
      let both = (are.right (get_or stalls i s) (Contains-slice_get stalls i (get_or stalls i s) one)).named.order in
      let ends = new k d m below at in
      let order = are.ordered i j s (omega arith) (slice_get_within stalls j o is) in
      let own : get_or stalls j s ≡ o = get_or_from_slice_get stalls j o s is in
      let begins = subst (λ (x : Stall). (get_or stalls i s).last < x.first) own order in
      omega (arith, both, ends, begins))
]

-- the evidence of one delay more, or of none
pub other_evidence-next : (evidence : List Evidence) (delays : List Delay) (i : ℕ) (d : Delay) → i < length delays
    → other_evidence evidence (take (i + 1) delays) ≡ other_evidence evidence
    (take i delays) ++ map alone (filter (λ o. not (list_any (has_delay o.first) evidence)) (get_or delays i d ∷ []))
other_evidence-next evidence delays i d inside =
    let test = λ (o : Delay). not (list_any (has_delay o.first) evidence) in
    ap (λ ds. map alone (filter test ds)) (take_more delays i d inside)
    ∙ ap (map alone) (filter-append test (take i delays) (get_or delays i d ∷ []))
    ∙ map-append alone (filter test (take i delays)) (filter test (get_or delays i d ∷ []))

pub AreInOrder-delays : (trace : Recorded) (rows : List Row) (delays : List Delay) → AreDelays trace rows delays → AreInOrder delays
AreInOrder-delays trace rows delays are = record {
  each = λ k d at. (are.right d (Contains-slice_get delays k d at)).run.order;
  ordered = λ j k c d l a b.
      let order = are.ordered j k d l (slice_get_within delays k d b) in
      let own = get_or_from_slice_get delays j c d a in
      let next = get_or_from_slice_get delays k d d b in
      subst (λ (x : Delay). c.last < x.first) next (subst (λ (x : Delay). x.last < (get_or delays k d).first) own order);
}

pub begin_within : (trace : Recorded) (rows : List Row) (delays : List Delay)
    → AreDelays trace rows delays → (k : ℕ) (d : Delay) → slice_get delays k ≡ Some d → d.first < length rows
begin_within trace rows delays are k d at =
    let run = (are.right d (Contains-slice_get delays k d at)).run in
    let order = run.order in
    let inside = run.inside in
    omega (arith, order, inside)

-- the first row first, and then the longer
by_two : (a b x y : ℕ) → is_lt (ordering_then (nat_cmp b a) (nat_cmp y x)) ≡ false → (a < b) ⊎ ((a ≡ b) × (x ≤ y))
by_two a b x y h = go (nat_lt b a) refl (b == a) refl (nat_lt y x) refl h where
  go : (c : Bool) → nat_lt b a ≡ c → (e : Bool) → (b == a) ≡ e → (d : Bool) → nat_lt y x ≡ d → is_lt (ordering_then
      (cond c Less (cond e Equal Greater)) (cond d Less (cond (y == x) Equal Greater))) ≡ false → (a < b) ⊎ ((a ≡ b) × (x ≤ y))
  go true u e v d w f = absurd (cc)
  go false u true v true w f = absurd (cc)
  go false u true v false w f = inr (grind (arith, nat_tests), grind (arith, nat_tests))
  go false u false v d w f = inl (grind (arith, nat_tests))

pub ordered-by_keys : (list : List Evidence) → IsSortedByKey {K = ℕ × ℕ}
    (λ e. (e.first, MAX_TICKS - ticks_of e)) (λ x y. ordering_then (nat_cmp x.0 y.0) (nat_cmp x.1 y.1)) list → AllPairs IsBefore list
ordered-by_keys list up = λ i j d l inside.
    let far =
    sorted_far (λ s t. is_lt (ordering_then (nat_cmp s.first t.first) (nat_cmp (MAX_TICKS - ticks_of s) (MAX_TICKS - ticks_of t))))
    (ranks_by (then_total (on_total (λ (e : Evidence). e.first) nat_cmp_total)
    (on_total (λ (e : Evidence). MAX_TICKS - ticks_of e) nat_cmp_total)) (λ e. e)) list up i j d (omega arith) inside in
    elim (by_two (get_or list i d).first (get_or list j d).first
    (MAX_TICKS - ticks_of (get_or list i d)) (MAX_TICKS - ticks_of (get_or list j d)) far) [
      | inl first ↦ inl first
      | inr same ↦ inr (same.0, (let second = same.1 in omega arith))
    ]

-- past the last delay there is none
pub explained-nowhere : (trace : Recorded) (delays : List Delay) (s : Stall) (k : ℕ) → length delays ≤ k
    → ((j : ℕ) (o : Delay) → j < k → slice_get delays j ≡ Some o → explains trace s o ≡ false) → None ≡ explained trace delays s
explained-nowhere trace delays s k all before = sym (find_nothing (explains trace s) delays
    (λ j o at. let within = slice_get_within delays j o at in before j o (omega (arith, within, all)) at))

filter_one : {X : Type 0} (p : X → Bool) (x : X) (b : Bool) → p x ≡ b → filter p (x ∷ []) ≡ cond b (x ∷ []) []
filter_one p x true e = rw e refl
filter_one p x false e = rw e refl

-- a delay that the list hasn't is pushed
pub others-pushed : (evidence : List Evidence) (delays : List Delay) (i : ℕ) (d : Delay) (list next : List Evidence) → i < length delays
    → list ≡ evidence ++ other_evidence evidence (take i delays) → list_any (has_delay (get_or delays i d).first) evidence ≡ false
    → next ≡ list ++ alone (get_or delays i d) ∷ [] → next ≡ evidence ++ other_evidence evidence (take (i + 1) delays)
others-pushed evidence delays i d list next inside known none pushed =
    let x = get_or delays i d in
    let test = λ (o : Delay). not (list_any (has_delay o.first) evidence) in
    let kept : filter test (x ∷ []) ≡ x ∷ [] = filter_one test x true (ap not none) in
    let more = other_evidence-next evidence delays i d inside ∙ ap (λ ds. other_evidence evidence (take i delays) ++ map alone ds) kept in
    pushed ∙ ap (λ l. l ++ alone x ∷ []) known ∙ append_assoc evidence (other_evidence evidence (take i delays)) (alone x ∷ [])
    ∙ ap (λ l. evidence ++ l) (sym more)

-- one that it has isn't
pub others-kept : (evidence : List Evidence) (delays : List Delay) (i : ℕ) (d : Delay) (list : List Evidence) → i < length delays
    → list ≡ evidence ++ other_evidence evidence (take i delays) → list_any (has_delay (get_or delays i d).first) evidence ≡ true
    → list ≡ evidence ++ other_evidence evidence (take (i + 1) delays)
others-kept evidence delays i d list inside known some =
    let x = get_or delays i d in
    let test = λ (o : Delay). not (list_any (has_delay o.first) evidence) in
    let left : filter test (x ∷ []) ≡ [] = filter_one test x false (ap not some) in
    let same = other_evidence-next evidence delays i d inside ∙ ap (λ ds. other_evidence evidence (take i delays) ++ map alone ds) left
    ∙ append-nil (other_evidence evidence (take i delays)) in
    known ∙ ap (λ l. evidence ++ l) (sym same)

-- the flag of a delay's first row
pub flag_of_delay : (rows : List Row) (delays : List Delay) (evidence kept : List Evidence)
    (flags read : List Bool) (i : ℕ) (d : Delay) (b : Bool) → ((k : ℕ) (x : Delay) → slice_get delays k ≡ Some x → x.first < length rows)
    → ((k : ℕ) → k < length rows → flag_at flags k ≡ list_any (has_delay k) kept) → kept ≡ evidence → read ≡ flags
    → i < length delays → b ≡ flag_at read (get_or delays i d).first → list_any (has_delay (get_or delays i d).first) evidence ≡ b
flag_of_delay rows delays evidence kept flags read i d b within known same own inside is =
    let k = (get_or delays i d).first in
    let low = within i (get_or delays i d) (slice_get-get_or delays i d inside) in
    ap (list_any (has_delay k)) (sym same) ∙ sym (known k low) ∙ ap (λ f. flag_at f k) (sym own) ∙ sym is

-- both lists make all evidence
pub all_evidence-from : (trace : Recorded) (stalls s : List Stall) (delays d e : List Delay) (list all : List Evidence) → s ≡ stalls → d
    ≡ delays → e ≡ delays → list ≡ stall_evidence trace s d → all ≡ list ++ other_evidence list e → all ≡ all_evidence trace stalls delays
all_evidence-from trace stalls s delays d e list all same_stalls same_delays same_others begun whole =
    let one = ap (λ x. stall_evidence trace x d) same_stalls ∙ ap (λ x. stall_evidence trace stalls x) same_delays in
    whole ∙ ap (λ x. list ++ other_evidence list x) same_others ∙ ap (λ l. l ++ other_evidence l delays) (begun ∙ one)
