-- The events of each processor, from the last in the order of their times to the first.
use Rattle.std.proofs.Common.{ℕ, ◌≡◌, ◌+◌, ◌-◌, ◌<◌, ◌≤◌, ◌⊎◌, inl, inr, List, length, set, replicate, zero, suc, refl, sym, ap, ◌∙◌, subst, arith}
use Rattle.std.specs.Prelude.{slice_index}
use Rattle.std.proofs.lemmas.Bool.{cases_lt, cases_eq}
use Rattle.std.proofs.lemmas.List.{get_or-set_same, get_or-set_other, length-set, length-replicate}
use Rattle.step_trace.specs.declared.configurations.TheConstants.{MAX_PROCESSORS}
use Rattle.timed_events.specs.declared.events.Event.{Event}
use Rattle.timed_events.specs.Checks.{AreOfProcessors}
use Rattle.timed_events.specs.Causes.{IsOwnBefore, IsFrom, IsTimeOrder}
use Rattle.timed_events.specs.CausalWalks.{index_at, AreNexts, AreFirsts}
use Rattle.timed_events.proofs.SortedEvents.{place-found}
use Rattle.timed_events.proofs.TimeOrders.{before-in_order, differ-in_order, inside-order}

-- it is an event of the processor, and is at k in the order or later
pub record IsFoundFrom (events : List Event) (order : List ℕ) (k p i : ℕ) : Type 0 where
  pub m : ℕ
  pub from : k ≤ m
  pub within : m < length order
  pub at : slice_index order m ≡ i
  pub own : index_at events i ≡ p

-- the sequences of the events that are at k in the order or later
pub record AreChained (events : List Event) (order : List ℕ) (k : ℕ) (firsts nexts : List ℕ) : Type 0 where
  pub wide : length firsts ≡ MAX_PROCESSORS
  pub long : length nexts ≡ length events
  pub first_own : (p : ℕ) → p < MAX_PROCESSORS → slice_index firsts p < length events → IsFoundFrom events order k p (slice_index firsts p)
  pub first : (m : ℕ) → k ≤ m → m < length order
      → (slice_index firsts (index_at events (slice_index order m)) < length events)
      × IsFrom events (slice_index firsts (index_at events (slice_index order m))) (slice_index order m)
  pub next_own : (m : ℕ) → k ≤ m → m < length order → slice_index nexts (slice_index order m) < length events
      → IsOwnBefore events (slice_index nexts (slice_index order m)) (slice_index order m)
  pub next : (m j : ℕ) → k ≤ m → m < length order → j < length events → IsOwnBefore events j (slice_index order m)
      → (slice_index nexts (slice_index order m) < length events)
      × IsFrom events (slice_index nexts (slice_index order m)) j

pub same-each : (n x i : ℕ) → i < n → slice_index (replicate n x) i ≡ x
same-each zero x i l = absurd (omega arith)
same-each (suc n) x zero l = refl
same-each (suc n) x (suc i) l = same-each n x i (omega arith)

pub chained-start : (events : List Event) (order firsts nexts : List ℕ) (k none : ℕ) → length order ≤ k
    → none ≡ length events → firsts ≡ replicate MAX_PROCESSORS none → nexts ≡ replicate (length events) none
    → AreChained events order k firsts nexts
chained-start events order firsts nexts k none l n e f = record {
  wide = ap length e ∙ length-replicate {A = ℕ} MAX_PROCESSORS none;
  long = ap length f ∙ length-replicate {A = ℕ} (length events) none;
  first_own = λ p lp b. absurd (let s = ap (λ xs. slice_index xs p) e ∙ same-each MAX_PROCESSORS none p lp in omega arith);
  first = λ m a b. absurd (omega arith);
  next_own = λ m a b. absurd (omega arith);
  next = λ m j a b. absurd (omega arith);
}

module _ (events : List Event) (order firsts nexts : List ℕ) (k p : ℕ) (o : IsTimeOrder events order)
    (r : AreOfProcessors events) (l : k < length order) (at : p ≡ index_at events (slice_index order k))
    (h : AreChained events order (k + 1) firsts nexts) where
  abbrev place : ℕ
  place = slice_index order k

  here : place < length events
  here = inside-order events order k o l

  index-inside : p < MAX_PROCESSORS
  index-inside = let a = (r place here).0 in let b = (r place here).1 in let e = at in omega arith

  -- a later event of the processor comes after it
  later-own : (m : ℕ) → k < m → m < length order → index_at events (slice_index order m) ≡ p
      → IsOwnBefore events (slice_index order m) place
  later-own m b lm e =
      let i = inside-order events order m o lm in
      let x = r place here in
      let y = r (slice_index order m) i in
      let x0 = x.0 in
      let y0 = y.0 in
      let a = at in
      record { inside = here; own = omega arith; earlier = o.rising k m b lm }

  new-first : slice_index (set firsts p place) p ≡ place
  new-first = get_or-set_same firsts p place 0 (let w = h.wide in let i = index-inside in omega arith)

  same-first : (q : ℕ) → ¬ (q ≡ p) → slice_index (set firsts p place) q ≡ slice_index firsts q
  same-first q n = get_or-set_other firsts p q place 0 n

  new-next : slice_index (set nexts place (slice_index firsts p)) place ≡ slice_index firsts p
  new-next = get_or-set_same nexts place (slice_index firsts p) 0 (let w = h.long in let i = here in omega arith)

  same-next : (m : ℕ) → k < m → m < length order → slice_index (set nexts place (slice_index firsts p)) (slice_index order m)
      ≡ slice_index nexts (slice_index order m)
  same-next m b lm = get_or-set_other nexts place (slice_index order m)
      (slice_index firsts p) 0 (λ e. differ-in_order events order k m o b lm (sym e))

  first_own : (q : ℕ) → q < MAX_PROCESSORS → (q ≡ p) ⊎ ¬ (q ≡ p)
      → slice_index (set firsts p place) q < length events → IsFoundFrom events order k q (slice_index (set firsts p place) q)
  first_own q lq (inl e) b =
      let s = ap (slice_index (set firsts p place)) e ∙ new-first in
      subst (λ i. IsFoundFrom events order k q i) (sym s)
      (record { m = k; from = omega arith; within = l; at = refl; own = sym at ∙ sym e })
  first_own q lq (inr n) b =
      let s = same-first q n in
      let f = h.first_own q lq (omega arith) in
      subst (λ i. IsFoundFrom events order k q i) (sym s)
      (record { m = f.m; from = (let a = f.from in omega arith); within = f.within; at = f.at; own = f.own })

  first-later : (m : ℕ) → k < m → m < length order → (index_at events (slice_index order m) ≡ p)
      ⊎ ¬ (index_at events (slice_index order m) ≡ p)
      → (slice_index (set firsts p place) (index_at events (slice_index order m)) < length events)
      × IsFrom events (slice_index (set firsts p place) (index_at events (slice_index order m))) (slice_index order m)
  first-later m b lm (inl e) =
      let s : slice_index (set firsts p place) (index_at events (slice_index order m)) ≡ place = ap (slice_index (set firsts p place)) e
      ∙ new-first in
      subst (λ i. (i < length events) × IsFrom events i (slice_index order m)) (sym s) (here, inr (later-own m b lm e))
  first-later m b lm (inr n) = subst (λ i. (i < length events) × IsFrom events i (slice_index order m))
      (sym (same-first (index_at events (slice_index order m)) n)) (h.first m (omega arith) lm)

  first : (m : ℕ) → (k < m) ⊎ (m ≤ k) → k ≤ m → m < length order
      → (slice_index (set firsts p place) (index_at events (slice_index order m)) < length events)
      × IsFrom events (slice_index (set firsts p place) (index_at events (slice_index order m))) (slice_index order m)
  first m (inl b) a lm = first-later m b lm (cases_eq (index_at events (slice_index order m)) p)
  first m (inr b) a lm =
      let e : k ≡ m = omega arith in
      let s : slice_index (set firsts p place) (index_at events place) ≡ place = ap (slice_index (set firsts p place)) (sym at)
      ∙ new-first in
      subst (λ n. (slice_index (set firsts p place) (index_at events (slice_index order n)) < length events)
      × IsFrom events (slice_index (set firsts p place) (index_at events (slice_index order n)))
      (slice_index order n)) e (subst (λ i. (i < length events) × IsFrom events i place) (sym s) (here, inl refl))

  next_own-here : slice_index firsts p < length events → IsOwnBefore events (slice_index firsts p) place
  next_own-here b =
      let f = h.first_own p index-inside b in
      subst (λ i. IsOwnBefore events i place) f.at
      (later-own f.m (let a = f.from in omega arith) f.within (ap (index_at events) f.at ∙ f.own))

  next_own : (m : ℕ) → (k < m) ⊎ (m ≤ k) → k ≤ m → m < length order
      → slice_index (set nexts place (slice_index firsts p)) (slice_index order m) < length events
      → IsOwnBefore events (slice_index (set nexts place (slice_index firsts p)) (slice_index order m))
      (slice_index order m)
  next_own m (inl b) a lm c = let s = same-next m b lm in
      subst (λ i. IsOwnBefore events i (slice_index order m)) (sym s) (h.next_own m (omega arith) lm (omega arith))
  next_own m (inr b) a lm c =
      let e : k ≡ m = omega arith in
      let f = ap (λ n. slice_index (set nexts place (slice_index firsts p)) (slice_index order n)) (sym e) ∙ new-next in
      subst (λ n. IsOwnBefore events (slice_index (set nexts place (slice_index firsts p)) (slice_index order n))
      (slice_index order n)) e (subst (λ i. IsOwnBefore events i place) (sym new-next)
      (next_own-here (omega arith)))

  next-here : (j : ℕ) → j < length events → IsOwnBefore events j place
      → (slice_index firsts p < length events) × IsFrom events (slice_index firsts p) j
  next-here j lj b =
      let f = place-found (length events) order j o.places lj in
      let m = before-in_order events order k f.0 o l (subst (λ i. IsOwnBefore events i place) (sym f.2) b).earlier in
      let c = subst (λ i. (slice_index firsts (index_at events i) < length events)
      × IsFrom events (slice_index firsts (index_at events i)) i) f.2 (h.first f.0 (omega arith) f.1) in
      let e : index_at events j ≡ p = ap (λ q. q - 1) (sym b.own) ∙ sym at in
      subst (λ q. (slice_index firsts q < length events) × IsFrom events (slice_index firsts q) j) e c

  next : (m j : ℕ) → (k < m) ⊎ (m ≤ k) → k ≤ m → m < length order → j < length events
      → IsOwnBefore events j (slice_index order m)
      → (slice_index (set nexts place (slice_index firsts p)) (slice_index order m) < length events)
      × IsFrom events (slice_index (set nexts place (slice_index firsts p)) (slice_index order m)) j
  next m j (inl b) a lm lj c = subst (λ i. (i < length events) × IsFrom events i j)
      (sym (same-next m b lm)) (h.next m j (omega arith) lm lj c)
  next m j (inr b) a lm lj c =
      let e : m ≡ k = omega arith in
      let f : slice_index (set nexts place (slice_index firsts p)) (slice_index order m)
      ≡ slice_index firsts p = ap (λ n. slice_index (set nexts place (slice_index firsts p)) (slice_index order n)) e ∙ new-next in
      subst (λ i. (i < length events) × IsFrom events i j)
      (sym f) (next-here j lj (subst (λ n. IsOwnBefore events j (slice_index order n)) e c))

  pub chained-more : AreChained events order k (set firsts p place) (set nexts place (slice_index firsts p))
  chained-more = record {
    wide = length-set firsts p place ∙ h.wide;
    long = length-set nexts place (slice_index firsts p) ∙ h.long;
    first_own = λ q lq b. first_own q lq (cases_eq q p) b;
    first = λ m a b. first m (cases_lt k m) a b;
    next_own = λ m a b c. next_own m (cases_lt k m) a b c;
    next = λ m j a b c d. next m j (cases_lt k m) a b c d;
  }

-- all events are in the sequences
pub chained-firsts : (events : List Event) (order firsts nexts : List ℕ)
    → IsTimeOrder events order → AreChained events order 0 firsts nexts → AreFirsts events firsts
chained-firsts events order firsts nexts o h = record {
  wide = h.wide;
  own = λ p l b. (h.first_own p l b).own;
  first = λ i l. (let f = place-found (length events) order i o.places l in
      subst (λ j. (slice_index firsts (index_at events j) < length events)
      × IsFrom events (slice_index firsts (index_at events j)) j) f.2 (h.first f.0 (omega arith) f.1));
}

pub chained-nexts : (events : List Event) (order firsts nexts : List ℕ)
    → IsTimeOrder events order → AreChained events order 0 firsts nexts → AreNexts events nexts
chained-nexts events order firsts nexts o h = record {
  long = h.long;
  own = λ i l b. (let f = place-found (length events) order i o.places l in subst
      (λ j. slice_index nexts j < length events → IsOwnBefore events (slice_index nexts j) j) f.2 (h.next_own f.0 (omega arith) f.1) b);
  first = λ i j lj b. (let f = place-found (length events) order i o.places b.inside in
      subst (λ n. IsOwnBefore events j n → (slice_index nexts n < length events)
      × IsFrom events (slice_index nexts n) j) f.2 (h.next f.0 j (omega arith) f.1 lj) b);
}

-- one event more, as the code reads it
pub chained-step : (events : List Event) (order firsts nexts : List ℕ) (back p f : ℕ) → IsTimeOrder events order
    → AreOfProcessors events → back < length order → p ≡ index_at events (slice_index order (length order - 1 - back))
    → f ≡ slice_index firsts p → AreChained events order (length order - back) firsts nexts
    → AreChained events order (length order - (back + 1)) (set firsts p (slice_index order (length order - 1 - back)))
    (set nexts (slice_index order (length order - 1 - back)) f)
chained-step events order firsts nexts back p f o r l at e h =
    let m : length order - (back + 1) ≡ length order - 1 - back = omega arith in
    let s : length order - back ≡ (length order - 1 - back) + 1 = omega arith in
    subst (λ k. AreChained events order k (set firsts p (slice_index order (length order - 1 - back)))
    (set nexts (slice_index order (length order - 1 - back)) f)) (sym m)
    (subst (λ x. AreChained events order (length order - 1 - back)
    (set firsts p (slice_index order (length order - 1 - back)))
    (set nexts (slice_index order (length order - 1 - back)) x)) (sym e)
    (chained-more events order firsts nexts (length order - 1 - back) p o r
    (omega arith) at (subst (λ k. AreChained events order k firsts nexts) s h)))

pub chained-end : (events : List Event) (order firsts nexts : List ℕ) (back : ℕ) → length order ≤ back
    → AreChained events order (length order - back) firsts nexts → AreChained events order 0 firsts nexts
chained-end events order firsts nexts back l h = let e : length order - back ≡ 0 = omega arith in
    subst (λ k. AreChained events order k firsts nexts) e h
