-- A walk that places events behind their causes.
use Rattle.std.proofs.Common.{ℕ, ◌≡◌, ◌+◌, ◌-◌, ◌<◌, ◌≤◌, ◌⊎◌, inl, inr, true, List, [], ◌∷◌, ◌++◌, length, set, get_or, replicate, Option, Some, None, zero, suc, refl, sym, ap, ◌∙◌, subst, arith}
use Rattle.std.specs.Prelude.{slice_index, slice_index_or}
use Rattle.std.specs.List.{range_with_len, list_any}
use Rattle.std.specs.Option.{option_map_or}
use Rattle.std.proofs.lemmas.Option.{slice_get_read}
use Rattle.std.proofs.lemmas.Bool.{cases_lt, cases_eq}
use Rattle.std.proofs.lemmas.List.{get_or-set_same, get_or-set_other, length-set, length-replicate, length_push}
use Rattle.std.proofs.lemmas.List.FromFn.{length-range_with_len, get_or-range_with_len}
use Rattle.step_trace.specs.declared.configurations.TheConstants.{MAX_PROCESSORS}
use Rattle.timed_events.specs.declared.events.Event.{Event}
use Rattle.timed_events.specs.Checks.{is_for, is_message, processor_at, messages_at, received_in, AreOfProcessors}
use Rattle.timed_events.specs.Causes.{IsOwnBefore, IsFrom, IsSentTo, IsCause}
use Rattle.timed_events.specs.CausalWalks.{index_at, AreNexts, AreFirsts, zeros, IsIn, IsWaiting, AreMet, AreRightlyReceived, IsWalked, AreStuck, left_to_do}
use Rattle.timed_events.proofs.EarlierEvents.{earlier-one_way}
use Rattle.timed_events.proofs.FittingEvents.{names-message}
use Rattle.timed_events.proofs.RankedEvents.{named-at}

-- one number more at the end
pub push-same : (xs : List ℕ) (x : ℕ) → slice_index (xs ++ x ∷ []) (length xs) ≡ x
push-same [] x = refl
push-same (y ∷ xs) x = push-same xs x

pub push-other : (xs : List ℕ) (x k : ℕ) → k < length xs → slice_index (xs ++ x ∷ []) k ≡ slice_index xs k
push-other [] x k l = absurd (omega arith)
push-other (y ∷ xs) x zero l = refl
push-other (y ∷ xs) x (suc k) l = push-other xs x k (omega arith)

-- who is in a list is in it with one number more, and so is that number
pub in-more : (q x : ℕ) (xs : List ℕ) → IsIn q xs → IsIn q (xs ++ x ∷ [])
in-more q x xs i =
    record { k = i.k; within = (let n = length_push xs x in let l = i.within in omega arith); at = push-other xs x i.k i.within ∙ i.at }

pub in-last : (x : ℕ) (xs : List ℕ) → IsIn x (xs ++ x ∷ [])
in-last x xs = record { k = length xs; within = (let n = length_push xs x in omega arith); at = push-same xs x }

pub in-less : (q x : ℕ) (xs : List ℕ) → ¬ (q ≡ x) → IsIn q (xs ++ x ∷ []) → IsIn q xs
in-less q x xs n i = go (cases_lt i.k (length xs)) where
  go : (i.k < length xs) ⊎ (length xs ≤ i.k) → IsIn q xs
  go (inl below) = record { k = i.k; within = below; at = sym (push-other xs x i.k below) ∙ i.at }
  go (inr above) =
      let m = length_push xs x in
      let l = i.within in
      let e : i.k ≡ length xs = omega arith in
      absurd (n (sym i.at ∙ ap (slice_index (xs ++ x ∷ [])) e ∙ push-same xs x))

pub inside-less : (m x : ℕ) (xs : List ℕ) → ((k : ℕ) → k < length (xs ++ x ∷ []) → slice_index (xs ++ x ∷ []) k < m)
    → (k : ℕ) → k < length xs → slice_index xs k < m
inside-less m x xs h k l = let a = h k (let n = length_push xs x in omega arith) in let b = push-other xs x k l in omega arith

-- a 0 that is set is one 0 less
pub zeros-set : (xs : List ℕ) (i y : ℕ) → i < length xs → slice_index xs i ≡ 0 → 0 < y → zeros (set xs i y) + 1 ≡ zeros xs
zeros-set [] i y l e p = absurd (omega arith)
zeros-set (zero ∷ xs) zero zero l e p = absurd (omega arith)
zeros-set (zero ∷ xs) zero (suc y) l e p = refl
zeros-set (suc x ∷ xs) zero y l e p = absurd (omega arith)
zeros-set (zero ∷ xs) (suc i) y l e p = ap (λ n. n + 1) (zeros-set xs i y (omega arith) e p)
zeros-set (suc x ∷ xs) (suc i) y l e p = zeros-set xs i y (omega arith) e p

pub zeros-none : (xs : List ℕ) → ((i : ℕ) → i < length xs → 0 < slice_index xs i) → zeros xs ≡ 0
zeros-none [] h = refl
zeros-none (zero ∷ xs) h = absurd (let a = h zero (omega arith) in omega arith)
zeros-none (suc x ∷ xs) h = zeros-none xs (λ i l. h (suc i) (omega arith))

pub zeros-all : (n : ℕ) → zeros (replicate n 0) ≡ n
zeros-all zero = refl
zeros-all (suc n) = let e = zeros-all n in omega arith

pub zero-each : (n i : ℕ) → slice_index (replicate n 0) i ≡ 0
zero-each zero i = refl
zero-each (suc n) zero = refl
zero-each (suc n) (suc i) = zero-each n i

-- before the first event is placed
pub walked-start : (events : List Event) (heads met waits ranks awake : List ℕ) → AreFirsts events heads
    → met ≡ replicate MAX_PROCESSORS 0 → waits ≡ replicate MAX_PROCESSORS 0 → ranks ≡ replicate (length events) 0
    → awake ≡ range_with_len 0 MAX_PROCESSORS → IsWalked events heads met waits ranks [] awake
walked-start events heads met waits ranks awake f e1 e2 e3 e4 = record {
  wide = (f.wide, ap length e1 ∙ length-replicate {A = ℕ} MAX_PROCESSORS 0, ap length e2 ∙ length-replicate {A = ℕ} MAX_PROCESSORS 0);
  long = ap length e3 ∙ length-replicate {A = ℕ} (length events) 0;
  left = (let z = ap zeros e3 ∙ zeros-all (length events) in omega arith);
  placed = λ k l. absurd (omega arith);
  ranked = λ i l. absurd (let z = none i in omega arith);
  after = λ i j l c. absurd (let z = none i in omega arith);
  next = λ i l z. f.first i l;
  head = λ p l b. (f.own p l b, none (slice_index heads p));
  known = λ p l b a s k m i. absurd (let z = ap (λ xs. slice_index xs p) e1 ∙ zero-each MAX_PROCESSORS p in omega arith);
  asleep = λ p l b.
      inl
      (record {
        k = p;
        within = (let n = ap length e4 ∙ length-range_with_len 0 MAX_PROCESSORS in omega arith);
        at =
            (let x = ap (λ xs. slice_index xs p) e4 ∙ get_or-range_with_len 0 MAX_PROCESSORS p 0 l in omega arith);
      });
  inside = λ k l. (
      let n = ap length e4 ∙ length-range_with_len 0 MAX_PROCESSORS in
      let x = ap (λ xs. slice_index xs k) e4 ∙ get_or-range_with_len 0 MAX_PROCESSORS k 0 (omega arith) in
      omega arith);
} where
  none : (i : ℕ) → slice_index ranks i ≡ 0
  none i = ap (λ xs. slice_index xs i) e3 ∙ zero-each (length events) i

module _ (events : List Event) (heads met waits ranks order awake : List ℕ)
    (p : ℕ) (lp : p < MAX_PROCESSORS) (w : IsWalked events heads met waits ranks order (awake ++ p ∷ [])) where
  still : (q : ℕ) → ¬ (q ≡ p) → slice_index heads q < length events
      → q < MAX_PROCESSORS → IsIn q awake ⊎ IsWaiting events ranks (slice_index heads q) (slice_index waits q)
  still q n b l = go (w.asleep q l b) where
    go : IsIn q (awake ++ p ∷ []) ⊎ IsWaiting events ranks (slice_index heads q) (slice_index waits q)
        → IsIn q awake ⊎ IsWaiting events ranks (slice_index heads q) (slice_index waits q)
    go (inl i) = inl (in-less q p awake n i)
    go (inr i) = inr i

  -- a processor that has no event left
  pub walked-ended : length events ≤ slice_index heads p → IsWalked events heads met waits ranks order awake
  walked-ended none = record {
    wide = w.wide;
    long = w.long;
    left = w.left;
    placed = w.placed;
    ranked = w.ranked;
    after = w.after;
    next = w.next;
    head = w.head;
    known = w.known;
    asleep = λ q l b. still q (λ e. (let s = ap (slice_index heads) e in omega arith)) b l;
    inside = inside-less MAX_PROCESSORS p awake w.inside;
  }

  -- a processor that waits for a message
  pub walked-waits : (m s : ℕ) → AreMet events ranks (slice_index heads p) m
      → IsWaiting events ranks (slice_index heads p) s → IsWalked events heads (set met p m) (set waits p s) ranks order awake
  walked-waits m s k i = record {
    wide = (w.wide.0, length-set met p m ∙ w.wide.1, length-set waits p s ∙ w.wide.2);
    long = w.long;
    left = w.left;
    placed = w.placed;
    ranked = w.ranked;
    after = w.after;
    next = w.next;
    head = w.head;
    known = λ q l b. known q l b (cases_eq q p);
    asleep = λ q l b. asleep q l b (cases_eq q p);
    inside = inside-less MAX_PROCESSORS p awake w.inside;
  } where
    known : (q : ℕ) → q < MAX_PROCESSORS → slice_index heads q < length events
        → (q ≡ p) ⊎ ¬ (q ≡ p) → AreMet events ranks (slice_index heads q) (slice_index (set met p m) q)
    known q l b (inl e) = subst (λ r. AreMet events ranks (slice_index heads r) (slice_index (set met p m) r)) (sym e)
        (subst (λ x. AreMet events ranks (slice_index heads p) x)
        (sym (get_or-set_same met p m 0 (let a = w.wide.1 in omega arith))) k)
    known q l b (inr n) = subst (λ x. AreMet events ranks (slice_index heads q) x) (sym (get_or-set_other met p q m 0 n)) (w.known q l b)

    asleep : (q : ℕ) → q < MAX_PROCESSORS → slice_index heads q < length events
        → (q ≡ p) ⊎ ¬ (q ≡ p) → IsIn q awake ⊎ IsWaiting events ranks (slice_index heads q) (slice_index (set waits p s) q)
    asleep q l b (inl e) = inr
        (subst (λ r. IsWaiting events ranks (slice_index heads r) (slice_index (set waits p s) r)) (sym e)
        (subst (λ x. IsWaiting events ranks (slice_index heads p) x)
        (sym (get_or-set_same waits p s 0 (let a = w.wide.2 in omega arith))) i))
    asleep q l b (inr n) = subst (λ x. IsIn q awake ⊎ IsWaiting events ranks (slice_index heads q) x)
        (sym (get_or-set_other waits p q s 0 n)) (still q n b l)

  module _ (nexts now : List ℕ) (x : AreNexts events nexts) (b : slice_index heads p < length events)
      (sent : (s : ℕ) → IsSentTo events (slice_index heads p) s → 0 < slice_index ranks s)
      (kept : (q : ℕ) → IsIn q (awake ++ p ∷ []) → IsIn q now) (woken : (q : ℕ) → q < MAX_PROCESSORS
      → slice_index heads q < length events → IsWaiting events ranks (slice_index heads q) (slice_index waits q)
      → slice_index waits q ≡ slice_index heads p → IsIn q now) (inside : (k : ℕ) → k < length now
      → slice_index now k < MAX_PROCESSORS) where
    abbrev h : ℕ
    h = slice_index heads p

    unplaced : slice_index ranks h ≡ 0
    unplaced = (w.head p lp b).1

    index-h : index_at events h ≡ p
    index-h = (w.head p lp b).0

    new-rank : slice_index (set ranks h (length order + 1)) h ≡ length order + 1
    new-rank = get_or-set_same ranks h (length order + 1) 0 (let l = w.long in omega arith)

    same-rank : (i : ℕ) → ¬ (i ≡ h) → slice_index (set ranks h (length order + 1)) i ≡ slice_index ranks i
    same-rank i n = get_or-set_other ranks h i (length order + 1) 0 n

    placed-other : (i : ℕ) → 0 < slice_index ranks i → ¬ (i ≡ h)
    placed-other i l e = let s = ap (slice_index ranks) e in let u = unplaced in omega arith

    -- the events of its processor before the head are placed
    own-placed : (j : ℕ) → IsOwnBefore events h j → 0 < slice_index ranks j
    own-placed j o = go (cases_eq (slice_index ranks j) 0) where
      same : index_at events j ≡ p
      same = ap (λ q. q - 1) o.own ∙ index-h

      both : IsFrom events h j → ⊥
      both (inl e) = let f = subst (λ i. IsOwnBefore events h i) e o in earlier-one_way events h h f.earlier f.earlier
      both (inr f) = earlier-one_way events j h o.earlier f.earlier

      go : (slice_index ranks j ≡ 0) ⊎ ¬ (slice_index ranks j ≡ 0) → 0 < slice_index ranks j
      go (inl z) = absurd (both (subst (λ q. IsFrom events (slice_index heads q) j) same (w.next j o.inside z).1))
      go (inr n) = omega arith

    cause-placed : (j : ℕ) → IsCause events h j → 0 < slice_index ranks j
    cause-placed j (inl o) = own-placed j o
    cause-placed j (inr s) = sent j s

    rank-kept : (i : ℕ) → 0 < slice_index ranks i → 0 < slice_index (set ranks h (length order + 1)) i
    rank-kept i l = let e = same-rank i (placed-other i l) in omega arith

    placed : (k : ℕ) → (k < length order) ⊎ (length order ≤ k) → k < length (order ++ h ∷ [])
        → (slice_index (order ++ h ∷ []) k < length events)
        × (slice_index (set ranks h (length order + 1)) (slice_index (order ++ h ∷ []) k) ≡ k + 1)
    placed k (inl below) l =
        let e = push-other order h k below in
        let r = w.placed k below in
        let r0 = r.0 in
        let r1 = r.1 in
        let s = ap (slice_index (set ranks h (length order + 1))) e in
        let t = same-rank (slice_index order k) (placed-other (slice_index order k) (omega arith)) in
        (omega arith, s ∙ t ∙ r.1)
    placed k (inr above) l =
        let n = length_push order h in
        let c : k ≡ length order = omega arith in
        let e = ap (slice_index (order ++ h ∷ [])) c ∙ push-same order h in
        let s = ap (slice_index (set ranks h (length order + 1))) e in
        (omega arith, s ∙ new-rank ∙ ap (λ n. n + 1) (sym c))

    ranked : (i : ℕ) → (i ≡ h) ⊎ ¬ (i ≡ h) → 0 < slice_index (set ranks h (length order + 1)) i
        → (slice_index (set ranks h (length order + 1)) i ≤ length (order ++ h ∷ []))
        × (slice_index (order ++ h ∷ []) (slice_index (set ranks h (length order + 1)) i - 1) ≡ i)
    ranked i (inl e) l =
        let n = length_push order h in
        let r = ap (slice_index (set ranks h (length order + 1))) e ∙ new-rank in
        let c : slice_index (set ranks h (length order + 1)) i - 1 ≡ length order = omega arith in
        (omega arith, ap (slice_index (order ++ h ∷ [])) c ∙ push-same order h ∙ sym e)
    ranked i (inr d) l =
        let n = length_push order h in
        let s = same-rank i d in
        let r = w.ranked i (omega arith) in
        let r0 = r.0 in
        let c : slice_index (set ranks h (length order + 1)) i - 1 ≡ slice_index ranks i - 1 = omega arith in
        (omega arith, ap (slice_index (order ++ h ∷ [])) c ∙ push-other order h (slice_index ranks i - 1) (omega arith) ∙ r.1)

    after : (i j : ℕ) → (i ≡ h) ⊎ ¬ (i ≡ h) → 0 < slice_index (set ranks h (length order + 1)) i → IsCause events i j
        → (0 < slice_index (set ranks h (length order + 1)) j)
        × (slice_index (set ranks h (length order + 1)) j < slice_index (set ranks h (length order + 1)) i)
    after i j (inl e) l c =
        let a = cause-placed j (subst (λ k. IsCause events k j) e c) in
        let s = same-rank j (placed-other j a) in
        let r = (w.ranked j a).0 in
        let t = ap (slice_index (set ranks h (length order + 1))) e in
        let u = new-rank in
        (omega arith, omega arith)
    after i j (inr d) l c =
        let s = same-rank i d in
        let a = w.after i j (omega arith) c in
        let a0 = a.0 in
        let a1 = a.1 in
        let t = same-rank j (placed-other j a.0) in
        (omega arith, omega arith)

    new-head : slice_index (set heads p (slice_index nexts h)) p ≡ slice_index nexts h
    new-head = get_or-set_same heads p (slice_index nexts h) 0 (let a = w.wide.0 in omega arith)

    same-head : (q : ℕ) → ¬ (q ≡ p) → slice_index (set heads p (slice_index nexts h)) q ≡ slice_index heads q
    same-head q n = get_or-set_other heads p q (slice_index nexts h) 0 n

    next-own : (i : ℕ) → i < length events → ¬ (i ≡ h)
        → IsFrom events h i → (slice_index nexts h < length events) × IsFrom events (slice_index nexts h) i
    next-own i l n (inl e) = absurd (n e)
    next-own i l n (inr o) = x.first h i l o

    next : (i : ℕ) → i < length events → ¬ (i ≡ h) → slice_index ranks i ≡ 0
        → (index_at events i ≡ p) ⊎ ¬ (index_at events i ≡ p)
        → (slice_index (set heads p (slice_index nexts h)) (index_at events i) < length events)
        × IsFrom events (slice_index (set heads p (slice_index nexts h)) (index_at events i)) i
    next i l n z (inl e) =
        let f = subst (λ q. IsFrom events (slice_index heads q) i) e (w.next i l z).1 in
        let s : slice_index (set heads p (slice_index nexts h)) (index_at events i)
        ≡ slice_index nexts h = ap (slice_index (set heads p (slice_index nexts h))) e ∙ new-head in
        subst (λ k. (k < length events) × IsFrom events k i) (sym s) (next-own i l n f)
    next i l n z (inr d) = subst (λ k. (k < length events) × IsFrom events k i) (sym (same-head (index_at events i) d)) (w.next i l z)

    left-unplaced : (i : ℕ) → slice_index (set ranks h (length order + 1)) i ≡ 0 → (¬ (i ≡ h)) × (slice_index ranks i ≡ 0)
    left-unplaced i z =
        let n : ¬ (i ≡ h) = (λ e. (let s = ap (slice_index (set ranks h (length order + 1))) e in let u = new-rank in omega arith)) in
        (n, sym (same-rank i n) ∙ z)

    -- the next event of the processor isn't placed
    later-unplaced : (j : ℕ) → IsOwnBefore events j h → slice_index (set ranks h (length order + 1)) j ≡ 0
    later-unplaced j o = same-rank j differ ∙ go (cases_eq (slice_index ranks j) 0) where
      differ : ¬ (j ≡ h)
      differ e = (let f = subst (λ i. IsOwnBefore events i h) e o in earlier-one_way events h h f.earlier f.earlier)

      go : (slice_index ranks j ≡ 0) ⊎ ¬ (slice_index ranks j ≡ 0) → slice_index ranks j ≡ 0
      go (inl z) = z
      go (inr n) = let a = (w.after j h (omega arith) (inl o)).0 in let u = unplaced in absurd (omega arith)

    head : (q : ℕ) → q < MAX_PROCESSORS → (q ≡ p) ⊎ ¬ (q ≡ p)
        → slice_index (set heads p (slice_index nexts h)) q < length events
        → (index_at events (slice_index (set heads p (slice_index nexts h)) q) ≡ q)
        × (slice_index (set ranks h (length order + 1)) (slice_index (set heads p (slice_index nexts h)) q) ≡ 0)
    head q l (inl e) a =
        let s : slice_index (set heads p (slice_index nexts h)) q
        ≡ slice_index nexts h = ap (slice_index (set heads p (slice_index nexts h))) e ∙ new-head in
        let o = x.own h b (omega arith) in
        subst (λ k. (index_at events k ≡ q) × (slice_index (set ranks h (length order + 1)) k ≡ 0))
        (sym s) ((let f = o.own in let i = index-h in omega arith), later-unplaced (slice_index nexts h) o)
    head q l (inr n) a =
        let s = same-head q n in
        let r = w.head q l (omega arith) in
        let d : ¬ (slice_index heads q ≡ h) = (λ e. n (sym r.0 ∙ ap (index_at events) e ∙ index-h)) in
        subst (λ k. (index_at events k ≡ q) × (slice_index (set ranks h (length order + 1)) k ≡ 0))
        (sym s) (r.0, same-rank (slice_index heads q) d ∙ r.1)

    known : (q : ℕ) → q < MAX_PROCESSORS → (q ≡ p) ⊎ ¬ (q ≡ p)
        → slice_index (set heads p (slice_index nexts h)) q < length events
        → AreMet events (set ranks h (length order + 1)) (slice_index (set heads p (slice_index nexts h)) q)
        (slice_index (set met p 0) q)
    known q l (inl e) a k s below at i = absurd (let z = ap (slice_index (set met p 0)) e
        ∙ get_or-set_same met p 0 0 (let n = w.wide.1 in omega arith) in omega arith)
    known q l (inr n) a k s below at i =
        let m = get_or-set_other met p q 0 0 n in
        let g = same-head q n in
        rank-kept s
        (w.known q l (omega arith) k s (omega arith) (subst (λ j. slice_index_or (messages_at events j) k None ≡ Some s) g at) i)

    asleep : (q : ℕ) → q < MAX_PROCESSORS → (q ≡ p) ⊎ ¬ (q ≡ p)
        → slice_index (set heads p (slice_index nexts h)) q < length events
        → IsIn q now ⊎ IsWaiting events (set ranks h (length order + 1))
        (slice_index (set heads p (slice_index nexts h)) q) (slice_index waits q)
    asleep q l (inl e) a = inl (kept q (subst (λ r. IsIn r (awake ++ p ∷ [])) (sym e) (in-last p awake)))
    asleep q l (inr n) a = go (still q n here l) where
      here : slice_index heads q < length events
      here = let g = same-head q n in omega arith

      wait : IsWaiting events ranks (slice_index heads q) (slice_index waits q)
          → (slice_index waits q ≡ h) ⊎ ¬ (slice_index waits q ≡ h)
          → IsIn q now ⊎ IsWaiting events (set ranks h (length order + 1))
          (slice_index (set heads p (slice_index nexts h)) q) (slice_index waits q)
      wait i (inl e) = inl (woken q l here i e)
      wait i (inr d) = inr (subst (λ k. IsWaiting events (set ranks h (length order + 1)) k (slice_index waits q))
          (sym (same-head q n)) (record { sent = i.sent; unplaced = same-rank (slice_index waits q) d ∙ i.unplaced }))

      go : IsIn q awake ⊎ IsWaiting events ranks (slice_index heads q) (slice_index waits q)
          → IsIn q now ⊎ IsWaiting events (set ranks h (length order + 1))
          (slice_index (set heads p (slice_index nexts h)) q) (slice_index waits q)
      go (inl i) = inl (kept q (in-more q p awake i))
      go (inr i) = wait i (cases_eq (slice_index waits q) h)

    -- one event more is placed
    pub walked-placed : IsWalked events (set heads p (slice_index nexts h))
        (set met p 0) waits (set ranks h (length order + 1)) (order ++ h ∷ []) now
    walked-placed = record {
      wide = (length-set heads p (slice_index nexts h) ∙ w.wide.0, length-set met p 0 ∙ w.wide.1, w.wide.2);
      long = length-set ranks h (length order + 1) ∙ w.long;
      left = (let n = length_push order h in let z =
          zeros-set ranks h (length order + 1) (let l = w.long in omega arith) unplaced (omega arith) in let l = w.left in omega arith);
      placed = λ k l. placed k (cases_lt k (length order)) l;
      ranked = λ i l. ranked i (cases_eq i h) l;
      after = λ i j l c. after i j (cases_eq i h) l c;
      next = λ i l z. (let u = left-unplaced i z in next i l u.0 u.1 (cases_eq (index_at events i) p));
      head = λ q l a. head q l (cases_eq q p) a;
      known = λ q l a. known q l (cases_eq q p) a;
      asleep = λ q l a. asleep q l (cases_eq q p) a;
      inside = inside;
    }

-- if nobody is awake, each event that isn't placed has a cause that isn't
pub walked-stuck : (events : List Event) (heads met waits ranks order awake : List ℕ) → AreOfProcessors events
    → length awake ≡ 0 → IsWalked events heads met waits ranks order awake → AreStuck events ranks
walked-stuck events heads met waits ranks order awake o none w i l z = go (w.next i l z).1 where
  p : index_at events i < MAX_PROCESSORS
  p = let a = (o i l).0 in let b = (o i l).1 in omega arith

  within : slice_index heads (index_at events i) < length events
  within = (w.next i l z).0

  wait : i ≡ slice_index heads (index_at events i) → IsIn (index_at events i) awake
      ⊎ IsWaiting events ranks (slice_index heads (index_at events i)) (slice_index waits (index_at events i))
      → (j : ℕ) × IsCause events i j × (slice_index ranks j ≡ 0)
  wait e (inl n) = absurd (let b = n.within in omega arith)
  wait e (inr h) = (
    slice_index waits (index_at events i),
    inr (subst (λ k. IsSentTo events k (slice_index waits (index_at events i))) (sym e) h.sent),
    h.unplaced,
  )

  go : IsFrom events (slice_index heads (index_at events i)) i → (j : ℕ) × IsCause events i j × (slice_index ranks j ≡ 0)
  go (inl e) = wait e (w.asleep (index_at events i) p within)
  go (inr c) = (slice_index heads (index_at events i), inl c, (w.head (index_at events i) p within).1)

-- what the code reads of an event's messages
pub messages-read : (events : List Event) (i : ℕ) (e : Event) (ms : List (Option ℕ))
    → i < length events → e ≡ get_or events i e → ms ≡ received_in (get_or events i e).act → ms ≡ messages_at events i
messages-read events i e ms l h g = g ∙ ap (λ x. received_in x.act) (sym h)
    ∙ sym (ap (λ o. option_map_or (λ x. received_in x.act) o []) (slice_get_read events (length events) i e refl l h))

-- a message whose Send isn't placed is waited for
pub waits-here : (events : List Event) (ranks : List ℕ) (i k s : ℕ) (ms : List (Option ℕ)) → ms ≡ messages_at events i
    → k < length ms → slice_index_or ms k None ≡ Some s → s < length events → slice_index ranks s ≡ 0
    → IsWaiting events ranks i s
waits-here events ranks i k s ms m l at b z = record {
  sent = record { inside = b; taken = subst (λ xs. list_any (is_message s) xs ≡ true) m (names-message ms k s l at) };
  unplaced = z;
}

-- one message more is met
pub met-more : (events : List Event) (ranks : List ℕ) (i k : ℕ) (ms : List (Option ℕ)) → ms ≡ messages_at events i
    → ((s : ℕ) → slice_index_or ms k None ≡ Some s → s < length events → 0 < slice_index ranks s)
    → AreMet events ranks i k → AreMet events ranks i (k + 1)
met-more events ranks i k ms m here h a s b at l = go (cases_lt a k) where
  go : (a < k) ⊎ (k ≤ a) → 0 < slice_index ranks s
  go (inl below) = h a s below at l
  go (inr above) = let e : a ≡ k = omega arith in
      here s (subst (λ x. slice_index_or ms x None ≡ Some s) e (subst (λ xs. slice_index_or xs a None ≡ Some s) (sym m) at)) l

-- all are
pub met-all : (events : List Event) (ranks : List ℕ) (i k : ℕ) (ms : List (Option ℕ)) → ms ≡ messages_at events i
    → length ms ≤ k → AreMet events ranks i k → (s : ℕ) → IsSentTo events i s → 0 < slice_index ranks s
met-all events ranks i k ms m l h s t =
    let f = named-at (messages_at events i) s t.taken in
    let n = ap length m in
    let b = f.1 in
    h f.0 s (omega arith) f.2 t.inside

pub met-read : (events : List Event) (ranks read : List ℕ) (i j k m : ℕ)
    → read ≡ ranks → j ≡ i → m ≡ k → AreMet events ranks i k → AreMet events read j m
met-read events ranks read i j k m e f g h = subst
    (λ xs. AreMet events xs j m) (sym e) (subst (λ x. AreMet events ranks x m) (sym f) (subst (λ x. AreMet events ranks i x) (sym g) h))

pub waiting-read : (events : List Event) (ranks read : List ℕ) (i j s : ℕ)
    → read ≡ ranks → j ≡ i → IsWaiting events read j s → IsWaiting events ranks i s
waiting-read events ranks read i j s e f h = subst (λ xs. IsWaiting events xs i s) e (subst (λ x. IsWaiting events read x s) f h)

pub sent-read : (events : List Event) (ranks read : List ℕ) (i j : ℕ) → read ≡ ranks → j ≡ i
    → ((s : ℕ) → IsSentTo events j s → 0 < slice_index read s) → (s : ℕ) → IsSentTo events i s → 0 < slice_index ranks s
sent-read events ranks read i j e f h = subst (λ xs. (s : ℕ) → IsSentTo events i s → 0 < slice_index xs s) e
    (subst (λ x. (s : ℕ) → IsSentTo events x s → 0 < slice_index read s) f h)

-- a processor that waits for a message is the one to whom it was sent
pub waiting-for : (events : List Event) (heads waits ranks : List ℕ) (q h : ℕ) → AreOfProcessors events
    → AreRightlyReceived events → index_at events (slice_index heads q) ≡ q → slice_index heads q < length events
    → IsWaiting events ranks (slice_index heads q) (slice_index waits q) → slice_index waits q ≡ h
    → is_for events h (q + 1) ≡ true
waiting-for events heads waits ranks q h o r own b w e =
    let a = (o (slice_index heads q) b).0 in
    let p : processor_at events (slice_index heads q) ≡ q + 1 = omega arith in
    subst (λ x. is_for events x (q + 1) ≡ true) e
    (subst (λ x. is_for events (slice_index waits q) x ≡ true) p (r (slice_index heads q) (slice_index waits q) b w.sent))

-- one event more, as the code places it
pub placed-read : (events : List Event) (heads met waits ranks order awake nexts now grown : List ℕ) (p head rank : ℕ)
    → p < MAX_PROCESSORS → IsWalked events heads met waits ranks order (awake ++ p ∷ []) → AreNexts events nexts
    → slice_index heads p < length events
    → ((s : ℕ) → IsSentTo events (slice_index heads p) s → 0 < slice_index ranks s)
    → ((q : ℕ) → IsIn q (awake ++ p ∷ []) → IsIn q now)
    → ((q : ℕ) → q < MAX_PROCESSORS → slice_index heads q < length events
    → IsWaiting events ranks (slice_index heads q) (slice_index waits q) → slice_index waits q ≡ slice_index heads p
    → IsIn q now) → ((k : ℕ) → k < length now → slice_index now k < MAX_PROCESSORS) → head ≡ slice_index heads p
    → rank ≡ length order + 1 → grown ≡ order ++ head ∷ []
    → IsWalked events (set heads p (slice_index nexts head)) (set met p 0) waits (set ranks head rank) grown now
placed-read events heads met waits ranks order awake nexts now grown p head rank lp w x b sent kept woken inside e f g =
    subst (λ o. IsWalked events (set heads p (slice_index nexts head)) (set met p 0) waits (set ranks head rank) o now)
    (sym g)
    (subst (λ r. IsWalked events (set heads p (slice_index nexts head)) (set met p 0) waits (set ranks head r)
    (order ++ head ∷ []) now) (sym f)
    (subst (λ i. IsWalked events (set heads p (slice_index nexts i)) (set met p 0) waits
    (set ranks i (length order + 1)) (order ++ i ∷ []) now) (sym e)
    (walked-placed events heads met waits ranks order awake p lp w nexts now x b sent kept woken inside)))

-- less is left to do
pub placed-less : (ranks awake now : List ℕ) (h rank : ℕ) → h < length ranks → slice_index ranks h ≡ 0 → 0 < rank
    → length now ≤ length awake + 2 → left_to_do (set ranks h rank) now < left_to_do ranks awake + 1
placed-less ranks awake now h rank l z r n = let e = zeros-set ranks h rank l z r in omega arith

pub range-more : (a n x : ℕ) → a + n ≡ x → range_with_len a (n + 1) ≡ range_with_len a n ++ x ∷ []
range-more a zero x e = ap (λ y. y ∷ []) (omega arith)
range-more a (suc n) x e = let s : suc (n + 1) ≡ suc n + 1 = omega arith in
    subst (λ k. range_with_len a k ≡ range_with_len a (suc n) ++ x ∷ []) s (ap (λ xs. a ∷ xs) (range-more (a + 1) n x (omega arith)))
