-- A walk in the order of times finds the event into which each is merged.
use Rattle.std.proofs.Common.{ℕ, zero, suc, ◌≡◌, ◌∙◌, ◌+◌, ◌-◌, ◌<◌, ◌≤◌, ◌⊎◌, inl, inr, Bool, true, false, cond, List, [], ◌∷◌, length, set, replicate, refl, sym, ap, subst, arith}
use Rattle.std.specs.Prelude.{◌==◌, nat_lt, slice_index}
use Rattle.std.proofs.lemmas.Bool.{cases_eq, cases_lt, eq-eqb, eqb-true, false_from_ne_true, lt-ltb, ltb-true, true≢false}
use Rattle.std.proofs.lemmas.List.{get_or-set_same, get_or-set_other, length-set, length-replicate}
use Rattle.step_trace.specs.declared.configurations.TheConstants.{MAX_PROCESSORS}
use Rattle.timed_events.specs.declared.events.Event.{Event}
use Rattle.timed_events.specs.declared.events.EventAct.{EventAct}
use Rattle.timed_events.specs.declared.events.EventAct.TheVariants as act
use Rattle.timed_events.specs.Causes.{IsTimeOrder, is_earlier}
use Rattle.timed_events.specs.CausalWalks.{index_at}
use Rattle.timed_events.specs.Checks.{AreOfProcessors, processor_at, is_send, sends_at}
use Rattle.timed_events.proofs.SortedEvents.{place-found}
use Rattle.timed_events.proofs.TimeOrders.{before-in_order, differ-in_order, found-before, inside-order}
use Rattle.timed_events.proofs.OwnSequences.{same-each}
use Rattle.merged_receives.specs.Merges.{is_joined, is_receive, is_merged, is_send_between, receives_at}
use Rattle.merged_receives.specs.MergeWalks.{AreHeadsOf, AreRising, IsHead, head_by}
use Rattle.merged_receives.proofs.JoinedReceives.{IsJoined, between-is, is-between, is-joined, joined-is, none-unmerged, part-joined, part-self}

-- no Send of the processor of the event at m comes behind it before k
abbrev AreQuiet : List Event → List ℕ → ℕ → ℕ → Type 0
AreQuiet events order k m = (a : ℕ) → m < a → a < k
    → index_at events (slice_index order a) ≡ index_at events (slice_index order m) → sends_at events (slice_index order a) ≡ false

-- event h is a receive of the processor that isn't merged, and none of its Sends comes behind it before k
record IsOpen (events : List Event) (ticks order : List ℕ) (k p h : ℕ) : Type 0 where
  m : ℕ
  before : m < k
  at : slice_index order m ≡ h
  own : index_at events h ≡ p
  receives : receives_at events h ≡ true
  stays : is_merged events ticks h ≡ false
  quiet : AreQuiet events order k m

-- The events before k have their heads. An open receive of each processor has the greatest tick of those behind which
-- there is no Send.
pub record AreHeads (events : List Event) (ticks order : List ℕ) (k : ℕ) (opens heads : List ℕ) : Type 0 where
  pub wide : length opens ≡ MAX_PROCESSORS
  pub long : length heads ≡ length events
  head : (m : ℕ) → m < k → IsHead events ticks (slice_index heads (slice_index order m)) (slice_index order m)
  held : (p : ℕ) → p < MAX_PROCESSORS → slice_index opens p < length events → IsOpen events ticks order k p (slice_index opens p)
  last : (m : ℕ) → m < k → receives_at events (slice_index order m) ≡ true → AreQuiet events order k m
      → (slice_index opens (index_at events (slice_index order m)) < length events)
      × (slice_index ticks (slice_index order m) ≤ slice_index ticks
      (slice_index opens (index_at events (slice_index order m))))

pub heads-start : (events : List Event) (ticks order opens heads : List ℕ) (none : ℕ) → none ≡ length events
    → opens ≡ replicate MAX_PROCESSORS none → heads ≡ replicate (length events) none
    → AreHeads events ticks order 0 opens heads
heads-start events ticks order opens heads none n e f = record {
  wide = ap length e ∙ length-replicate {A = ℕ} MAX_PROCESSORS none;
  long = ap length f ∙ length-replicate {A = ℕ} (length events) none;
  head = λ m b. absurd (omega (arith, b));
  held = λ p lp b. absurd (let s = ap (λ xs. slice_index xs p) e ∙ same-each MAX_PROCESSORS none p lp in omega (arith, s, n, b));
  last = λ m b r q. absurd (omega (arith, b));
}

-- each event sends or receives, and none does both
act-one : (a : EventAct) → is_receive a ≡ true → is_send a ≡ false
act-one (act.Send to) h = absurd (cc h)
act-one (act.Receive messages) h = refl

one-act : (events : List Event) (i : ℕ) → receives_at events i ≡ true → sends_at events i ≡ false
one-act [] i h = refl
one-act (e ∷ es) zero h = act-one e.act h
one-act (e ∷ es) (suc i) h = one-act es i h

act-other : (a : EventAct) → is_receive a ≡ false → is_send a ≡ true
act-other (act.Send to) h = refl
act-other (act.Receive messages) h = absurd (cc h)

an-act : (events : List Event) (i : ℕ) → i < length events → receives_at events i ≡ false → sends_at events i ≡ true
an-act [] i l h = absurd (omega (arith, l))
an-act (e ∷ es) zero l h = act-other e.act h
an-act (e ∷ es) (suc i) l h = an-act es i (omega (arith, l)) h

module _ (events : List Event) (ticks order : List ℕ) (o : IsTimeOrder events order) (r : AreOfProcessors events)
    (up : AreRising ticks order) (k : ℕ) (l : k < length order) (opens heads : List ℕ)
    (w : AreHeads events ticks order k opens heads) where
  abbrev i : ℕ
  i = slice_index order k

  abbrev p : ℕ
  p = index_at events i

  here : i < length events
  here = inside-order events order k o l

  index-inside : p < MAX_PROCESSORS
  index-inside = let a = (r i here).0 in let b = (r i here).1 in omega (arith, a, b)

  -- events of one index are of one processor
  same-own : (a b : ℕ) → a < length events → b < length events
      → index_at events a ≡ index_at events b → processor_at events a ≡ processor_at events b
  same-own a b la lb e = let x = (r a la).0 in let y = (r b lb).0 in omega (arith, x, y, e)

  abbrev h : ℕ
  h = slice_index opens p

  -- the open receive of the processor, if it is in the tick of this receive
  joins-open : h < length events → receives_at events i ≡ true → slice_index ticks h ≡ slice_index ticks i → IsHead events ticks h i
  joins-open b rec t = record { inside = b; stays = x.stays; part = part-joined events ticks h i (is-joined events ticks h i joined) } where
    x : IsOpen events ticks order k p h
    x = w.held p index-inside b

    before : is_earlier events h i ≡ true
    before = subst (λ j. is_earlier events j i ≡ true) x.at (o.rising x.m k x.before l)

    not-between : (s : ℕ) → s < length events → is_send_between events h i s ≡ true → ⊥
    not-between s ls e =
        let q = between-is events h i s e in
        let f = found-before events order k s o ls q.3 in
        let after = before-in_order events order x.m f.m o (let a = x.before in omega (arith, a, l))
        (subst (λ a. is_earlier events a (slice_index order f.m) ≡ true) (sym x.at)
        (subst (λ a. is_earlier events h a ≡ true) (sym f.is) q.2)) in
        let own : index_at events (slice_index order f.m) ≡ index_at events (slice_index order x.m) = ap (index_at events) f.is
        ∙ ap (λ n. n - 1) q.1 ∙ sym x.own ∙ sym (ap (index_at events) x.at) in
        true≢false (sym q.0 ∙ sym (ap (sends_at events) f.is) ∙ x.quiet f.m after f.before own)

    joined : IsJoined events ticks h i
    joined = record {
      first = x.receives;
      second = rec;
      own = same-own h i b here x.own;
      tick = t;
      earlier = before;
      quiet = λ s ls. false_from_ne_true (is_send_between events h i s) (not-between s ls);
    }

  -- else it isn't merged
  stays-self : ((receives_at events i ≡ true) → h < length events → slice_index ticks h ≡ slice_index ticks i → ⊥) → IsHead events ticks i i
  stays-self fails = record {
    inside = here;
    stays = none-unmerged events ticks i
        (λ j lj. false_from_ne_true (is_joined events ticks j i) (joined-not j lj));
    part = part-self events ticks i;
  } where
    joined-not : (j : ℕ) → j < length events → is_joined events ticks j i ≡ true → ⊥
    joined-not j lj e = fails q.second b.0 tick where
      q : IsJoined events ticks j i
      q = joined-is events ticks j i e

      f : (m : ℕ) × (m < k) × (slice_index order m ≡ j)
      f = let y = found-before events order k j o lj q.earlier in (y.m, y.before, y.is)

      index-j : index_at events (slice_index order f.0) ≡ p
      index-j = ap (index_at events) f.2 ∙ ap (λ n. n - 1) q.own

      quiet : AreQuiet events order k f.0
      quiet a la lb own = false_from_ne_true (sends_at events (slice_index order a)) (λ t.
          let inside = inside-order events order a o (omega (arith, lb, l)) in
          let after = o.rising f.0 a la (omega (arith, lb, l)) in
          let between = is-between events j i (slice_index order a) t (same-own (slice_index order a) i inside here (own ∙ index-j))
          (subst (λ x. is_earlier events x (slice_index order a) ≡ true) f.2 after) (o.rising a k lb l) in
          true≢false (sym between ∙ q.quiet (slice_index order a) inside))

      b : (h < length events) × (slice_index ticks j ≤ slice_index ticks h)
      b =
          let z = w.last f.0 f.1 (subst (λ x. receives_at events x ≡ true) (sym f.2) q.first) quiet in
          subst (λ x. (slice_index opens x < length events) × (slice_index ticks j ≤ slice_index ticks (slice_index opens x))) index-j
          (subst (λ x. (slice_index opens (index_at events (slice_index order f.0)) < length events)
          × (slice_index ticks x ≤ slice_index ticks (slice_index opens (index_at events (slice_index order f.0))))) f.2 z)

      tick : slice_index ticks h ≡ slice_index ticks i
      tick =
          let x = w.held p index-inside b.0 in
          let rise = up x.m k x.before l in
          let at = ap (slice_index ticks) x.at in
          let low = b.1 in
          let same = q.tick in
          omega (arith, rise, at, low, same)

  -- the head that the walk gives it
  pub head-here : IsHead events ticks (head_by events ticks h i) i
  head-here = go (receives_at events i) refl (nat_lt h (length events)) refl (slice_index ticks h == slice_index ticks i) refl where
    go : (a : Bool) → receives_at events i ≡ a → (b : Bool) → nat_lt h (length events) ≡ b → (c : Bool)
        → (slice_index ticks h == slice_index ticks i) ≡ c → IsHead events ticks (cond a (cond b (cond c h i) i) i) i
    go false e b f c g = stays-self (λ rec inside t. true≢false (sym rec ∙ e))
    go true e false f c g = stays-self (λ rec inside t. true≢false (sym (lt-ltb h (length events) inside) ∙ f))
    go true e true f false g = stays-self (λ rec inside t. true≢false (sym (eq-eqb (slice_index ticks h) (slice_index ticks i) t) ∙ g))
    go true e true f true g = joins-open (ltb-true h (length events) f) e (eqb-true (slice_index ticks h) (slice_index ticks i) g)

  module _ (head : ℕ) (is : head ≡ head_by events ticks h i)
      (opened : ℕ) (open_is : opened ≡ cond (receives_at events i) head (length events)) where
    right : IsHead events ticks head i
    right = subst (λ x. IsHead events ticks x i) (sym is) head-here

    new-open : slice_index (set opens p opened) p ≡ opened
    new-open = get_or-set_same opens p opened 0 (let a = w.wide in let b = index-inside in omega (arith, a, b))

    same-open : (q : ℕ) → ¬ (q ≡ p) → slice_index (set opens p opened) q ≡ slice_index opens q
    same-open q n = get_or-set_other opens p q opened 0 n

    new-head : slice_index (set heads i head) i ≡ head
    new-head = get_or-set_same heads i head 0 (let a = w.long in let b = here in omega (arith, a, b))

    -- the open receive of the processor after this event, which receives
    still-open : receives_at events i ≡ true → IsOpen events ticks order (k + 1) p head × (slice_index ticks i ≤ slice_index ticks head)
    still-open rec = subst (λ x. IsOpen events ticks order (k + 1) p x × (slice_index ticks i ≤ slice_index ticks x)) (sym is)
        (go (receives_at events i) refl (nat_lt h (length events)) refl (slice_index ticks h == slice_index ticks i) refl) where
          itself : IsHead events ticks i i → IsOpen events ticks order (k + 1) p i × (slice_index ticks i ≤ slice_index ticks i)
          itself s = (
            record {
              m = k;
              before = omega arith;
              at = refl;
              own = refl;
              receives = rec;
              stays = s.stays;
              quiet = λ a la lb e. absurd (omega (arith, la, lb));
            },
            omega arith,
          )

          longer : IsOpen events ticks order k p h → IsOpen events ticks order (k + 1) p h
          longer x = record {
            m = x.m;
            before = (let b = x.before in omega (arith, b));
            at = x.at;
            own = x.own;
            receives = x.receives;
            stays = x.stays;
            quiet = λ a la lb e. step a la e (cases_lt a k) lb;
          } where
            step : (a : ℕ) → x.m < a → index_at events (slice_index order a) ≡ index_at events (slice_index order x.m)
                → (a < k) ⊎ (k ≤ a) → a < k + 1 → sends_at events (slice_index order a) ≡ false
            step a la e (inl b) lb = x.quiet a la b e
            step a la e (inr b) lb = let same : k ≡ a = omega (arith, b, lb) in
                subst (λ n. sends_at events (slice_index order n) ≡ false) same (one-act events i rec)

          go : (a : Bool) → receives_at events i ≡ a → (b : Bool) → nat_lt h (length events) ≡ b → (c : Bool)
              → (slice_index ticks h == slice_index ticks i) ≡ c
              → IsOpen events ticks order (k + 1) p (cond a (cond b (cond c h i) i) i)
              × (slice_index ticks i ≤ slice_index ticks (cond a (cond b (cond c h i) i) i))
          go false e b f c g = absurd (true≢false (sym rec ∙ e))
          go true e false f c g = itself (stays-self (λ rec inside t. true≢false (sym (lt-ltb h (length events) inside) ∙ f)))
          go true e true f false g =
              itself (stays-self (λ rec inside t. true≢false (sym (eq-eqb (slice_index ticks h) (slice_index ticks i) t) ∙ g)))
          go true e true f true g = (
            longer (w.held p index-inside (ltb-true h (length events) f)),
            (let same = eqb-true (slice_index ticks h) (slice_index ticks i) g in omega (arith, same)),
          )

    opened-is : (t : Bool) → receives_at events i ≡ t → opened ≡ cond t head (length events)
    opened-is t e = open_is ∙ ap (λ b. cond b head (length events)) e

    -- an open receive of another processor stays open
    other-open : (q : ℕ) → ¬ (q ≡ p) → IsOpen events ticks order k q (slice_index opens q)
        → IsOpen events ticks order (k + 1) q (slice_index opens q)
    other-open q n x = record {
      m = x.m;
      before = (let b = x.before in omega (arith, b));
      at = x.at;
      own = x.own;
      receives = x.receives;
      stays = x.stays;
      quiet = λ a la lb e. step a la e (cases_lt a k) lb;
    } where
      step : (a : ℕ) → x.m < a → index_at events (slice_index order a) ≡ index_at events (slice_index order x.m)
          → (a < k) ⊎ (k ≤ a) → a < k + 1 → sends_at events (slice_index order a) ≡ false
      step a la e (inl b) lb = x.quiet a la b e
      step a la e (inr b) lb =
          let same : k ≡ a = omega (arith, b, lb) in
          absurd (n (sym x.own ∙ sym (ap (index_at events) x.at) ∙ sym e ∙ ap (λ c. index_at events (slice_index order c)) (sym same)))

    next-open : (q : ℕ) → q < MAX_PROCESSORS → (q ≡ p) ⊎ ¬ (q ≡ p)
        → slice_index (set opens p opened) q < length events → IsOpen events ticks order (k + 1) q (slice_index (set opens p opened) q)
    next-open q lq (inl e) b = subst (λ x. IsOpen events ticks order (k + 1) x (slice_index (set opens p opened) x))
        (sym e) (subst (λ x. IsOpen events ticks order (k + 1) p x) (sym new-open)
        (own (receives_at events i) refl)) where
          own : (t : Bool) → receives_at events i ≡ t → IsOpen events ticks order (k + 1) p opened
          own true rec = subst (λ x. IsOpen events ticks order (k + 1) p x) (sym (opened-is true rec)) (still-open rec).0
          own false rec = absurd (let at = ap (slice_index (set opens p opened)) e ∙ new-open ∙ opened-is false rec in omega (arith, at, b))
    next-open q lq (inr n) b = let s = same-open q n in
        subst (λ x. IsOpen events ticks order (k + 1) q x) (sym s) (other-open q n (w.held q lq (omega (arith, s, b))))

    next-head : (m : ℕ) → (m < k) ⊎ (k ≤ m) → m < k + 1
        → IsHead events ticks (slice_index (set heads i head) (slice_index order m)) (slice_index order m)
    next-head m (inl b) lm = subst (λ x. IsHead events ticks x (slice_index order m))
        (sym (get_or-set_other heads i (slice_index order m) head 0 (differ-in_order events order m k o b l))) (w.head m b)
    next-head m (inr b) lm =
        let same : k ≡ m = omega (arith, b, lm) in
        subst (λ n. IsHead events ticks (slice_index (set heads i head) (slice_index order n)) (slice_index order n)) same
        (subst (λ x. IsHead events ticks x i) (sym new-head) right)

    -- the receive that is open after this event has the greatest tick
    next-last : (m : ℕ) → (m < k) ⊎ (k ≤ m) → m < k + 1 → (index_at events (slice_index order m) ≡ p)
        ⊎ ¬ (index_at events (slice_index order m) ≡ p) → receives_at events (slice_index order m) ≡ true
        → AreQuiet events order (k + 1) m
        → (slice_index (set opens p opened) (index_at events (slice_index order m)) < length events)
        × (slice_index ticks (slice_index order m) ≤ slice_index ticks
        (slice_index (set opens p opened) (index_at events (slice_index order m))))
    next-last m (inl b) lm (inr n) rec quiet = subst (λ x. (x < length events)
        × (slice_index ticks (slice_index order m) ≤ slice_index ticks x)) (sym (same-open (index_at events (slice_index order m)) n))
        (w.last m b rec (λ a la lb e. quiet a la (omega (arith, lb)) e))
    next-last m (inl b) lm (inl e) rec quiet = subst (λ q. (slice_index (set opens p opened) q < length events) × (slice_index ticks
        (slice_index order m) ≤ slice_index ticks (slice_index (set opens p opened) q))) (sym e) (subst (λ x. (x < length events)
        × (slice_index ticks (slice_index order m) ≤ slice_index ticks x)) (sym new-open) (own (receives_at events i) refl)) where
          sends : receives_at events i ≡ false → sends_at events i ≡ true
          sends not = an-act events i here not

          own : (t : Bool) → receives_at events i ≡ t
              → (opened < length events) × (slice_index ticks (slice_index order m) ≤ slice_index ticks opened)
          own true rec =
              let rise = up m k b l in
              let high = (still-open rec).1 in
              let inside = right.inside in
              subst (λ x. (x < length events) × (slice_index ticks (slice_index order m) ≤ slice_index ticks x))
              (sym (opened-is true rec)) (inside, omega (arith, rise, high))
          own false rec = absurd (true≢false (sym (sends rec) ∙ quiet k b (omega arith) (sym e)))
    next-last m (inr b) lm own rec quiet =
        let same : k ≡ m = omega (arith, b, lm) in
        subst (λ n. (slice_index (set opens p opened) (index_at events (slice_index order n)) < length events)
        × (slice_index ticks (slice_index order n) ≤ slice_index ticks
        (slice_index (set opens p opened) (index_at events (slice_index order n))))) same
        (subst (λ x. (x < length events) × (slice_index ticks i ≤ slice_index ticks x)) (sym new-open)
        (let at = subst (λ n. receives_at events (slice_index order n) ≡ true) (sym same) rec in
        let high = (still-open at).1 in
        subst (λ x. (x < length events) × (slice_index ticks i ≤ slice_index ticks x)) (sym (opened-is true at)) (right.inside, high)))

    -- the walk goes on
    pub heads-step : AreHeads events ticks order (k + 1) (set opens p opened) (set heads i head)
    heads-step = record {
      wide = length-set opens p opened ∙ w.wide;
      long = length-set heads i head ∙ w.long;
      head = λ m lm. next-head m (cases_lt m k) lm;
      held = λ q lq b. next-open q lq (cases_eq q p) b;
      last = λ m lm rec quiet. next-last m (cases_lt m k) lm (cases_eq (index_at events (slice_index order m)) p) rec quiet;
    }

-- at the end each event has its head
pub heads-end : (events : List Event) (ticks order : List ℕ) (k : ℕ) (opens heads : List ℕ) → IsTimeOrder events order
    → length order ≤ k → AreHeads events ticks order k opens heads → AreHeadsOf events ticks heads
heads-end events ticks order k opens heads o l w = record {
  long = w.long;
  each = λ i li.
      let f = place-found (length events) order i o.places li in
      subst (λ x. IsHead events ticks (slice_index heads x) x) f.2 (w.head f.0 (let b = f.1 in omega (arith, b, l)));
}
