-- What messages need of the clocks is met exactly if each is received later than it is sent.
use Rattle.std.proofs.Common.{ℕ, zero, suc, ◌≡◌, ◌+◌, ◌<◌, ◌≤◌, ◌⊎◌, inl, inr, Bool, true, false, cond, List, [], ◌∷◌}
use Rattle.std.proofs.Common.{length, fold, Option, Some, None, refl, sym, ap, ap₂, ◌∙◌, subst, arith, ℤ, ◌-ℤ◌, ◌≤ℤ◌}
use Rattle.std.proofs.Common.{eqb-true, eq-eqb}
use Rattle.std.specs.Prelude.{All, ◌&&◌, ◌==◌, nat_lt}
use Rattle.std.specs.List.{flat_map, range_with_len}
use Rattle.std.proofs.lemmas.Bool.Decides.{leb_tells}
use Rattle.std.proofs.lemmas.List.Elements.{All-append, All-cons, All-head, All-nil, All-tail}
use Rattle.std.proofs.lemmas.Int.{ints}
use Rattle.timed_events.specs.declared.cause_cycles.Hop.{Hop}
use Rattle.timed_events.specs.declared.events.Event.{Event}
use Rattle.timed_events.specs.Checks.{AreMeant, messages_at}
use Rattle.timed_events.specs.Received.{hop_in, hops_at, hops_of}
use Rattle.clock_offsets.specs.declared.refusals.OffsetError.{OffsetError}
use Rattle.clock_offsets.specs.declared.refusals.OffsetError.TheVariants.{Cycle, TooFar, Memory}
use Rattle.clock_offsets.specs.ClockOffsets.{AreRight, Needs, greater}
use Rattle.clock_offsets.specs.EventNeeds.{clock_at, is_between, need_of, needs_among, offset_in, with_need, AreClockOffsets, AreInOrder, AreNeedsAmong, IsClockRefusal, IsInOrder}
use Rattle.clock_offsets.specs.Matrices.{needs_at, AreOffsetsOf, IsOffsetRefusal}
use Rattle.clock_offsets.proofs.ClockOffsets.{cycle-none, Reaches, greater-left, greater-right, greater-either, reaches-less}

both-left : (a b : Bool) → (a && b) ≡ true → a ≡ true
both-left true b h = refl
both-left false b h = absurd (cc)

both-right : (a b : Bool) → (a && b) ≡ true → b ≡ true
both-right true b h = h
both-right false b h = absurd (cc)

module _ (events : List Event) where
  -- a need, if there is one, is no greater than y
  abbrev IsBelow : Option ℤ → ℤ → Type 0
  IsBelow o y = (by : ℤ) → o ≡ Some by → by ≤ℤ y

  -- one message more keeps what is reached
  reach-more : (i j : ℕ) (o : Option ℤ) (a : ℤ) (h : Hop) → Reaches o a → Reaches (with_need events i j o h) a
  reach-more i j o a h r = go (is_between events i j h) where
    go : (t : Bool) → Reaches (cond t (greater o (Some (need_of events h))) o) a
    go true = reaches-less (greater o (Some (need_of events h))) a r.0 r.2 (greater-left o (Some (need_of events h)) r.0 r.1)
    go false = r

  reach-all : (i j : ℕ) (o : Option ℤ) (a : ℤ) (hs : List Hop) → Reaches o a → Reaches (fold (with_need events i j) o hs) a
  reach-all i j o a [] r = r
  reach-all i j o a (h ∷ hs) r = reach-all i j (with_need events i j o h) a hs (reach-more i j o a h r)

  reach-own : (i j : ℕ) (o : Option ℤ) (h : Hop) → is_between events i j h ≡ true → Reaches (with_need events i j o h) (need_of events h)
  reach-own i j o h t = subst (λ b. Reaches (cond b (greater o (Some (need_of events h))) o) (need_of events h))
      (sym t) (greater-right o (Some (need_of events h)) (need_of events h) refl)

  -- each message between two clocks is reached by the greatest need
  abbrev IsReached : List Hop → Hop → Type 0
  IsReached hs h = (i j : ℕ) (o : Option ℤ) → is_between events i j h ≡ true → Reaches (fold (with_need events i j) o hs) (need_of events h)

  reached-more : (g : Hop) (hs ks : List Hop) → All (IsReached hs) ks → All (IsReached (g ∷ hs)) ks
  reached-more g hs [] a = All-nil (IsReached (g ∷ hs))
  reached-more g hs (k ∷ ks) a = All-cons (IsReached (g ∷ hs)) k ks
      (λ i j o t. All-head (IsReached hs) k ks a i j (with_need events i j o g) t) (reached-more g hs ks (All-tail (IsReached hs) k ks a))

  all-reached : (hs : List Hop) → All (IsReached hs) hs
  all-reached [] = All-nil (IsReached [])
  all-reached (h ∷ hs) = All-cons (IsReached (h ∷ hs)) h hs (λ i j o t.
      reach-all i j (with_need events i j o h) (need_of events h) hs (reach-own i j o h t)) (reached-more h hs hs (all-reached hs))

  -- and no need is above that of some message
  abbrev IsMet : ℕ → ℕ → ℤ → Hop → Type 0
  IsMet i j y h = is_between events i j h ≡ true → need_of events h ≤ℤ y

  below-all : (i j : ℕ) (o : Option ℤ) (y : ℤ) (hs : List Hop)
      → IsBelow o y → All (IsMet i j y) hs → IsBelow (fold (with_need events i j) o hs) y
  below-all i j o y [] b a = b
  below-all i j o y (h ∷ hs) b a = below-all i j (with_need events i j o h) y hs
      (go (is_between events i j h) refl) (All-tail (IsMet i j y) h hs a) where
        go : (t : Bool) → is_between events i j h ≡ t → IsBelow (cond t (greater o (Some (need_of events h))) o) y
        go true e by g = which (greater-either o (Some (need_of events h)) by g) where
          which : (o ≡ Some by) ⊎ (Some (need_of events h) ≡ Some by) → by ≤ℤ y
          which (inl f) = b by f
          which (inr f) = let s : need_of events h ≡ by = cc in subst (λ x. x ≤ℤ y) s (All-head (IsMet i j y) h hs a e)
        go false e by g = b by g

  between-own : (h : Hop) → is_between events (clock_at events h.message) (clock_at events h.event) h ≡ true
  between-own h = ap₂ (λ a b. a && b) (eq-eqb (clock_at events h.message) (clock_at events h.message) refl)
      (eq-eqb (clock_at events h.event) (clock_at events h.event) refl)

  -- a message that went between clocks below n
  abbrev IsWithin : ℕ → Hop → Type 0
  IsWithin n h = (clock_at events h.message < n) × (clock_at events h.event < n)

  in-order : (n : ℕ) (x : ℕ → ℤ) (hs ks : List Hop)
      → AreRight n (needs_among events hs) x → All (IsReached hs) ks → All (IsWithin n) ks → All (IsInOrder events x) ks
  in-order n x hs [] r a w = All-nil (IsInOrder events x)
  in-order n x hs (k ∷ ks) r a w = All-cons (IsInOrder events x) k ks one
      (in-order n x hs ks r (All-tail (IsReached hs) k ks a) (All-tail (IsWithin n) k ks w)) where
        one : IsInOrder events x k
        one =
            let m = All-head (IsReached hs) k ks a (clock_at events k.message) (clock_at events k.event) None (between-own k) in
            let b = All-head (IsWithin n) k ks w in
            let u = r (clock_at events k.message) (clock_at events k.event) m.0 b.0 b.1 m.1 in
            let v = m.2 in
            omega (arith, ints)

  needs-met : (x : ℕ → ℤ) (i j : ℕ) (hs : List Hop) → All (IsInOrder events x) hs → All (IsMet i j (x j -ℤ x i)) hs
  needs-met x i j [] a = All-nil (IsMet i j (x j -ℤ x i))
  needs-met x i j (h ∷ hs) a =
      All-cons (IsMet i j (x j -ℤ x i)) h hs
      (λ t.
      one (eqb-true (clock_at events h.message) i
      (both-left (clock_at events h.message == i) (clock_at events h.event == j) t))
      (eqb-true (clock_at events h.event) j
      (both-right (clock_at events h.message == i) (clock_at events h.event == j) t)))
      (needs-met x i j hs (All-tail (IsInOrder events x) h hs a)) where
        one : clock_at events h.message ≡ i → clock_at events h.event ≡ j → need_of events h ≤ℤ (x j -ℤ x i)
        one e f =
            let u = All-head (IsInOrder events x) h hs a in
            let p = ap x e in
            let q = ap x f in
            omega (arith, ints)

  -- so right offsets are those after which each message is received later than it is sent
  pub order-of-right : (n : ℕ) (x : ℕ → ℤ) → All (IsWithin n) (hops_of events)
      → AreRight n (needs_among events (hops_of events)) x → AreInOrder events x
  order-of-right n x w r = in-order n x (hops_of events) (hops_of events) r (all-reached (hops_of events)) w

  pub right-of-order : (n : ℕ) (x : ℕ → ℤ) → AreInOrder events x → AreRight n (needs_among events (hops_of events)) x
  right-of-order n x a i j by li lj e =
      let u = below-all i j None (x j -ℤ x i) (hops_of events) (λ b f. absurd (cc f)) (needs-met x i j (hops_of events) a) by e in
      omega (arith, ints)

-- the messages that the events received went between their clocks
flat-all : {A B : Type 0} (P : B → Type 0) (f : A → List B) (xs : List A) → All (λ x. All P (f x)) xs → All P (flat_map f xs)
flat-all P f [] a = All-nil P
flat-all P f (x ∷ xs) a = All-append P (f x) (flat_map f xs)
    (All-head (λ x. All P (f x)) x xs a) (flat-all P f xs (All-tail (λ x. All P (f x)) x xs a))

module _ (n : ℕ) (events : List Event) (meant : AreMeant events n) where
  clock-within : (i : ℕ) → i < length events → clock_at events i < n
  clock-within i l = let m = meant i l in let a = m.least in let b = m.most in omega arith

  hop-within : (i : ℕ) → i < length events → (m : Option ℕ) → All (IsWithin events n) (hop_in (length events) i m)
  hop-within i l None = All-nil (IsWithin events n)
  hop-within i l (Some s) = go (leb_tells (suc s) (length events)) where
    go : ((nat_lt s (length events) ≡ true) × (suc s ≤ length events)) ⊎ ((nat_lt s (length events) ≡ false) × (length events < suc s))
        → All (IsWithin events n) (hop_in (length events) i (Some s))
    go (inl h) = subst (λ b. All (IsWithin events n) (cond b (record { event = i; message = s } ∷ []) [])) (sym h.0)
        (All-cons (IsWithin events n) (record { event = i; message = s }) []
        (clock-within s (omega (arith, h.1)), clock-within i l) (All-nil (IsWithin events n)))
    go (inr h) = subst (λ b. All (IsWithin events n) (cond b (record { event = i; message = s } ∷ []) []))
        (sym h.0) (All-nil (IsWithin events n))

  hops-at-within : (i : ℕ) → i < length events → (ms : List (Option ℕ)) → All (λ m. All (IsWithin events n) (hop_in (length events) i m)) ms
  hops-at-within i l [] = All-nil (λ m. All (IsWithin events n) (hop_in (length events) i m))
  hops-at-within i l (m ∷ ms) = All-cons (λ m. All (IsWithin events n) (hop_in (length events) i m)) m ms
      (hop-within i l m) (hops-at-within i l ms)

  each-within : (a k : ℕ) → a + k ≤ length events → All (λ i. All (IsWithin events n) (hops_at events i)) (range_with_len a k)
  each-within a zero l = All-nil (λ i. All (IsWithin events n) (hops_at events i))
  each-within a (suc k) l = All-cons (λ i. All (IsWithin events n) (hops_at events i)) a (range_with_len (a + 1) k)
      (flat-all (IsWithin events n) (hop_in (length events) a) (messages_at events a)
      (hops-at-within a (omega arith) (messages_at events a))) (each-within (a + 1) k (omega arith))

  pub hops-within : All (IsWithin events n) (hops_of events)
  hops-within = flat-all (IsWithin events n) (hops_at events)
      (range_with_len 0 (length events)) (each-within 0 (length events) (omega arith))

-- needs that are the same are met by the same offsets
right-same : (n : ℕ) (a b : Needs) (x : ℕ → ℤ) → ((i j : ℕ) → i < n → j < n → a i j ≡ b i j) → AreRight n a x → AreRight n b x
right-same n a b x e r i j by li lj h = r i j by li lj (e i j li lj ∙ h)

module _ (n : ℕ) (events : List Event) (most : n ≤ 64) (needs : List (Option ℤ)) (h : AreNeedsAmong events (hops_of events) needs) where
  to-list : (x : ℕ → ℤ) → AreInOrder events x → AreRight n (needs_at needs) x
  to-list x o = right-same n (needs_among events (hops_of events))
      (needs_at needs) x (λ i j li lj. sym (h.each i j (omega arith) (omega arith))) (right-of-order events n x o)

  from-list : (x : ℕ → ℤ) → AreMeant events n → AreRight n (needs_at needs) x → AreInOrder events x
  from-list x meant r = order-of-right events n x (hops-within n events meant)
      (right-same n (needs_at needs) (needs_among events (hops_of events)) x (λ i j li lj. h.each i j (omega arith) (omega arith)) r)

  least-list : (offsets : List ℤ) → AreMeant events n → AreOffsetsOf n needs offsets → AreClockOffsets n events offsets
  least-list offsets meant o = record {
    long = o.long;
    ordered = from-list (offset_in offsets) meant o.least.right;
    forward = o.least.forward;
    least = λ y r f i l. o.least.least y (to-list y r) f i l;
  }

  refused-list : (why : OffsetError) → IsOffsetRefusal n needs why → IsClockRefusal events why
  refused-list (Cycle clock) c = λ y o. cycle-none n clock (needs_at needs) y c.0 c.1 (to-list y o)
  refused-list TooFar c = tt
  refused-list Memory c = tt

pub offsets-of-needs : (n : ℕ) (events : List Event) → AreMeant events n → n ≤ 64
    → (hops read : List Hop) (needs seen : List (Option ℤ)) (offsets : List ℤ) → hops ≡ hops_of events → read ≡ hops
    → seen ≡ needs → AreNeedsAmong events read needs → AreOffsetsOf n seen offsets → AreClockOffsets n events offsets
offsets-of-needs n events meant most hops read needs seen offsets e f g h o =
    least-list n events most seen
    (subst (λ hs. AreNeedsAmong events hs seen) (f ∙ e) (subst (AreNeedsAmong events read) (sym g) h)) offsets meant o

pub refusal-of-needs : (n : ℕ) (events : List Event) (read : List Hop) (needs seen : List (Option ℤ))
    (why : OffsetError) → n ≤ 64 → {hops : List Hop} → hops ≡ hops_of events → read ≡ hops → seen ≡ needs
    → AreNeedsAmong events read needs → IsOffsetRefusal n seen why → IsClockRefusal events why
refusal-of-needs n events read needs seen why most e f g h o =
    refused-list n events most seen (subst (λ hs. AreNeedsAmong events hs seen) (f ∙ e) (subst (AreNeedsAmong events read) (sym g) h)) why o
